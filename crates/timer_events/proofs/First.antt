-- The first deadline, and what it says of a clock reading.
use Rattle.std.proofs.Common.{◌≡◌, ℕ, ◌<◌, List, [], ◌∷◌, zero, suc, eqb, Option, true, false, ◌||◌, ◌&&◌, ◌==◌, nat_lt, nat_le, Some, refl, subst, arith}
use Rattle.std.proofs.lemmas.Bool.{or_parts, cond_both}
use Rattle.std.proofs.lemmas.List.Sums.{AllPass-from_list_all, list_all-from_AllPass}
use Rattle.freeze_ledger.specs.declared.freeze.Holder.{Holder}
use Rattle.freeze_ledger.specs.declared.freeze.Holder.TheVariants.{Run, Timer, Guest}
use Rattle.freeze_ledger.specs.declared.freeze.Freeze.{Freeze}
use Rattle.freeze_ledger.specs.Freezes.{is_due, entry_of}
use Rattle.freeze_ledger.specs.Deadlines.{is_timer, some_timer, goes_behind, all_behind}
use Rattle.timer_events.specs.Next.{some_due, NextIsOne}

-- what goes after one that is not due yet is not due
late : (reading due number : ℕ) (h : Holder) (other : ℕ) → reading < due → goes_behind due number h other ≡ true → is_due reading h ≡ false
late reading due number (Run r) other later behind = refl
late reading due number (Timer last) other later behind = grind (arith, later, behind)
late reading due number (Guest g) other later behind = refl

pub none_yet : (reading due number : ℕ) (fs : List Freeze) → reading < due → all_behind due number fs ≡ true → some_due reading fs ≡ false
none_yet reading due number [] later behind = refl
none_yet reading due number (f ∷ fs) later behind =
    let each = AllPass-from_list_all (λ (x : Freeze). goes_behind due number x.holder x.number) (f ∷ fs) behind in
    let rest = list_all-from_AllPass (λ (x : Freeze). goes_behind due number x.holder x.number) fs (λ k d l. each (suc k) d (omega (arith, l))) in
    rw (late reading due number f.holder f.number later (each zero f (omega arith))) (none_yet reading due number fs later rest)

-- a run's freeze and a guest's are never due
never : (reading : ℕ) (h : Holder) → is_timer h ≡ false → is_due reading h ≡ false
never reading (Run r) other = refl
never reading (Timer due) other = absurd (cc other)
never reading (Guest g) other = refl

pub none_ever : (reading : ℕ) (fs : List Freeze) → some_timer fs ≡ false → some_due reading fs ≡ false
none_ever reading [] none = refl
none_ever reading (f ∷ fs) none =
    let parts = or_parts _ _ none in
    rw (never reading f.holder parts.0) (none_ever reading fs parts.1)

-- where none is due, no entry of a number is
pub found_late : (reading n : ℕ) (fs : List Freeze) (f : Freeze) → some_due reading fs ≡ false → entry_of n fs ≡ Some f → is_due reading f.holder ≡ false
found_late reading n [] f none found = absurd (cc found)
found_late reading n (g ∷ fs) f none found =
    let parts = or_parts (is_due reading g.holder) (some_due reading fs) none in
    cond_both (eqb g.number n) (Some g) (entry_of n fs) (λ (o : Option Freeze). o ≡ Some f → is_due reading f.holder ≡ false)
    (λ _ e. let same : g ≡ f = cc e in subst (λ (x : Freeze). is_due reading x.holder ≡ false) same parts.0)
    (λ _ e. found_late reading n fs f parts.1 e)
    found

-- what is found in a list passes a test that all of it pass
found_passes : (number due other : ℕ) (fs : List Freeze) (f : Freeze) → all_behind due number fs ≡ true → entry_of other fs ≡ Some f → goes_behind due number f.holder f.number ≡ true
found_passes number due other [] f behind found = absurd (cc found)
found_passes number due other (g ∷ fs) f behind found =
    let each = AllPass-from_list_all (λ (x : Freeze). goes_behind due number x.holder x.number) (g ∷ fs) behind in
    let rest = list_all-from_AllPass (λ (x : Freeze). goes_behind due number x.holder x.number) fs (λ k d l. each (suc k) d (omega (arith, l))) in
    cond_both (eqb g.number other) (Some g) (entry_of other fs) (λ (o : Option Freeze). o ≡ Some f → goes_behind due number f.holder f.number ≡ true)
    (λ _ e. let same : g ≡ f = cc e in subst (λ (x : Freeze). goes_behind due number x.holder x.number ≡ true) same (each zero g (omega arith)))
    (λ _ e. found_passes number due other fs f rest e)
    found

both_behind : (due number later higher : ℕ) → (nat_lt due later || (due == later && nat_le number higher)) ≡ true → (nat_lt later due || (later == due && nat_le higher number)) ≡ true → number ≡ higher
both_behind due number later higher forth back = grind (arith, forth, back)

-- of two that are next neither goes before the other
pub next_is_one : NextIsOne
next_is_one reading freezes one other is_one is_other =
    let forth = found_passes one is_one.due other freezes _ is_one.first is_other.held in
    let back = found_passes other is_other.due one freezes _ is_other.first is_one.held in
    both_behind is_one.due one is_other.due other forth back
