-- Lists of freezes: what one more at the end, one fewer by its number, and one that is handed over leave.
use Rattle.std.proofs.Common.{◌≡◌, ℕ, ◌+◌, ◌<◌, ◌≤◌, List, [], ◌∷◌, ◌++◌, map, Bool, true, false, cond, eqb, Option, Some, None, IsSome, not, inl, inr, refl, ap, sym, ◌∙◌, arith}
use Rattle.std.proofs.lemmas.Bool.{cases_eq, cond-true, cond-false, eq-eqb, ne_eqb, eqb-true}
use Rattle.std.proofs.lemmas.List.Sums.{sum_by_push, sum_by-cons}
use Rattle.std.proofs.lemmas.List.Filters.{sum_by-filter_both}
use Rattle.std.specs.List.{count_by}
use Rattle.ccb.specs.Rising.{AreRising}
use Rattle.freeze_ledger.specs.declared.freeze.Holder.TheVariants.{Timer}
use Rattle.freeze_ledger.specs.declared.freeze.Freeze.{Freeze}
use Rattle.ccb.specs.declared.place.Place.{Place}
use Rattle.ccb.specs.Places.{index_of, is_place}
use Rattle.freeze_ledger.specs.Freezes.{names, frozen, entry_of, without, handed_over, is_due, due_at, not_due_at}
use Rattle.world.proofs.Lists.Found.{put, at_head, at_tail, put_tail, found_key, missing_push, leave_same}
use Rattle.world.proofs.Lists.Rising.{put_here, found_bounds, count_gone}

abbrev pub freeze_key : Freeze → ℕ
freeze_key freeze = freeze.number

-- their numbers rise
abbrev pub FreezesRise : ℕ → List Freeze → ℕ → Type 0
FreezesRise low freezes high = AreRising low (map freeze_key freezes) high

-- a place is itself
pub place_itself : (place : Place) → is_place place place ≡ true
place_itself place = eq-eqb (index_of place) (index_of place) refl

-- what freezes one place freezes it under each of its names
pub same_frozen : (one other : Place) (fs : List Freeze) → is_place one other ≡ true → frozen one fs ≡ frozen other fs
same_frozen one other fs same = ap (λ (n : ℕ). count_by (λ (f : Freeze). eqb (index_of f.place) n) fs) (eqb-true (index_of one) (index_of other) same)

pub frozen_push : (q : Place) (fs : List Freeze) (f : Freeze) → frozen q (fs ++ f ∷ []) ≡ frozen q fs + cond (names q f) 1 0
frozen_push q fs f = sum_by_push (λ (x : Freeze). cond (names q x) 1 0) fs f

-- where no freeze has the number, one of another number changes nothing of that
pub entry_push : (n : ℕ) (fs : List Freeze) (f : Freeze) → (f.number ≡ n → ⊥) → entry_of n fs ≡ None → entry_of n (fs ++ f ∷ []) ≡ None
entry_push n fs f other none = missing_push freeze_key n fs f none ∙ at_tail freeze_key n f [] other

-- the number that was removed is there no more
pub entry_removed : (n : ℕ) (fs : List Freeze) → entry_of n (without n fs) ≡ None
entry_removed n fs = leave_same freeze_key n fs

-- the freeze of a number bears it, and it lies between the least and the greatest
pub entry_bounds : (low : ℕ) (fs : List Freeze) (high n : ℕ) (f : Freeze) → FreezesRise low fs high → entry_of n fs ≡ Some f → (f.number ≡ n) × (low < n) × (n ≤ high)
entry_bounds low fs high n f h e =
    let bounds = found_bounds freeze_key low fs high n f h e in
    (found_key freeze_key n fs f e, bounds.0, bounds.1)

-- a removal takes one from the count of what the freeze names
pub frozen_without : (q : Place) (low : ℕ) (fs : List Freeze) (high n : ℕ) (f : Freeze) → FreezesRise low fs high → entry_of n fs ≡ Some f → frozen q (without n fs) + cond (names q f) 1 0 ≡ frozen q fs
frozen_without q low fs high n f h e = count_gone freeze_key (names q) low fs high n f h e

-- a number that all are above is handed over nowhere
handed_low : (n due low : ℕ) (fs : List Freeze) (high : ℕ) → n ≤ low → FreezesRise low fs high → handed_over n due fs ≡ fs
handed_low n due low [] high le h = refl
handed_low n due low (g ∷ fs) high le h =
    let kept : cond {A = Freeze} (eqb g.number n) (record g { holder = Timer due }) g ≡ g = cond-false (eqb g.number n) _ _ (ne_eqb g.number n (λ e. omega (arith, h.0, e, le))) in
    λ i. kept i ∷ handed_low n due g.number fs high (omega (arith, h.0, le)) h.1 i

-- so handing over changes the one freeze of that number
pub handed_is_put : (n due low : ℕ) (fs : List Freeze) (high : ℕ) (f : Freeze) → FreezesRise low fs high → entry_of n fs ≡ Some f → handed_over n due fs ≡ put freeze_key (record f { holder = Timer due }) fs
handed_is_put n due low [] high f h e = absurd (let bad : None ≡ Some f = e in cc)
handed_is_put n due low (g ∷ fs) high f h e =
    elim (cases_eq g.number n) [
      | inl same ↦
          let both : Some g ≡ Some f = sym (at_head freeze_key n g fs same) ∙ e in
          let is : g ≡ f = cc in
          let changed : cond {A = Freeze} (eqb g.number n) (record g { holder = Timer due }) g ≡ record g { holder = Timer due } = cond-true (eqb g.number n) _ _ (eq-eqb _ _ same) in
          let others = handed_low n due g.number fs high (omega (arith, same)) h.1 in
          (λ i. changed i ∷ others i)
          ∙ (ap (λ (x : Freeze). record x { holder = Timer due } ∷ fs) is
          ∙ sym (put_here freeze_key low fs high (record f { holder = Timer due }) g h (ap freeze_key is)))
      | inr apart ↦
          let rest_is = sym (at_tail freeze_key n g fs apart) ∙ e in
          let named : f.number ≡ n = found_key freeze_key n fs f rest_is in
          let kept : cond {A = Freeze} (eqb g.number n) (record g { holder = Timer due }) g ≡ g = cond-false (eqb g.number n) _ _ (ne_eqb _ _ apart) in
          let rest = handed_is_put n due g.number fs high f h.1 rest_is in
          (λ i. kept i ∷ rest i) ∙ sym (put_tail freeze_key (record f { holder = Timer due }) g fs (λ same. apart (same ∙ named)))
    ]

-- it moves no count, since the place stays
pub frozen_handed_over : (q : Place) (n due : ℕ) (fs : List Freeze) → frozen q (handed_over n due fs) ≡ frozen q fs
frozen_handed_over q n due [] = refl
frozen_handed_over q n due (g ∷ fs) =
    let now : Freeze = cond {A = Freeze} (eqb g.number n) (record g { holder = Timer due }) g in
    let same : names q now ≡ names q g = either (eqb g.number n) in
    omega (
      arith,
      sum_by-cons (λ (x : Freeze). cond {A = ℕ} (names q x) 1 0) now (handed_over n due fs),
      sum_by-cons (λ (x : Freeze). cond {A = ℕ} (names q x) 1 0) g fs,
      ap (λ (b : Bool). cond {A = ℕ} b 1 0) same,
      frozen_handed_over q n due fs,
    )
  where
    either : (b : Bool) → names q (cond {A = Freeze} b (record g { holder = Timer due }) g) ≡ names q g
    either true = refl
    either false = refl

-- the freezes whose timers are due are as many fewer
pub frozen_due : (q : Place) (reading : ℕ) (fs : List Freeze) → frozen q (not_due_at reading fs) + frozen q (due_at reading fs) ≡ frozen q fs
frozen_due q reading fs =
    omega (arith, sum_by-filter_both (λ (f : Freeze). is_due reading f.holder) (λ (f : Freeze). not (is_due reading f.holder)) (λ f. refl) (λ (f : Freeze). cond (names q f) 1 0) fs)

-- what is there no more is not there
pub none_since : (o : Option Freeze) → (IsSome o → ⊥) → o ≡ None
none_since None h = refl
none_since (Some f) h = absurd (h refl)
