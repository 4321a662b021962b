-- The freezes that a run holds, as the entries say, after one entry more, one fewer, and one that gets another holder.
use Rattle.std.proofs.Common.{◌≡◌, ℕ, ◌<◌, List, [], ◌∷◌, ◌++◌, map, Bool, true, false, not, eqb, Some, None, inl, inr, refl, ap, sym, subst, ◌∙◌, arith}
use Rattle.std.specs.List.{filter}
use Rattle.std.specs.Prelude.{◌||◌}
use Rattle.std.proofs.lemmas.Bool.{or_left, cases_Bool, cases_eq, cond-true, cond-false, eq-eqb, ne_eqb, not_from_true, not_from_false}
use Rattle.freeze_ledger.specs.declared.freeze.Freeze.{Freeze}
use Rattle.freeze_ledger.specs.Freezes.{entry_of, without}
use Rattle.bpf_semantics.specs.Calls.{is_held}
use Rattle.world.specs.RunSteps.{is_run}
use Rattle.world.specs.Laws.FreezeLaws.{entries_of, held_by}
use Rattle.world.proofs.Lists.Found.{put, at_head, at_tail, put_head, put_tail, leave_head, leave_tail, found_key, filter_yes, filter_no, filter_swap}
use Rattle.world.proofs.Lists.Entries.{freeze_key, FreezesRise, entry_bounds}

-- the first entry is the run's, or it is not
pub entries_head : (r : ℕ) (g : Freeze) (fs : List Freeze) → is_run r g.holder ≡ true → entries_of r (g ∷ fs) ≡ g ∷ entries_of r fs
entries_head r g fs e = cond-true (is_run r g.holder) (g ∷ entries_of r fs) (entries_of r fs) e

pub entries_tail : (r : ℕ) (g : Freeze) (fs : List Freeze) → is_run r g.holder ≡ false → entries_of r (g ∷ fs) ≡ entries_of r fs
entries_tail r g fs e = cond-false (is_run r g.holder) (g ∷ entries_of r fs) (entries_of r fs) e

pub held_head : (r : ℕ) (g : Freeze) (fs : List Freeze) → is_run r g.holder ≡ true → held_by r (g ∷ fs) ≡ g.number ∷ held_by r fs
held_head r g fs e = ap (map freeze_key) (entries_head r g fs e)

pub held_tail : (r : ℕ) (g : Freeze) (fs : List Freeze) → is_run r g.holder ≡ false → held_by r (g ∷ fs) ≡ held_by r fs
held_tail r g fs e = ap (map freeze_key) (entries_tail r g fs e)

-- one more at the end
pub held_push_own : (r : ℕ) (fs : List Freeze) (f : Freeze) → is_run r f.holder ≡ true → held_by r (fs ++ f ∷ []) ≡ held_by r fs ++ f.number ∷ []
held_push_own r [] f e = held_head r f [] e
held_push_own r (g ∷ fs) f e =
    elim (cases_Bool (is_run r g.holder)) [
      | inl its ↦ held_head r g (fs ++ f ∷ []) its ∙ (ap (λ (ns : List ℕ). g.number ∷ ns) (held_push_own r fs f e) ∙ sym (ap (λ (ns : List ℕ). ns ++ f.number ∷ []) (held_head r g fs its)))
      | inr other ↦ held_tail r g (fs ++ f ∷ []) other ∙ (held_push_own r fs f e ∙ sym (ap (λ (ns : List ℕ). ns ++ f.number ∷ []) (held_tail r g fs other)))
    ]

pub entries_push_other : (r : ℕ) (fs : List Freeze) (f : Freeze) → is_run r f.holder ≡ false → entries_of r (fs ++ f ∷ []) ≡ entries_of r fs
entries_push_other r [] f e = entries_tail r f [] e
entries_push_other r (g ∷ fs) f e =
    elim (cases_Bool (is_run r g.holder)) [
      | inl its ↦ entries_head r g (fs ++ f ∷ []) its ∙ (ap (λ (gs : List Freeze). g ∷ gs) (entries_push_other r fs f e) ∙ sym (entries_head r g fs its))
      | inr other ↦ entries_tail r g (fs ++ f ∷ []) other ∙ (entries_push_other r fs f e ∙ sym (entries_tail r g fs other))
    ]

-- one fewer of its own
pub held_without_own : (r n : ℕ) (fs : List Freeze) → held_by r (without n fs) ≡ filter (λ k. not (eqb k n)) (held_by r fs)
held_without_own r n [] = refl
held_without_own r n (g ∷ fs) =
    elim (cases_eq g.number n) [
      | inl same ↦
          ap (held_by r) (cond-false (not (eqb g.number n)) (g ∷ without n fs) (without n fs) (not_from_true _ (eq-eqb _ _ same)))
          ∙ (held_without_own r n fs
          ∙ elim (cases_Bool (is_run r g.holder)) [
            | inl its ↦
                sym (ap (filter (λ (k : ℕ). not (eqb k n))) (held_head r g fs its)
                ∙ cond-false (not (eqb g.number n)) (g.number ∷ filter (λ (k : ℕ). not (eqb k n)) (held_by r fs)) (filter (λ (k : ℕ). not (eqb k n)) (held_by r fs)) (not_from_true _ (eq-eqb _ _ same)))
            | inr other ↦ sym (ap (filter (λ (k : ℕ). not (eqb k n))) (held_tail r g fs other))
          ])
      | inr apart ↦
          ap (held_by r) (cond-true (not (eqb g.number n)) (g ∷ without n fs) (without n fs) (not_from_false _ (ne_eqb _ _ apart)))
          ∙ elim (cases_Bool (is_run r g.holder)) [
            | inl its ↦
                held_head r g (without n fs) its
                ∙ (ap (λ (ns : List ℕ). g.number ∷ ns) (held_without_own r n fs)
                ∙ sym (ap (filter (λ (k : ℕ). not (eqb k n))) (held_head r g fs its)
                ∙ cond-true (not (eqb g.number n)) (g.number ∷ filter (λ (k : ℕ). not (eqb k n)) (held_by r fs)) (filter (λ (k : ℕ). not (eqb k n)) (held_by r fs)) (not_from_false _ (ne_eqb _ _ apart))))
            | inr other ↦
                held_tail r g (without n fs) other
                ∙ (held_without_own r n fs ∙ sym (ap (filter (λ (k : ℕ). not (eqb k n))) (held_tail r g fs other)))
          ]
    ]

-- the entries of a run after one fewer
pub entries_without : (r n : ℕ) (fs : List Freeze) → entries_of r (without n fs) ≡ without n (entries_of r fs)
entries_without r n fs = filter_swap freeze_key (λ (f : Freeze). is_run r f.holder) (λ (f : Freeze). not (eqb f.number n)) fs

-- some fewer, of which none is the run's
pub entries_kept : (r low : ℕ) (fs : List Freeze) (high : ℕ) (gone : Freeze → Bool) → FreezesRise low fs high → ((n : ℕ) (f : Freeze) → entry_of n fs ≡ Some f → is_run r f.holder ≡ true → gone f ≡ false) → entries_of r (filter (λ f. not (gone f)) fs) ≡ entries_of r fs
entries_kept r low [] high gone h keep = refl
entries_kept r low (g ∷ fs) high gone h keep =
    let rest = entries_kept r g.number fs high gone h.1 (λ n f entry its.
    keep n f (at_tail freeze_key n g fs (λ e. let up = entry_bounds g.number fs high n f h.1 entry in omega (arith, e, up.1)) ∙ entry) its) in
    elim (cases_Bool (gone g)) [
      | inl goes ↦
          let apart : is_run r g.holder ≡ false = elim (cases_Bool (is_run r g.holder)) [
            | inl its ↦ absurd (let bad : false ≡ true = sym (keep g.number g (at_head freeze_key g.number g fs refl) its) ∙ goes in cc)
            | inr other ↦ other
          ] in
          ap (entries_of r) (filter_no freeze_key (λ (f : Freeze). not (gone f)) g fs (not_from_true _ goes)) ∙ (rest ∙ sym (entries_tail r g fs apart))
      | inr stays ↦
          ap (entries_of r) (filter_yes freeze_key (λ (f : Freeze). not (gone f)) g fs (not_from_false _ stays))
          ∙ elim (cases_Bool (is_run r g.holder)) [
            | inl its ↦ entries_head r g (filter (λ (f : Freeze). not (gone f)) fs) its ∙ (ap (λ (gs : List Freeze). g ∷ gs) rest ∙ sym (entries_head r g fs its))
            | inr other ↦ entries_tail r g (filter (λ (f : Freeze). not (gone f)) fs) other ∙ (rest ∙ sym (entries_tail r g fs other))
          ]
    ]

-- one fewer of another holder
pub entries_without_other : (r n low : ℕ) (fs : List Freeze) (high : ℕ) (f : Freeze) → FreezesRise low fs high → entry_of n fs ≡ Some f → is_run r f.holder ≡ false → entries_of r (without n fs) ≡ entries_of r fs
entries_without_other r n low fs high f h entry e =
    entries_kept r low fs high (λ (g : Freeze). eqb g.number n) h (λ m g there its. ne_eqb _ _ (λ same.
    let named : g.number ≡ m = found_key freeze_key m fs g there in
    let both : Some g ≡ Some f = sym there ∙ (ap (λ (k : ℕ). entry_of k fs) (sym named ∙ same) ∙ entry) in
    let is : g ≡ f = cc in
    let bad : true ≡ false = sym (subst (λ (x : Freeze). is_run r x.holder ≡ true) is its) ∙ e in cc))

-- one that gets another holder, which is not the run, is one fewer to it
pub entries_put : (r : ℕ) (new : Freeze) (fs : List Freeze) → is_run r new.holder ≡ false → entries_of r (put freeze_key new fs) ≡ entries_of r (without new.number fs)
entries_put r new [] e = refl
entries_put r new (g ∷ fs) e =
    let rest = entries_put r new fs e in
    elim (cases_eq g.number new.number) [
      | inl same ↦
          ap (entries_of r) (put_head freeze_key new g fs same)
          ∙ (entries_tail r new (put freeze_key new fs) e ∙ (rest ∙ sym (ap (entries_of r) (leave_head freeze_key new.number g fs same))))
      | inr apart ↦
          ap (entries_of r) (put_tail freeze_key new g fs apart)
          ∙ (elim (cases_Bool (is_run r g.holder)) [
            | inl its ↦ entries_head r g (put freeze_key new fs) its ∙ (ap (λ (gs : List Freeze). g ∷ gs) rest ∙ sym (entries_head r g (without new.number fs) its))
            | inr other ↦ entries_tail r g (put freeze_key new fs) other ∙ (rest ∙ sym (entries_tail r g (without new.number fs) other))
          ]
          ∙ sym (ap (entries_of r) (leave_tail freeze_key new.number g fs apart)))
    ]

-- a run that no entry names holds nothing
pub held_none : (r low : ℕ) (fs : List Freeze) (high : ℕ) → FreezesRise low fs high → ((n : ℕ) (f : Freeze) → entry_of n fs ≡ Some f → is_run r f.holder ≡ false) → held_by r fs ≡ []
held_none r low [] high h none = refl
held_none r low (g ∷ fs) high h none =
    held_tail r g fs (none g.number g (at_head freeze_key g.number g fs refl))
    ∙ held_none r g.number fs high h.1 (λ n f entry. none n f (at_tail freeze_key n g fs (λ e. let up = entry_bounds g.number fs high n f h.1 entry in omega (arith, e, up.1)) ∙ entry))

first_is : (n k : ℕ) (ns : List ℕ) → k ≡ n → is_held (k ∷ ns) n ≡ true
first_is n k ns same = or_left (eqb k n) (is_held ns n) (eq-eqb _ _ same)

later_is : (n k : ℕ) (ns : List ℕ) → (k ≡ n → ⊥) → is_held (k ∷ ns) n ≡ is_held ns n
later_is n k ns apart = ap (λ (b : Bool). b || is_held ns n) (ne_eqb _ _ apart)

-- what an entry says that the run holds is among what it holds
pub is_among : (r n : ℕ) (fs : List Freeze) (f : Freeze) → entry_of n fs ≡ Some f → is_run r f.holder ≡ true → is_held (held_by r fs) n ≡ true
is_among r n [] f entry e = absurd (let bad : None ≡ Some f = entry in cc)
is_among r n (g ∷ fs) f entry e =
    elim (cases_eq g.number n) [
      | inl same ↦
          let both : Some g ≡ Some f = sym (at_head freeze_key n g fs same) ∙ entry in
          let is : g ≡ f = cc in
          ap (λ (ns : List ℕ). is_held ns n) (held_head r g fs (subst (λ (x : Freeze). is_run r x.holder ≡ true) (sym is) e))
          ∙ first_is n g.number (held_by r fs) same
      | inr apart ↦
          let rest = is_among r n fs f (sym (at_tail freeze_key n g fs apart) ∙ entry) e in
          elim (cases_Bool (is_run r g.holder)) [
            | inl its ↦ ap (λ (ns : List ℕ). is_held ns n) (held_head r g fs its) ∙ (later_is n g.number (held_by r fs) apart ∙ rest)
            | inr other ↦ ap (λ (ns : List ℕ). is_held ns n) (held_tail r g fs other) ∙ rest
          ]
    ]

-- and what is among that has such an entry
pub among_is : (r n low : ℕ) (fs : List Freeze) (high : ℕ) → FreezesRise low fs high → is_held (held_by r fs) n ≡ true → (f : Freeze) × (entry_of n fs ≡ Some f) × (is_run r f.holder ≡ true)
among_is r n low [] high h e = absurd (let bad : false ≡ true = e in cc)
among_is r n low (g ∷ fs) high h e =
    let further : is_held (held_by r fs) n ≡ true → (f : Freeze) × (entry_of n (g ∷ fs) ≡ Some f) × (is_run r f.holder ≡ true) = λ among.
    let it = among_is r n g.number fs high h.1 among in
    (it.0, at_tail freeze_key n g fs (λ same. let up = entry_bounds g.number fs high n it.0 h.1 it.1 in omega (arith, same, up.1)) ∙ it.1, it.2) in
    elim (cases_Bool (is_run r g.holder)) [
      | inl its ↦
          elim (cases_eq g.number n) [
            | inl same ↦ (g, at_head freeze_key n g fs same, its)
            | inr apart ↦ further (sym (ap (λ (ns : List ℕ). is_held ns n) (held_head r g fs its) ∙ later_is n g.number (held_by r fs) apart) ∙ e)
          ]
      | inr other ↦ further (sym (ap (λ (ns : List ℕ). is_held ns n) (held_tail r g fs other)) ∙ e)
    ]

-- a number that is still to be given is not held
pub none_above : (r n : ℕ) (fs : List Freeze) (high : ℕ) → FreezesRise 0 fs high → high < n → is_held (held_by r fs) n ≡ false
none_above r n fs high h above =
    elim (cases_Bool (is_held (held_by r fs) n)) [
      | inl held ↦
          let it = among_is r n 0 fs high h held in
          let up = entry_bounds 0 fs high n it.0 h it.1 in
          absurd (omega (arith, above, up.2))
      | inr free ↦ free
    ]
