-- What stands under keys, and the list of it in the order of numbers: what one more, one fewer and a change of a holder leave.
use Rattle.std.proofs.Common.{◌≡◌, ◌≢◌, ◌⊎◌, ℕ, zero, suc, ◌+◌, ◌-◌, ◌<◌, ◌≤◌, List, [], ◌∷◌, ◌++◌, Contains, not, cond, eqb, Option, Some, None, inl, inr, refl, ap, sym, subst, ◌∙◌, arith}
use Rattle.std.specs.Option.{option_to_list}
use Rattle.std.proofs.lemmas.Bool.{cases_eq, eq-eqb, ne_eqb, cond-true, cond-false, not_from_true, not_from_false}
use Rattle.std.proofs.lemmas.List.{map-append, append-nil}
use Rattle.std.proofs.lemmas.List.Elements.{filter-append, Contains-append_cases, Contains-append_left, Contains-append_right}
use Rattle.freeze_ledger.specs.declared.freeze.Freeze.{Freeze}
use Rattle.freeze_ledger.specs.declared.freeze.Holder.TheVariants.{Timer}
use Rattle.freeze_ledger.specs.Freezes.{without, handed_over, entry_of}
use Rattle.freeze_ledger.specs.Entries.{freeze_at, numbered, up_to, freezes_in, Changes}
use Rattle.freeze_ledger.specs.Invariant.{AreNumbered, AreApart, AreGiven}
use Rattle.freeze_ledger.proofs.Numbered.{numbered_push, raised, entry_at}

pub cases_of : {X : Type 0} (o : Option X) → (o ≡ None) ⊎ ((x : X) × (o ≡ Some x))
cases_of None = inl refl
cases_of (Some x) = inr (x, refl)

-- what bears a number stands under some key, and bears it
pub came : (slots : List (Option Freeze)) (n : ℕ) (f : Freeze) → numbered slots n ≡ Some f → ((key : ℕ) × (freeze_at slots key ≡ Some f)) × (f.number ≡ n)
came [] n f e = absurd (cc e)
came (None ∷ rest) n f e = let r = came rest n f e in ((suc r.0.0, r.0.1), r.1)
came (Some g ∷ rest) n f e =
    elim (cases_eq g.number n) [
      | inl same ↦
          let is : Some g ≡ Some f = sym (cond-true (eqb g.number n) (Some g) (numbered rest n) (eq-eqb _ _ same)) ∙ e in
          let it : g ≡ f = cc is in
          ((zero, is), sym (ap (λ (x : Freeze). x.number) it) ∙ same)
      | inr apart ↦
          let r = came rest n f (sym (cond-false (eqb g.number n) (Some g) (numbered rest n) (ne_eqb _ _ apart)) ∙ e) in
          ((suc r.0.0, r.0.1), r.1)
    ]

tail_apart : (s : Option Freeze) (rest : List (Option Freeze)) → AreApart (s ∷ rest) → AreApart rest
tail_apart s rest apart = λ key other f g e e2 same. omega (arith, apart (suc key) (suc other) f g e e2 same)

-- and what stands under a key is found by its number
pub found : (slots : List (Option Freeze)) → AreApart slots → (key : ℕ) (f : Freeze) → freeze_at slots key ≡ Some f → numbered slots f.number ≡ Some f
found [] apart key f e = absurd (cc e)
found (None ∷ rest) apart zero f e = absurd (cc e)
found (None ∷ rest) apart (suc key) f e = found rest (tail_apart None rest apart) key f e
found (Some g ∷ rest) apart zero f e =
    let it : g ≡ f = cc e in
    cond-true (eqb g.number f.number) (Some g) (numbered rest f.number) (eq-eqb _ _ (ap (λ (x : Freeze). x.number) it)) ∙ e
found (Some g ∷ rest) apart (suc key) f e =
    cond-false (eqb g.number f.number) (Some g) (numbered rest f.number) (ne_eqb _ _ (λ (same : g.number ≡ f.number). omega (arith, apart zero (suc key) g f refl e same)))
    ∙ found rest (tail_apart (Some g) rest apart) key f e

pub missing : (slots : List (Option Freeze)) (n : ℕ) → ((key : ℕ) (f : Freeze) → freeze_at slots key ≡ Some f → f.number ≢ n) → numbered slots n ≡ None
missing slots n none =
    elim (cases_of (numbered slots n)) [
      | inl gone ↦ gone
      | inr some ↦ let c = came slots n some.0 some.1 in absurd (none c.0.0 some.0 c.0.1 c.1)
    ]

-- the same freeze bears a number where the same stands there with it
same_numbered : (old new : List (Option Freeze)) (n : ℕ) → AreApart old → AreApart new → ((key : ℕ) (f : Freeze) → f.number ≡ n → freeze_at new key ≡ Some f → freeze_at old key ≡ Some f) → ((key : ℕ) (f : Freeze) → f.number ≡ n → freeze_at old key ≡ Some f → freeze_at new key ≡ Some f) → numbered new n ≡ numbered old n
same_numbered old new n apart apart2 forth back =
    elim (cases_of (numbered new n)) [
      | inr some ↦
          let c = came new n some.0 some.1 in
          let there = found old apart c.0.0 some.0 (forth c.0.0 some.0 c.1 c.0.1) in
          some.1 ∙ sym (subst (λ (m : ℕ). numbered old m ≡ Some some.0) c.1 there)
      | inl none ↦
          elim (cases_of (numbered old n)) [
            | inl gone ↦ none ∙ sym gone
            | inr some ↦
                let c = came old n some.0 some.1 in
                let there = found new apart2 c.0.0 some.0 (back c.0.0 some.0 c.1 c.0.1) in
                subst (λ (m : ℕ). numbered new m ≡ Some some.0) c.1 there ∙ sym some.1
          ]
    ]

-- a change keeps what holds of each, where it holds of what came
pub each_changed : (old new : List (Option Freeze)) (key : ℕ) (slot : Option Freeze) → Changes old new key slot → (P : Freeze → Type 0) → ((k : ℕ) (f : Freeze) → freeze_at old k ≡ Some f → P f) → ((f : Freeze) → slot ≡ Some f → P f) → (k : ℕ) (f : Freeze) → freeze_at new k ≡ Some f → P f
each_changed old new key slot change P was is k f e =
    elim (cases_eq k key) [
      | inl same ↦ is f (sym change.changed ∙ (ap (freeze_at new) (sym same) ∙ e))
      | inr other ↦ was k f (sym (change.others k other) ∙ e)
    ]

-- and keeps numbers apart, where nothing else bears the number of what came
pub apart_changed : (old new : List (Option Freeze)) (key : ℕ) (slot : Option Freeze) → AreApart old → Changes old new key slot → ((f : Freeze) → slot ≡ Some f → (k : ℕ) (g : Freeze) → k ≢ key → freeze_at old k ≡ Some g → g.number ≢ f.number) → AreApart new
apart_changed old new key slot apart change alone = λ k o f g e e2 same.
    elim (cases_eq k key) [
      | inl here ↦
          elim (cases_eq o key) [
            | inl too ↦ here ∙ sym too
            | inr other ↦
                let came_there : slot ≡ Some f = sym change.changed ∙ (ap (freeze_at new) (sym here) ∙ e) in
                absurd (alone f came_there o g other (sym (change.others o other) ∙ e2) (sym same))
          ]
      | inr there ↦
          elim (cases_eq o key) [
            | inl too ↦
                let came_there : slot ≡ Some g = sym change.changed ∙ (ap (freeze_at new) (sym too) ∙ e2) in
                absurd (alone g came_there k f there (sym (change.others k there) ∙ e) same)
            | inr other ↦ apart k o f g (sym (change.others k there) ∙ e) (sym (change.others o other) ∙ e2) same
          ]
    ]

-- a list of what bears numbers, changed piece by piece
up_to_by : (one other : ℕ → Option Freeze) (F : List Freeze → List Freeze) → F [] ≡ [] → ((xs ys : List Freeze) → F (xs ++ ys) ≡ F xs ++ F ys) → (high : ℕ) → ((n : ℕ) → n ≤ high → option_to_list (other n) ≡ F (option_to_list (one n))) → up_to other high ≡ F (up_to one high)
up_to_by one other F nil both zero each = sym nil
up_to_by one other F nil both (suc high) each =
    let front = up_to_by one other F nil both high (λ n le. each n (omega (arith, le))) in
    let last = each (suc high) (omega arith) in
    (λ i. front i ++ last i) ∙ sym (both (up_to one high) (option_to_list (one (suc high))))

handed_append : (n due : ℕ) (xs ys : List Freeze) → handed_over n due (xs ++ ys) ≡ handed_over n due xs ++ handed_over n due ys
handed_append n due xs ys = map-append (λ (f : Freeze). cond (eqb f.number n) (record f { holder = Timer due }) f) xs ys

without_none : (n : ℕ) (o : Option Freeze) → ((f : Freeze) → o ≡ Some f → f.number ≢ n) → option_to_list o ≡ without n (option_to_list o)
without_none n None other = refl
without_none n (Some f) other = sym (cond-true (not (eqb f.number n)) _ _ (not_from_false _ (ne_eqb _ _ (other f refl))))

handed_none : (n due : ℕ) (o : Option Freeze) → ((f : Freeze) → o ≡ Some f → f.number ≢ n) → option_to_list o ≡ handed_over n due (option_to_list o)
handed_none n due None other = refl
handed_none n due (Some f) other =
    let kept : cond {A = Freeze} (eqb f.number n) (record f { holder = Timer due }) f ≡ f = cond-false (eqb f.number n) _ _ (ne_eqb _ _ (other f refl)) in
    λ i. sym kept i ∷ []

-- one fewer
pub freezes_removed : (old new : List (Option Freeze)) (key : ℕ) (f : Freeze) (high : ℕ) → AreApart old → AreApart new → freeze_at old key ≡ Some f → Changes old new key None → freezes_in new high ≡ without f.number (freezes_in old high)
unfolding freezes_in
freezes_removed old new key f high apart apart2 there change =
    up_to_by (numbered old) (numbered new) (without f.number) refl (λ xs ys. filter-append (λ (x : Freeze). not (eqb x.number f.number)) xs ys) high (λ n le.
    elim (cases_eq n f.number) [
      | inl same ↦
          let gone : numbered new f.number ≡ None = missing new f.number (λ k g e number.
          elim (cases_eq k key) [
            | inl here ↦ let none : None ≡ Some g = sym change.changed ∙ (ap (freeze_at new) (sym here) ∙ e) in cc none
            | inr other ↦ other (apart k key g f (sym (change.others k other) ∙ e) there number)
          ]) in
          let was = found old apart key f there in
          let left : without f.number (f ∷ []) ≡ [] = cond-false (not (eqb f.number f.number)) _ _ (not_from_true _ (eq-eqb f.number f.number refl)) in
          subst (λ (m : ℕ). option_to_list (numbered new m) ≡ without f.number (option_to_list (numbered old m))) (sym same) (ap option_to_list gone ∙ sym (ap (λ (o : Option Freeze). without f.number (option_to_list o)) was ∙ left))
      | inr other ↦
          let same = same_numbered old new n apart apart2
          (λ k g number e. elim (cases_eq k key) [
            | inl here ↦ let none : None ≡ Some g = sym change.changed ∙ (ap (freeze_at new) (sym here) ∙ e) in absurd (cc none)
            | inr there2 ↦ sym (change.others k there2) ∙ e
          ])
          (λ k g number e. elim (cases_eq k key) [
            | inl here ↦ let it : Some g ≡ Some f = sym e ∙ (ap (freeze_at old) here ∙ there) in let is : g ≡ f = cc it in absurd (other (sym number ∙ ap (λ (x : Freeze). x.number) is))
            | inr there2 ↦ change.others k there2 ∙ e
          ]) in
          ap option_to_list same ∙ without_none f.number (numbered old n) (λ g e number. other (sym (came old n g e).1 ∙ number))
    ])

-- another holder
pub freezes_handed : (old new : List (Option Freeze)) (key : ℕ) (f : Freeze) (due high : ℕ) → AreApart old → AreApart new → freeze_at old key ≡ Some f → Changes old new key (Some (record f { holder = Timer due })) → freezes_in new high ≡ handed_over f.number due (freezes_in old high)
unfolding freezes_in
freezes_handed old new key f due high apart apart2 there change =
    up_to_by (numbered old) (numbered new) (handed_over f.number due) refl (handed_append f.number due) high (λ n le.
    elim (cases_eq n f.number) [
      | inl same ↦
          let later : Freeze = record f { holder = Timer due } in
          let is = found new apart2 key later change.changed in
          let was = found old apart key f there in
          let handed : cond {A = Freeze} (eqb f.number f.number) later f ≡ later = cond-true (eqb f.number f.number) _ _ (eq-eqb f.number f.number refl) in
          let left : handed_over f.number due (f ∷ []) ≡ later ∷ [] = λ i. handed i ∷ [] in
          subst (λ (m : ℕ). option_to_list (numbered new m) ≡ handed_over f.number due (option_to_list (numbered old m))) (sym same) (ap option_to_list is ∙ sym (ap (λ (o : Option Freeze). handed_over f.number due (option_to_list o)) was ∙ left))
      | inr other ↦
          let same = same_numbered old new n apart apart2
          (λ k g number e. elim (cases_eq k key) [
            | inl here ↦ let it : Some (record f { holder = Timer due }) ≡ Some g = sym change.changed ∙ (ap (freeze_at new) (sym here) ∙ e) in let is : record f { holder = Timer due } ≡ g = cc it in absurd (other (sym number ∙ sym (ap (λ (x : Freeze). x.number) is)))
            | inr there2 ↦ sym (change.others k there2) ∙ e
          ])
          (λ k g number e. elim (cases_eq k key) [
            | inl here ↦ let it : Some g ≡ Some f = sym e ∙ (ap (freeze_at old) here ∙ there) in let is : g ≡ f = cc it in absurd (other (sym number ∙ ap (λ (x : Freeze). x.number) is))
            | inr there2 ↦ change.others k there2 ∙ e
          ]) in
          ap option_to_list same ∙ handed_none f.number due (numbered old n) (λ g e number. other (sym (came old n g e).1 ∙ number))
    ])

-- one more
pub freezes_entered : (old new : List (Option Freeze)) (key : ℕ) (f : Freeze) (high : ℕ) → AreApart old → AreApart new → AreGiven old high → f.number ≡ high + 1 → freeze_at old key ≡ None → Changes old new key (Some f) → freezes_in new (high + 1) ≡ freezes_in old high ++ f ∷ []
unfolding freezes_in
freezes_entered old new key f high apart apart2 given number vacant change =
    let front = up_to_by (numbered old) (numbered new) (λ xs. xs) refl (λ xs ys. refl) high (λ n le.
    ap option_to_list (same_numbered old new n apart apart2
    (λ k g is e. elim (cases_eq k key) [
      | inl here ↦ let it : Some f ≡ Some g = sym change.changed ∙ (ap (freeze_at new) (sym here) ∙ e) in let same : f ≡ g = cc it in absurd (omega (arith, is, le, number, ap (λ (x : Freeze). x.number) same))
      | inr other ↦ sym (change.others k other) ∙ e
    ])
    (λ k g is e. elim (cases_eq k key) [
      | inl here ↦ let none : None ≡ Some g = sym vacant ∙ (ap (freeze_at old) (sym here) ∙ e) in absurd (cc none)
      | inr other ↦ change.others k other ∙ e
    ]))) in
    let next : f.number ≡ suc high = omega (arith, number) in
    let one : suc high ≡ high + 1 = omega arith in
    let last : numbered new (suc high) ≡ Some f = subst (λ (m : ℕ). numbered new m ≡ Some f) next (found new apart2 key f change.changed) in
    let both : up_to (numbered new) (suc high) ≡ up_to (numbered old) high ++ f ∷ [] = λ i. front i ++ option_to_list (last i) in
    subst (λ (m : ℕ). up_to (numbered new) m ≡ up_to (numbered old) high ++ f ∷ []) one both

-- greater numbers, which no freeze bears, add nothing to the list
pub freezes_passed : (slots : List (Option Freeze)) (high more : ℕ) → AreGiven slots high → freezes_in slots (high + more) ≡ freezes_in slots high
unfolding freezes_in
freezes_passed slots high more given = by more (high + more) refl
  where
    by : (more all : ℕ) → all ≡ high + more → up_to (numbered slots) all ≡ up_to (numbered slots) high
    by zero all is =
        let same : all ≡ high = omega (arith, is) in
        ap (up_to (numbered slots)) same
    by (suc more) zero is = absurd (omega (arith, is))
    by (suc more) (suc all) is =
        let none : numbered slots (suc all) ≡ None = missing slots (suc all) (λ key f e same. omega (arith, (given key f e).1, same, is)) in
        ap (λ (o : Option Freeze). up_to (numbered slots) all ++ option_to_list o) none ∙ (append-nil (up_to (numbered slots) all) ∙ by more all (omega (arith, is)))

-- the same for a number that is no lower
pub freezes_up_to : (slots : List (Option Freeze)) (high number : ℕ) → AreGiven slots high → high ≤ number → freezes_in slots number ≡ freezes_in slots high
freezes_up_to slots high number given no_lower =
    let sum : number ≡ high + (number - high) = omega (arith, no_lower) in
    ap (freezes_in slots) sum ∙ freezes_passed slots high (number - high) given

-- the numbers rise
pub list_rises : (slots : List (Option Freeze)) (high : ℕ) → AreNumbered 0 (freezes_in slots high) high
unfolding freezes_in
list_rises slots zero = omega arith
list_rises slots (suc high) =
    let before = list_rises slots high in
    elim (cases_of (numbered slots (suc high))) [
      | inl none ↦ rw (none, append-nil (up_to (numbered slots) high)) (raised 0 (up_to (numbered slots) high) high (suc high) (omega arith) before)
      | inr some ↦
          let next : some.0.number ≡ high + 1 = omega (arith, (came slots (suc high) some.0 some.1).1) in
          let one : high + 1 ≡ suc high = omega arith in
          rw some.1 (subst (λ (m : ℕ). AreNumbered 0 (up_to (numbered slots) high ++ some.0 ∷ []) m) one (numbered_push 0 (up_to (numbered slots) high) high some.0 before next))
    ]

-- what is in the list stands under some key
pub stands : (slots : List (Option Freeze)) (high : ℕ) (f : Freeze) → Contains (freezes_in slots high) f → (key : ℕ) × (freeze_at slots key ≡ Some f)
unfolding freezes_in
stands slots zero f c = absurd (omega (arith, c.1))
stands slots (suc high) f c =
    elim (Contains-append_cases (up_to (numbered slots) high) (option_to_list (numbered slots (suc high))) f c) [
      | inl before ↦ stands slots high f before
      | inr last ↦
          elim (cases_of (numbered slots (suc high))) [
            | inl none ↦ let no : Contains [] f = subst (λ (o : Option Freeze). Contains (option_to_list o) f) none last in absurd (omega (arith, no.1))
            | inr some ↦
                let one : Contains (some.0 ∷ []) f = subst (λ (o : Option Freeze). Contains (option_to_list o) f) some.1 last in
                let is : some.0 ≡ f = only some.0 f one in
                subst (λ (x : Freeze). (key : ℕ) × (freeze_at slots key ≡ Some x)) is (came slots (suc high) some.0 some.1).0
          ]
    ]
  where
    only : (g f : Freeze) → Contains (g ∷ []) f → g ≡ f
    only g f (zero, within, e) = e
    only g f (suc k, within, e) = absurd (omega (arith, within))

-- and what stands under a key is in the list
listed_by : (slots : List (Option Freeze)) (high : ℕ) (f : Freeze) → numbered slots f.number ≡ Some f → 0 < f.number → f.number ≤ high → Contains (freezes_in slots high) f
unfolding freezes_in
listed_by slots zero f e above below = absurd (omega (arith, above, below))
listed_by slots (suc high) f e above below =
    elim (cases_eq f.number (suc high)) [
      | inl last ↦
          let is : numbered slots (suc high) ≡ Some f = subst (λ (m : ℕ). numbered slots m ≡ Some f) last e in
          rw is (Contains-append_right (up_to (numbered slots) high) (f ∷ []) f (zero, omega arith, refl))
      | inr other ↦ Contains-append_left (up_to (numbered slots) high) (option_to_list (numbered slots (suc high))) f (listed_by slots high f e above (omega (arith, below, other)))
    ]

pub listed : (slots : List (Option Freeze)) (high : ℕ) → AreApart slots → AreGiven slots high → (key : ℕ) (f : Freeze) → freeze_at slots key ≡ Some f → Contains (freezes_in slots high) f
listed slots high apart given key f e =
    let bounds = given key f e in
    listed_by slots high f (found slots apart key f e) bounds.0 bounds.1

-- so it is the entry of its number
pub entry_there : (slots : List (Option Freeze)) (high : ℕ) → AreApart slots → AreGiven slots high → (key : ℕ) (f : Freeze) → freeze_at slots key ≡ Some f → entry_of f.number (freezes_in slots high) ≡ Some f
entry_there slots high apart given key f e =
    let c = listed slots high apart given key f e in
    entry_at 0 (freezes_in slots high) high c.0 f c.1 (list_rises slots high) c.2
