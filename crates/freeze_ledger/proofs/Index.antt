-- An index of deadlines: what it is after a freeze that came, went or changed its holder.
use Rattle.std.proofs.Common.{◌≡◌, ◌≢◌, ◌⊎◌, ℕ, zero, suc, ◌+◌, ◌<◌, ◌≤◌, List, [], ◌∷◌, ◌++◌, length, get_or, All, Contains, IsPermutation, count_by, filter, Bool, true, false, ◌||◌, ◌&&◌, ◌==◌, nat_lt, nat_le, not, cond, eqb, Option, Some, inl, inr, refl, ap, sym, subst, ◌∙◌, arith}
use Rattle.std.proofs.lemmas.Bool.{cases_eq, eq-eqb, ne_eqb, cond-true, cond-false, or_parts}
use Rattle.std.proofs.lemmas.List.{get_or_default}
use Rattle.std.proofs.lemmas.List.Elements.{All-cons, All-tail}
use Rattle.std.proofs.lemmas.List.Sums.{sum_by-cons}
use Rattle.std.proofs.lemmas.List.Sums.{list_all-from_AllPass}
use Rattle.std.proofs.lemmas.List.Sorted.{IsPermutation-sym, IsPermutation-filter_both, All-permutation, sum_by-IsPermutation, length_permutation}
use Rattle.std.specs.declared.cmp.Reverse.{Reverse}
use Rattle.freeze_ledger.specs.declared.deadline.Deadline.{Deadline}
use Rattle.freeze_ledger.specs.declared.freeze.Freeze.{Freeze}
use Rattle.freeze_ledger.specs.declared.freeze.Holder.{Holder}
use Rattle.freeze_ledger.specs.declared.freeze.Holder.TheVariants.{Run, Timer, Guest}
use Rattle.freeze_ledger.specs.Index.{turned, under, IsNoLater}
use Rattle.freeze_ledger.specs.Entries.{freeze_at, freezes_in, Changes}
use Rattle.freeze_ledger.specs.Deadlines.{is_timer, timers_in, deadlines_of, IsOf, IsIndex, HasItsDeadline, forgets, some_timer, goes_behind, all_behind}
use Rattle.freeze_ledger.specs.Freezes.{entry_of, HasTimer}
use Rattle.freeze_ledger.proofs.Slots.{stands}

under_it : (key : ℕ) (it : Reverse Deadline) → it.0.key ≡ key → cond {A = ℕ} (under key it) 1 0 ≡ 1
under_it key it same = cond-true (eqb it.0.key key) 1 0 (eq-eqb _ _ same)

under_other : (key : ℕ) (it : Reverse Deadline) → it.0.key ≢ key → cond {A = ℕ} (under key it) 1 0 ≡ 0
under_other key it other = cond-false (eqb it.0.key key) 1 0 (ne_eqb _ _ other)

count_cons : (key : ℕ) (it : Reverse Deadline) (rest : List (Reverse Deadline)) → count_by (under key) (it ∷ rest) ≡ cond (under key it) 1 0 + count_by (under key) rest
count_cons key it rest = sum_by-cons (λ (x : Reverse Deadline). cond (under key x) 1 0) it rest

-- where a count is 0 none bears the key
none_under : (key : ℕ) (index : List (Reverse Deadline)) → count_by (under key) index ≡ 0 → All (λ (it : Reverse Deadline). it.0.key ≢ key) index
none_under key [] e = λ k d l. absurd (omega (arith, l))
none_under key (it ∷ rest) e =
    let sum = count_cons key it rest in
    All-cons (λ (x : Reverse Deadline). x.0.key ≢ key) it rest (λ same. omega (arith, under_it key it same, sum, e)) (none_under key rest (omega (arith, sum, e)))

-- and where it is not one does
pub some_under : (key : ℕ) (index : List (Reverse Deadline)) → 1 ≤ count_by (under key) index → (it : Reverse Deadline) × Contains index it × (it.0.key ≡ key)
some_under key [] e = absurd (omega (arith, e))
some_under key (it ∷ rest) e =
    elim (cases_eq it.0.key key) [
      | inl same ↦ (it, (zero, omega arith, refl), same)
      | inr other ↦
          let more : 1 ≤ count_by (under key) rest = omega (arith, under_other key it other, count_cons key it rest, e) in
          let r = some_under key rest more in
          (r.0, (suc r.1.0, omega (arith, r.1.1), r.1.2), r.2)
    ]

counted_there : (key : ℕ) (index : List (Reverse Deadline)) (it : Reverse Deadline) (k : ℕ) → k < length index → get_or index k it ≡ it → it.0.key ≡ key → 1 ≤ count_by (under key) index
counted_there key [] it k l e same = absurd (omega (arith, l))
counted_there key (head ∷ rest) it zero l e same =
    let head_too : head.0.key ≡ key = ap (λ (x : Reverse Deadline). x.0.key) e ∙ same in
    omega (arith, under_it key head head_too, count_cons key head rest)
counted_there key (head ∷ rest) it (suc k) l e same = omega (arith, counted_there key rest it k (omega (arith, l)) e same, count_cons key head rest)

-- so of two under a key that is there once each is the other
only_one : (key : ℕ) (index : List (Reverse Deadline)) (one other : Reverse Deadline) (k j : ℕ) → k < length index → j < length index → get_or index k one ≡ one → get_or index j other ≡ other → one.0.key ≡ key → other.0.key ≡ key → count_by (under key) index ≡ 1 → one ≡ other
only_one key [] one other k j l m e f same too alone = absurd (omega (arith, l))
only_one key (head ∷ rest) one other zero zero l m e f same too alone = sym e ∙ f
only_one key (head ∷ rest) one other zero (suc j) l m e f same too alone =
    let head_too : head.0.key ≡ key = ap (λ (x : Reverse Deadline). x.0.key) e ∙ same in
    absurd (omega (arith, under_it key head head_too, count_cons key head rest, counted_there key rest other j (omega (arith, m)) f too, alone))
only_one key (head ∷ rest) one other (suc k) zero l m e f same too alone =
    let head_too : head.0.key ≡ key = ap (λ (x : Reverse Deadline). x.0.key) f ∙ too in
    absurd (omega (arith, under_it key head head_too, count_cons key head rest, counted_there key rest one k (omega (arith, l)) e same, alone))
only_one key (head ∷ rest) one other (suc k) (suc j) l m e f same too alone =
    let sum = count_cons key head rest in
    let more = counted_there key rest one k (omega (arith, l)) e same in
    only_one key rest one other k j (omega (arith, l)) (omega (arith, m)) e f same too (omega (arith, sum, more, alone))

pub same_under : (key : ℕ) (index : List (Reverse Deadline)) (one other : Reverse Deadline) → Contains index one → Contains index other → one.0.key ≡ key → other.0.key ≡ key → count_by (under key) index ≡ 1 → one ≡ other
same_under key index one other c d same too alone = only_one key index one other c.0 d.0 c.1 d.1 c.2 d.2 same too alone

-- what bears a key that is there once, beside all others, is the whole
filtered_one : (key : ℕ) (index : List (Reverse Deadline)) → count_by (under key) index ≡ 0 → filter (under key) index ≡ []
filtered_one key [] e = refl
filtered_one key (it ∷ rest) e =
    let sum = count_cons key it rest in
    elim (cases_eq it.0.key key) [
      | inl same ↦ absurd (omega (arith, under_it key it same, sum, e))
      | inr other ↦ cond-false (eqb it.0.key key) _ _ (ne_eqb _ _ other) ∙ filtered_one key rest (omega (arith, sum, e))
    ]

filtered_is : (key : ℕ) (index : List (Reverse Deadline)) (it : Reverse Deadline) → Contains index it → it.0.key ≡ key → count_by (under key) index ≡ 1 → filter (under key) index ≡ it ∷ []
filtered_is key [] it c same alone = absurd (omega (arith, c.1))
filtered_is key (head ∷ rest) it c same alone =
    let sum = count_cons key head rest in
    elim (cases_eq head.0.key key) [
      | inl too ↦
          let is : head ≡ it = same_under key (head ∷ rest) head it (zero, omega arith, refl) c too same alone in
          let others = filtered_one key rest (omega (arith, under_it key head too, sum, alone)) in
          cond-true (eqb head.0.key key) _ _ (eq-eqb _ _ too) ∙ λ i. is i ∷ others i
      | inr other ↦
          let later = behind head it rest other same c in
          cond-false (eqb head.0.key key) _ _ (ne_eqb _ _ other) ∙ filtered_is key rest it later same (omega (arith, under_other key head other, sum, alone))
    ]
  where
    behind : (head it : Reverse Deadline) (rest : List (Reverse Deadline)) → head.0.key ≢ key → it.0.key ≡ key → Contains (head ∷ rest) it → Contains rest it
    behind head it rest other same (zero, l, e) = absurd (other (ap (λ (x : Reverse Deadline). x.0.key) e ∙ same))
    behind head it rest other same (suc k, l, e) = (k, omega (arith, l), e)

pub taken_out : (key : ℕ) (index : List (Reverse Deadline)) (it : Reverse Deadline) → Contains index it → it.0.key ≡ key → count_by (under key) index ≡ 1 → IsPermutation index (it ∷ filter (λ (x : Reverse Deadline). not (under key x)) index)
taken_out key index it c same alone =
    let whole = IsPermutation-filter_both (under key) (λ (x : Reverse Deadline). not (under key x)) (λ x. refl) index in
    subst (λ (xs : List (Reverse Deadline)). IsPermutation index (xs ++ filter (λ (x : Reverse Deadline). not (under key x)) index)) (filtered_is key index it c same alone) whole

-- an index that has the deadlines of all but one key
pub record IsIndexBut (key : ℕ) (slots : List (Option Freeze)) (index : List (Reverse Deadline)) : Type 0 where
  pub true_ones : All (IsOf slots) index
  pub each : (other : ℕ) → other ≢ key → count_by (under other) index ≡ deadlines_of (freeze_at slots other)
  pub here : count_by (under key) index ≡ 0

pub record HasEach (slots : List (Option Freeze)) (index : List (Reverse Deadline)) : Type 0 where
  pub true_ones : All (IsOf slots) index
  pub each : (key : ℕ) → count_by (under key) index ≡ deadlines_of (freeze_at slots key)

-- whatever comes under that key, it has those of the others
pub but_changed : (key : ℕ) (old new : List (Option Freeze)) (slot : Option Freeze) (index : List (Reverse Deadline)) → IsIndexBut key old index → Changes old new key slot → IsIndexBut key new index
but_changed key old new slot index but change =
    let apart = none_under key index but.here in
    record {
      true_ones = λ k d l. let was = but.true_ones k d l in (was.0, change.others (get_or index k d).0.key (apart k d l) ∙ was.1);
      each = λ other differs. but.each other differs ∙ ap deadlines_of (sym (change.others other differs));
      here = but.here;
    }

-- and that of the freeze that is there too, once it was entered
pub with_one : (key due : ℕ) (slots : List (Option Freeze)) (f : Freeze) (index after : List (Reverse Deadline)) → IsIndexBut key slots index → freeze_at slots key ≡ Some f → f.holder ≡ Timer due → IsPermutation (turned (record { due = due; number = f.number; key = key }) ∷ index) after → HasEach slots after
with_one key due slots f index after but there held moved =
    let it : Reverse Deadline = turned (record { due = due; number = f.number; key = key }) in
    let is_of : IsOf slots it = (f.place, there ∙ ap Some (λ i. record { number = f.number; place = f.place; holder = held i })) in
    record {
      true_ones = All-permutation (IsOf slots) (it ∷ index) after moved (All-cons (IsOf slots) it index is_of but.true_ones);
      each = λ other.
          let count = sum_by-IsPermutation (λ (x : Reverse Deadline). cond (under other x) 1 0) (it ∷ index) after moved ∙ count_cons other it index in
          elim (cases_eq other key) [
            | inl same ↦
                let mine : deadlines_of (freeze_at slots key) ≡ 1 = ap deadlines_of there ∙ ap (λ (h : Holder). cond {A = ℕ} (is_timer h) 1 0) held in
                let mine_too : deadlines_of (freeze_at slots other) ≡ 1 = subst (λ (k : ℕ). deadlines_of (freeze_at slots k) ≡ 1) (sym same) mine in
                let none : count_by (under other) index ≡ 0 = subst (λ (k : ℕ). count_by (under k) index ≡ 0) (sym same) but.here in
                omega (arith, count, under_it other it (sym same), none, mine_too)
            | inr differs ↦ omega (arith, count, under_other other it (λ (e : it.0.key ≡ other). differs (sym e)), but.each other differs)
          ];
    }

-- where no timer holds what is there it has those of all
pub with_none : (key : ℕ) (slots : List (Option Freeze)) (index : List (Reverse Deadline)) → IsIndexBut key slots index → deadlines_of (freeze_at slots key) ≡ 0 → HasEach slots index
with_none key slots index but none =
    record {
      true_ones = but.true_ones;
      each = λ other.
          elim (cases_eq other key) [
            | inl same ↦ subst (λ (k : ℕ). count_by (under k) index ≡ deadlines_of (freeze_at slots k)) (sym same) (but.here ∙ sym none)
            | inr differs ↦ but.each other differs
          ];
    }

-- an index has nothing under a key without a timer
pub but_none : (key : ℕ) (slots : List (Option Freeze)) (fs : List Freeze) (index : List (Reverse Deadline)) → IsIndex slots fs index → deadlines_of (freeze_at slots key) ≡ 0 → IsIndexBut key slots index
but_none key slots fs index is none =
    record {
      true_ones = is.true_ones;
      each = λ other differs. is.each other;
      here = is.each key ∙ none;
    }

timer_counts : (slots : List (Option Freeze)) (key : ℕ) (f : Freeze) (h : Holder) → freeze_at slots key ≡ Some f → f.holder ≡ h → deadlines_of (freeze_at slots key) ≡ cond (is_timer h) 1 0
timer_counts slots key f h there held = ap deadlines_of there ∙ ap (λ (x : Holder). cond {A = ℕ} (is_timer x) 1 0) held

-- the index has the deadline of a freeze that a timer holds
pub its_deadline : (key : ℕ) (slots : List (Option Freeze)) (fs : List Freeze) (index : List (Reverse Deadline)) (f : Freeze) → IsIndex slots fs index → freeze_at slots key ≡ Some f → HasItsDeadline index key f
its_deadline key slots fs index f is there = λ due held.
    let one : count_by (under key) index ≡ 1 = is.each key ∙ timer_counts slots key f (Timer due) there held in
    let some = some_under key index (omega (arith, one)) in
    let it : Reverse Deadline = some.0 in
    let at : IsOf slots it = subst (IsOf slots) some.1.2 (is.true_ones some.1.0 it some.1.1) in
    let is_there : Freeze = record { number = it.0.number; place = at.0; holder = Timer it.0.due } in
    let both : Some is_there ≡ Some f = sym at.1 ∙ (ap (freeze_at slots) some.2 ∙ there) in
    let whole : is_there ≡ f = cc both in
    let number : it.0.number ≡ f.number = ap (λ (x : Freeze). x.number) whole in
    let holder : Timer it.0.due ≡ Timer due = ap (λ (x : Freeze). x.holder) whole ∙ held in
    let time : it.0.due ≡ due = cc holder in
    let is_it : it ≡ turned (record { due = due; number = f.number; key = key }) = λ i. record { 0 = record { due = time i; number = number i; key = some.2 i } } in
    (subst (λ (x : Reverse Deadline). Contains index x) is_it some.1, one)

-- without it the index has those of all other keys
pub forgotten : (key : ℕ) (slots : List (Option Freeze)) (fs : List Freeze) (before after : List (Reverse Deadline)) (f : Freeze) (h : Holder) → IsIndex slots fs before → freeze_at slots key ≡ Some f → f.holder ≡ h → forgets before after key f h → IsIndexBut key slots after × (length after + cond (is_timer h) 1 0 ≡ length before)
forgotten key slots fs before after f (Run r) is there held same =
    (subst (λ (xs : List (Reverse Deadline)). IsIndexBut key slots xs) (sym same) (but_none key slots fs before is (timer_counts slots key f (Run r) there held)), omega (arith, ap (λ (xs : List (Reverse Deadline)). length xs) same))
forgotten key slots fs before after f (Guest g) is there held same =
    (subst (λ (xs : List (Reverse Deadline)). IsIndexBut key slots xs) (sym same) (but_none key slots fs before is (timer_counts slots key f (Guest g) there held)), omega (arith, ap (λ (xs : List (Reverse Deadline)). length xs) same))
forgotten key slots fs before after f (Timer due) is there held moved =
    let it : Reverse Deadline = turned (record { due = due; number = f.number; key = key }) in
    let count : (other : ℕ) → count_by (under other) before ≡ cond (under other it) 1 0 + count_by (under other) after = λ other. sum_by-IsPermutation (λ (x : Reverse Deadline). cond (under other x) 1 0) (it ∷ after) before moved ∙ count_cons other it after in (
      record {
        true_ones = All-tail (IsOf slots) it after (All-permutation (IsOf slots) before (it ∷ after) (IsPermutation-sym (it ∷ after) before moved) is.true_ones);
        each = λ other differs. omega (arith, count other, under_other other it (λ (e : it.0.key ≡ other). differs (sym e)), is.each other);
        here = omega (arith, count key, under_it key it refl, is.each key, timer_counts slots key f (Timer due) there held);
      },
      omega (arith, length_permutation (it ∷ after) before moved),
    )

-- the entry of a number is in the list
pub entry_contained : (n : ℕ) (fs : List Freeze) (f : Freeze) → entry_of n fs ≡ Some f → Contains fs f
entry_contained n [] f e = absurd (cc e)
entry_contained n (g ∷ fs) f e =
    elim (cases_eq g.number n) [
      | inl same ↦
          let is : Some g ≡ Some f = sym (cond-true (eqb g.number n) (Some g) (entry_of n fs) (eq-eqb _ _ same)) ∙ e in
          (zero, omega arith, cc is)
      | inr apart ↦
          let r = entry_contained n fs f (sym (cond-false (eqb g.number n) (Some g) (entry_of n fs) (ne_eqb _ _ apart)) ∙ e) in
          (suc r.0, omega (arith, r.1), r.2)
    ]

-- the index has the deadline of each number that a timer holds
pub timer_there : (slots : List (Option Freeze)) (high : ℕ) (index : List (Reverse Deadline)) (number : ℕ) → IsIndex slots (freezes_in slots high) index → HasTimer number (freezes_in slots high) → (it : Reverse Deadline) × Contains index it × (it.0.number ≡ number)
timer_there slots high index number is timer =
    let f : Freeze = record { number = number; place = timer.0; holder = Timer timer.1 } in
    let at = stands slots high f (entry_contained number (freezes_in slots high) f timer.2) in
    let it : Reverse Deadline = turned (record { due = timer.1; number = number; key = at.0 }) in
    (it, (its_deadline at.0 slots (freezes_in slots high) index f is at.1 timer.1 refl).0, refl)

-- the first of the index goes before all other timers
behind : (due number : ℕ) (slots : List (Option Freeze)) (fs : List Freeze) (index : List (Reverse Deadline)) (first : Deadline) (key : ℕ) (f : Freeze) (h : Holder) → IsIndex slots fs index → All (IsNoLater first) index → freeze_at slots key ≡ Some f → f.holder ≡ h → goes_behind first.due first.number h f.number ≡ true
behind due number slots fs index first key f (Run r) is least there held = refl
behind due number slots fs index first key f (Guest g) is least there held = refl
behind due number slots fs index first key f (Timer later) is least there held =
    let it : Reverse Deadline = turned (record { due = later; number = f.number; key = key }) in
    let c = (its_deadline key slots fs index f is there later held).0 in
    let no_later : IsNoLater first it = subst (IsNoLater first) c.2 (least c.0 it c.1) in
    let one : first.due ≤ later = no_later.no_later in
    let two : first.due ≡ later → first.number ≤ f.number = no_later.no_higher in
    before first.due later first.number f.number one two
  where
    before : (a b m n : ℕ) → a ≤ b → (a ≡ b → m ≤ n) → (nat_lt a b || (a == b && nat_le m n)) ≡ true
    before a b m n le tie =
        elim (cases_eq a b) [
          | inl same ↦ let low : m ≤ n = tie same in grind (arith, same, low)
          | inr apart ↦ let lower : a < b = omega (arith, le, apart) in grind (arith, lower)
        ]

pub first_goes : (slots : List (Option Freeze)) (high : ℕ) (index : List (Reverse Deadline)) (first : Deadline) → IsIndex slots (freezes_in slots high) index → All (IsNoLater first) index → all_behind first.due first.number (freezes_in slots high) ≡ true
first_goes slots high index first is least =
    list_all-from_AllPass _ (freezes_in slots high) (λ k d l.
    let f : Freeze = get_or (freezes_in slots high) k d in
    let at = stands slots high f (k, l, get_or_default (freezes_in slots high) k f d l) in
    behind first.due first.number slots (freezes_in slots high) index first at.0 f f.holder is least at.1 refl)

either : (b : Bool) → (b ≡ true) ⊎ (b ≡ false)
either true = inl refl
either false = inr refl

timers_cons : (f : Freeze) (fs : List Freeze) → timers_in (f ∷ fs) ≡ cond (is_timer f.holder) 1 0 + timers_in fs
timers_cons f fs = sum_by-cons (λ (x : Freeze). cond (is_timer x.holder) 1 0) f fs

-- none is counted where none is there, and the other way round
pub none_counted : (fs : List Freeze) → timers_in fs ≡ 0 → some_timer fs ≡ false
none_counted [] e = refl
none_counted (f ∷ fs) e =
    let sum = timers_cons f fs in
    elim (either (is_timer f.holder)) [
      | inl held ↦ absurd (omega (arith, sum, e, ap (λ (b : Bool). cond {A = ℕ} b 1 0) held))
      | inr never ↦ rw never (none_counted fs (omega (arith, sum, e)))
    ]

pub counted_none : (fs : List Freeze) → some_timer fs ≡ false → timers_in fs ≡ 0
counted_none [] e = refl
counted_none (f ∷ fs) e =
    let sum = timers_cons f fs in
    let parts = or_parts (is_timer f.holder) (some_timer fs) e in
    omega (arith, sum, ap (λ (b : Bool). cond {A = ℕ} b 1 0) parts.0, counted_none fs parts.1)
