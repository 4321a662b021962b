-- The checks of a function: those of one place more are none of the earlier ones.
use Rattle.std.proofs.Common.{◌≡◌, ℕ, zero, suc, ◌+◌, ◌≤◌, true, List, [], ◌∷◌, ◌++◌, length, refl, ap, sym, subst, ◌∙◌, arith, ◌⊎◌, inl, inr}
use Rattle.std.specs.List.{Contains}
use Rattle.std.proofs.lemmas.List.{append_cancel_right, length-append}
use Rattle.std.proofs.lemmas.List.Elements.{Contains-append_cases, Contains-append_left, Contains-append_right}
use Rattle.bpf_insn.specs.declared.program.Slot.{Slot}
use Rattle.bpf_semantics.specs.MachineState.{OpenCall}
use Rattle.call_shape.specs.Calls.{begins}
use Rattle.call_shape.specs.StaticPath.{Standing, outermost, PathLeads}
use Rattle.call_shape.proofs.Leading.{leads_through}
use Rattle.verifier.specs.Checks.{AreOnce, IsBefore, IsOnPath, returns_of}

-- the one of a list of one
pub only : (x y : Standing) → Contains (x ∷ []) y → x ≡ y
only x y (zero, lt, is) = is
only x y (suc k, lt, is) = absurd (omega (arith, lt))

pub alone : (x : Standing) → Contains (x ∷ []) x
alone x = (0, omega arith, refl)

pub none_there : (x : Standing) → Contains [] x → ⊥
none_there x (k, lt, is) = omega (arith, lt)

-- two lists of which none has what the other has
pub both_once : (xs ys : List Standing) → AreOnce xs → AreOnce ys → ((x : Standing) → Contains xs x → Contains ys x → ⊥) → AreOnce (xs ++ ys)
both_once [] ys one other apart = other
both_once (x ∷ xs) ys one other apart = (
  λ twice. elim (Contains-append_cases xs ys x twice) [
    | inl again ↦ one.0 again
    | inr there ↦ apart x (Contains-append_left (x ∷ []) xs x (alone x)) there
  ],
  both_once xs ys one.1 other (λ y in_one in_other. apart y (Contains-append_right (x ∷ []) xs y in_one) in_other),
)

-- what is called from a function, as it is seen there: its open calls stand outside of those of the function that is called
abbrev pub under : ℕ → Standing → Standing
under return check = record { slot = check.slot; returns = check.returns ++ return ∷ [] }

abbrev pub all_under : ℕ → List Standing → List Standing
all_under return [] = []
all_under return (check ∷ checks) = under return check ∷ all_under return checks

pub under_length : (return : ℕ) (checks : List Standing) → length (all_under return checks) ≡ length checks
under_length return [] = refl
under_length return (check ∷ checks) = let rest = under_length return checks in omega (arith, rest)

pub under_there : (return : ℕ) (checks : List Standing) (check : Standing) → Contains checks check → Contains (all_under return checks) (under return check)
under_there return [] check there = absurd (none_there check there)
under_there return (first ∷ checks) check there = elim (Contains-append_cases (first ∷ []) checks check there) [
  | inl here ↦ subst (λ (x : Standing). Contains (all_under return (first ∷ checks)) (under return x)) (only first check here)
      (Contains-append_left (under return first ∷ []) (all_under return checks) (under return first) (alone (under return first)))
  | inr rest ↦ Contains-append_right (under return first ∷ []) (all_under return checks) (under return check) (under_there return checks check rest)
]

pub under_from : (return : ℕ) (checks : List Standing) (check : Standing) → Contains (all_under return checks) check → (inner : Standing) × Contains checks inner × (under return inner ≡ check)
under_from return [] check there = absurd (none_there check there)
under_from return (first ∷ checks) check there = elim (Contains-append_cases (under return first ∷ []) (all_under return checks) check there) [
  | inl here ↦ (first, Contains-append_left (first ∷ []) checks first (alone first), only (under return first) check here)
  | inr rest ↦
      let found = under_from return checks check rest in
      (found.0, Contains-append_right (first ∷ []) checks found.0 found.1, found.2)
]

same_inside : (return : ℕ) (a b : Standing) → under return a ≡ under return b → a ≡ b
same_inside return a b e =
    let slots : a.slot ≡ b.slot = ap (λ (x : Standing). x.slot) e in
    let returns : a.returns ≡ b.returns = append_cancel_right a.returns b.returns (return ∷ []) (ap (λ (x : Standing). x.returns) e) in
    λ i. record { slot = slots i; returns = returns i }

pub under_once : (return : ℕ) (checks : List Standing) → AreOnce checks → AreOnce (all_under return checks)
under_once return [] once = tt
under_once return (check ∷ checks) once = (
  λ twice.
      let found = under_from return checks (under return check) twice in
      once.0 (subst (Contains checks) (same_inside return found.0 check found.2) found.1),
  under_once return checks once.1,
)

pub under_returns : (inner : List OpenCall) (call : OpenCall) (return : ℕ) → call.return_pc ≡ return → returns_of (inner ++ call ∷ []) ≡ returns_of inner ++ return ∷ []
under_returns [] call return is = ap (λ (r : ℕ). r ∷ []) is
under_returns (first ∷ inner) call return is = ap (λ (rs : List ℕ). first.return_pc ∷ rs) (under_returns inner call return is)

pub opened_inside : (inner : List OpenCall) (call : OpenCall) (calls : List OpenCall) → inner ++ (call ∷ calls) ≡ (inner ++ call ∷ []) ++ calls
opened_inside [] call calls = refl
opened_inside (first ∷ inner) call calls = ap (λ (rest : List OpenCall). first ∷ rest) (opened_inside inner call calls)

last_same : (xs ys : List ℕ) (a b : ℕ) → xs ++ a ∷ [] ≡ ys ++ b ∷ [] → a ≡ b
last_same [] [] a b e = cc
last_same [] (y ∷ ys) a b e = absurd (omega (arith, ap length e, length-append ys (b ∷ [])))
last_same (x ∷ xs) [] a b e = absurd (omega (arith, ap length e, length-append xs (a ∷ [])))
last_same (x ∷ xs) (y ∷ ys) a b e = last_same xs ys a b (let rest : xs ++ a ∷ [] ≡ ys ++ b ∷ [] = cc in rest)

none_opened : (inner : List ℕ) (return : ℕ) → [] ≡ inner ++ return ∷ [] → ⊥
none_opened inner return e = omega (arith, ap length e, length-append inner (return ∷ []))

-- The check of a place, or of what is called there.
abbrev pub IsOfPlace : ℕ → Standing → Type 0
IsOfPlace place check = (outermost place ≡ check) ⊎ ((inner : List ℕ) × (check.returns ≡ inner ++ (place + 1) ∷ []))

pub not_before : (place : ℕ) (check : Standing) → IsOfPlace place check → IsBefore place check → ⊥
not_before place check (inl own) before =
    let slot : place ≡ check.slot = ap (λ (x : Standing). x.slot) own in
    let below = before.own (sym (ap (λ (x : Standing). x.returns) own)) in
    omega (arith, slot, below)
not_before place check (inr (inner, returns)) before = omega (arith, before.called inner (place + 1) returns)

pub before_next : (place : ℕ) (check : Standing) → IsOfPlace place check → IsBefore (place + 1) check
before_next place check (inl own) = record {
  own = λ none. let slot : place ≡ check.slot = ap (λ (x : Standing). x.slot) own in omega (arith, slot);
  called = λ inner return opened. absurd (none_opened inner return (ap (λ (x : Standing). x.returns) own ∙ opened));
}
before_next place check (inr (inner, returns)) = record {
  own = λ none. absurd (none_opened inner (place + 1) (sym none ∙ returns));
  called = λ other return opened. let same = last_same other inner return (place + 1) (sym opened ∙ returns) in omega (arith, same);
}

pub before_later : (place later : ℕ) (check : Standing) → place ≤ later → IsBefore place check → IsBefore later check
before_later place later check le is = record {
  own = λ none. let below = is.own none in omega (arith, below, le);
  called = λ inner return opened. let below = is.called inner return opened in omega (arith, below, le);
}

-- those of a place are none of the earlier ones
pub more_once : (place : ℕ) (checks more : List Standing) → AreOnce checks → AreOnce more → ((check : Standing) → Contains checks check → IsBefore place check) → ((check : Standing) → Contains more check → IsOfPlace place check) → AreOnce (checks ++ more)
more_once place checks more once other earlier there = both_once checks more once other (λ check old new. not_before place check (there check new) (earlier check old))

pub more_before : (place : ℕ) (checks more : List Standing) → ((check : Standing) → Contains checks check → IsBefore place check) → ((check : Standing) → Contains more check → IsOfPlace place check) → (check : Standing) → Contains (checks ++ more) check → IsBefore (place + 1) check
more_before place checks more earlier there check is = elim (Contains-append_cases checks more check is) [
  | inl old ↦ before_later place (place + 1) check (omega arith) (earlier check old)
  | inr new ↦ before_next place check (there check new)
]

-- the check of a call, and those of what it calls
pub call_once : (place : ℕ) (inside : List Standing) → AreOnce inside → ((check : Standing) → Contains inside check → (inner : List ℕ) × (check.returns ≡ inner ++ (place + 1) ∷ [])) → AreOnce (outermost place ∷ inside)
call_once place inside once under_it = (
  λ twice. let opened = under_it (outermost place) twice in none_opened opened.0 (place + 1) opened.1,
  once,
)

pub call_there : (place : ℕ) (inside : List Standing) → ((check : Standing) → Contains inside check → (inner : List ℕ) × (check.returns ≡ inner ++ (place + 1) ∷ [])) → (check : Standing) → Contains (outermost place ∷ inside) check → IsOfPlace place check
call_there place inside under_it check is = elim (Contains-append_cases (outermost place ∷ []) inside check is) [
  | inl own ↦ inl (only (outermost place) check own)
  | inr called ↦ inr (under_it check called)
]

pub one_there : (place : ℕ) (check : Standing) → Contains (outermost place ∷ []) check → IsOfPlace place check
one_there place check is = inl (only (outermost place) check is)

pub one_once : (check : Standing) → AreOnce (check ∷ [])
one_once check = (none_there check, tt)

-- the check of a place to which a path leads
pub one_on_path : (program : List Slot) (start place : ℕ) → begins program place ≡ true → PathLeads program (outermost start) (outermost place) → (check : Standing) → Contains (outermost place ∷ []) check → IsOnPath program (outermost start) check
one_on_path program start place begun leads check is = subst (IsOnPath program (outermost start)) (only (outermost place) check is) (record { begun = begun; leads = leads })

-- and those of what is called there
pub call_on_paths : (program : List Slot) (start place : ℕ) (inside : List Standing) → begins program place ≡ true → PathLeads program (outermost start) (outermost place) → ((check : Standing) → Contains inside check → IsOnPath program (outermost place) check) → (check : Standing) → Contains (outermost place ∷ inside) check → IsOnPath program (outermost start) check
call_on_paths program start place inside begun leads are check is = elim (Contains-append_cases (outermost place ∷ []) inside check is) [
  | inl own ↦ one_on_path program start place begun leads check own
  | inr called ↦
      let on = are check called in
      record { begun = on.begun; leads = leads_through program (outermost start) (outermost place) check leads on.leads }
]
