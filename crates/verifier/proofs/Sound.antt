-- A function of which each place is done with is sound, and a program whose outermost function is sound is safe.
use Rattle.std.proofs.Common.{◌≡◌, false, ℕ, zero, suc, ◌+◌, ◌≤◌, ◌<◌, List, [], ◌∷◌, length, Option, Some, None, refl, ap, sym, subst, ◌∙◌, arith, inl, inr}
use Rattle.std.specs.Option.{option_and_then}
use Rattle.std.proofs.lemmas.Bool.{cases_lt}
use Rattle.std.specs.List.{Contains}
use Rattle.std.proofs.lemmas.List.{append-nil, get_or_past, length-append}
use Rattle.bpf_insn.specs.declared.insn.Insn.{Insn}
use Rattle.bpf_insn.specs.declared.program.Slot.{Slot}
use Rattle.bpf_insn.specs.Program.{insn_at}
use Rattle.bpf_semantics.specs.MachineState.{MachineState, OpenCall}
use Rattle.bpf_semantics.specs.Reached.{Steps, Reached, Safe}
use Rattle.bpf_semantics.specs.Step.{does, request_in}
use Rattle.bpf_semantics.specs.Stuck.{is_stuck, is_stuck_at}
use Rattle.call_shape.specs.StaticPath.{Standing, outermost}
use Rattle.call_shape.proofs.Places.{begins_there}
use Rattle.helpers.specs.declared.limits.HelperLimits.{HelperLimits}
use Rattle.check_description.specs.declared.description.Description.{Description}
use Rattle.check_description.specs.declared.saved.SavedRegisters.{SavedRegisters}
use Rattle.check_description.specs.Description.{Describes, DescribesEntries}
use Rattle.check_private_insns.specs.Follows.{StepsBy}
use Rattle.verifier.specs.Checks.{returns_of, standing_of}
use Rattle.verifier.specs.Function.{AreDone, Lands, Stands}
use Rattle.verifier.specs.Goes.{FunctionIsSound, IsChecked, IsLeft, StaysWell}
use Rattle.verifier.specs.Table.{Table, described, IsKnown}

-- one step, by the instruction at which the machine stands
pub step_by : (program : List Slot) (m m' : MachineState) (insn : Insn) → insn_at program m.pc ≡ Some insn → Steps program m m' → StepsBy m insn m'
step_by program m m' insn at (inl step) = inl (sym (ap (option_and_then (does m)) at) ∙ step)
step_by program m m' insn at (inr (request, answer, made, allowed)) = inr (request, answer, sym (ap (option_and_then (request_in m)) at) ∙ made, allowed)

-- well in one way, until one thing holds, is well in another until another does, where these follow
pub well_so : (program : List Slot) (Well Better P Q : MachineState → Type 0) → ((m : MachineState) → Well m → Better m) → ((m : MachineState) → P m → Q m) → (n : ℕ) (m : MachineState) → StaysWell program Well P n m → StaysWell program Better Q n m
well_so program Well Better P Q better then zero m well = tt
well_so program Well Better P Q better then (suc n) m well = (
  better m well.0,
  λ m' step. elim (well.1 m' step) [
    | inl ends ↦ inl (then m' ends)
    | inr on ↦ inr (well_so program Well Better P Q better then n m' on)
  ],
)

-- and from there until another
pub well_through : (program : List Slot) (Well P Q : MachineState → Type 0) (n : ℕ) (m : MachineState) → StaysWell program Well P n m → ((k : ℕ) → k ≤ n → (m : MachineState) → P m → StaysWell program Well Q k m) → StaysWell program Well Q n m
well_through program Well P Q zero m well then = tt
well_through program Well P Q (suc n) m well then = (
  well.0,
  λ m' step. elim (well.1 m' step) [
    | inl ends ↦ inr (then n (omega arith) m' ends)
    | inr on ↦ inr (well_through program Well P Q n m' on (λ k le. then k (omega (arith, le))))
  ],
)

-- what is described is in the table
pub inside_table : (table : Table) (at : ℕ) (d : Description) → described table at ≡ Some d → at < length table
inside_table table at d there = elim (cases_lt at (length table)) [
  | inl lt ↦ lt
  | inr past ↦ absurd (let bad : None ≡ Some d = sym (get_or_past table at None past) ∙ there in cc)
]

-- one check of the place where a machine stands
known_checked : (limits : HelperLimits) (program : List Slot) (callers : List SavedRegisters) (calls : List OpenCall) (start : ℕ) (table : Table) (left : Option Description) (checks : List Standing) → AreDone limits program callers start table left checks (length table) → (m : MachineState) → Stands callers calls start table m → is_stuck program limits m ≡ false → IsChecked limits program checks calls m
known_checked limits program callers calls start table left checks are m stands unstuck =
    let here = are.checked stands.at stands.known.description (inside_table table stands.at stands.known.description stands.known.there) stands.known.there in
    record {
      unstuck = unstuck;
      inner = [];
      opened = stands.calls_are;
      checked = subst (λ (n : ℕ). Contains checks (outermost n)) (sym stands.place) here;
    }

-- each machine that is known where it stands is well until it leaves the function
known_well : (limits : HelperLimits) (program : List Slot) (callers : List SavedRegisters) (calls : List OpenCall) (start : ℕ) (table : Table) (left : Option Description) (checks : List Standing) → AreDone limits program callers start table left checks (length table) → (n k : ℕ) → k ≤ n → (m : MachineState) → Stands callers calls start table m → StaysWell program (IsChecked limits program checks calls) (IsLeft callers left calls) k m
known_well limits program callers calls start table left checks are n zero le m stands = tt
known_well limits program callers calls start table left checks are zero (suc k) le m stands = absurd (omega (arith, le))
known_well limits program callers calls start table left checks are (suc n) (suc k) le m stands =
    let own = are.own stands.at stands.known.description stands.known.there in
    let insn = begins_there program (start + stands.at) own.begun in
    let at : insn_at program m.pc ≡ Some insn.0 = ap (insn_at program) stands.place ∙ insn.1 in
    let done = are.done stands.at insn.0 (inside_table table stands.at stands.known.description stands.known.there) insn.1 in (
      known_checked limits program callers calls start table left checks are m stands (ap (is_stuck_at limits m) at ∙ done.unstuck m stands.known),
      λ m' step.
          let lands : Lands limits program callers calls start table left checks m' =
          subst (λ (open_calls : List OpenCall). Lands limits program callers open_calls start table left checks m') stands.calls_are (done.follows m m' stands.place stands.known (step_by program m m' insn.0 at step)) in
          elim lands [
            | inl on ↦ inr (known_well limits program callers calls start table left checks are n k (omega (arith, le)) m' on)
            | inr (inl gone) ↦ inl gone
            | inr (inr called) ↦ inr (well_through program (IsChecked limits program checks calls) (Stands callers calls start table) (IsLeft callers left calls) k m' (called k)
                (λ j less. known_well limits program callers calls start table left checks are n j (omega (arith, less, le))))
          ],
    )

pub function_sound : (limits : HelperLimits) (program : List Slot) (callers : List SavedRegisters) (entry : Description) (start : ℕ) (table : Table) (left : Option Description) (checks : List Standing) → AreDone limits program callers start table left checks (length table) → ((m : MachineState) → Describes callers entry m → IsKnown callers table 0 m) → FunctionIsSound limits program callers entry start left checks
function_sound limits program callers entry start table left checks are knows m place holds n =
    known_well limits program callers m.open_calls start table left checks are n n (omega arith) m (record {
      at = 0;
      place = omega (arith, place);
      known = knows m holds;
      calls_are = refl;
    })

-- nothing leaves the outermost function
none_left : (left : Option Description) (calls : List OpenCall) (m : MachineState) → IsLeft [] left calls m → ⊥
none_left left calls m is = omega (arith, ap length is.callers_were, length-append is.outer (is.saved ∷ []))

reached_well : (limits : HelperLimits) (program : List Slot) (entry : Description) (left : Option Description) (checks : List Standing) → DescribesEntries entry → FunctionIsSound limits program [] entry 0 left checks → (n : ℕ) (m : MachineState) → Reached program n m → (k : ℕ) → StaysWell program (IsChecked limits program checks []) (λ (m : MachineState). ⊥) k m
reached_well limits program entry left checks entries sound zero m is k =
    let at : m.pc ≡ 0 = ap (λ (x : MachineState). x.pc) is.is in
    let calls : m.open_calls ≡ [] = ap (λ (x : MachineState). x.open_calls) is.is in
    well_so program (IsChecked limits program checks m.open_calls) (IsChecked limits program checks []) (IsLeft [] left m.open_calls) (λ (m : MachineState). ⊥)
    (λ x. subst (λ (cs : List OpenCall). IsChecked limits program checks cs x) calls) (none_left left m.open_calls) k m (sound m at (entries m is) k)
reached_well limits program entry left checks entries sound (suc n) m (before, reached, step) k =
    elim ((reached_well limits program entry left checks entries sound n before reached (suc k)).1 m step) [
      | inl never ↦ absurd never
      | inr on ↦ on
    ]

reached_checked : (limits : HelperLimits) (program : List Slot) (entry : Description) (left : Option Description) (checks : List Standing) → DescribesEntries entry → FunctionIsSound limits program [] entry 0 left checks → (n : ℕ) (m : MachineState) → Reached program n m → IsChecked limits program checks [] m
reached_checked limits program entry left checks entries sound n m reached = (reached_well limits program entry left checks entries sound n m reached 1).0

pub outermost_safe : (limits : HelperLimits) (program : List Slot) (entry : Description) (left : Option Description) (checks : List Standing) → DescribesEntries entry → FunctionIsSound limits program [] entry 0 left checks → Safe program limits
outermost_safe limits program entry left checks entries sound n m reached = (reached_checked limits program entry left checks entries sound n m reached).unstuck

-- wherever a run comes, a check was made
pub outermost_checked : (limits : HelperLimits) (program : List Slot) (entry : Description) (left : Option Description) (checks : List Standing) → DescribesEntries entry → FunctionIsSound limits program [] entry 0 left checks → (n : ℕ) (m : MachineState) → Reached program n m → Contains checks (standing_of m)
outermost_checked limits program entry left checks entries sound n m reached =
    let is = reached_checked limits program entry left checks entries sound n m reached in
    let same : is.inner ≡ m.open_calls = sym (is.opened ∙ append-nil is.inner) in
    subst (λ (calls : List OpenCall). Contains checks (record { slot = m.pc; returns = returns_of calls })) same is.checked
