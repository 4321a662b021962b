-- What a visit of one place makes of what is passed: a call, an exit of a function, or an instruction by which control stays in it.
use Rattle.std.proofs.Common.{◌≡◌, ℕ, ℤ, ◌+◌, ◌<◌, List, [], ◌∷◌, ◌++◌, length, Option, Some, None, refl, ap, sym, subst, ◌∙◌, arith, inl, inr, get_or-set_other, get_or-set_same}
use Rattle.std.specs.Prelude.{slice_set}
use Rattle.std.proofs.lemmas.Bool.{cases_eq}
use Rattle.std.proofs.lemmas.List.{length-set}
use Rattle.std.proofs.lemmas.List.Elements.{Contains-append_left}
use Rattle.bpf_insn.specs.declared.insn.Insn.{Insn}
use Rattle.bpf_insn.specs.declared.insn.Insn.TheVariants.{Call, Exit}
use Rattle.bpf_insn.specs.declared.insn.Callee.TheVariants.{Local}
use Rattle.bpf_insn.specs.declared.program.Slot.{Slot}
use Rattle.bpf_insn.specs.Program.{insn_at}
use Rattle.call_shape.specs.Calls.{callee_in}
use Rattle.call_shape.specs.StaticPath.{outermost}
use Rattle.helpers.specs.declared.limits.HelperLimits.{HelperLimits}
use Rattle.check_description.specs.declared.description.Description.{Description}
use Rattle.check_description.specs.declared.saved.SavedRegisters.{SavedRegisters}
use Rattle.check_description.specs.Description.{NeverStuck}
use Rattle.reg_domain.specs.Ways.{Stays}
use Rattle.verifier.specs.Arrives.{AllArrive}
use Rattle.verifier.specs.Function.{ArePassed, HasChecked, IsLawfulProgram, IsOwn}
use Rattle.verifier.specs.Goes.{IsCallVisited}
use Rattle.verifier.specs.Table.{Table, described, HasLeft}
use Rattle.verifier.proofs.Called.{HasComeBack, behind_alone, visited_call}
use Rattle.verifier.proofs.Checks.{alone, call_on_paths, call_once, call_there, one_on_path, one_once, one_there}
use Rattle.verifier.proofs.LeftOrChecked.{ahead_alone, visited_check, visited_leave}
use Rattle.verifier.proofs.OnItsWay.{local_call}
use Rattle.verifier.proofs.Passed.{IsTaken, carry, carry_same, passed_more, taken_out}
use Rattle.verifier.proofs.Sound.{inside_table}

module _ (limits : HelperLimits) (program : List Slot) (callers : List SavedRegisters) (entry : Description) (start : ℕ) (table : Table) (left : Option Description) (at first now : ℕ) (are : ArePassed limits program callers entry start table left at first now) where
  -- what is known at the place is among all that was known
  pub in_all : (d : Description) → described table at ≡ Some d → described are.all at ≡ Some d
  in_all d there = are.ahead at (omega arith) ∙ there

  pub own_here : (d : Description) → described table at ≡ Some d → IsOwn program callers start (start + at) d
  own_here d there = are.visited.done.own at d (in_all d there)

  -- the table from which that was taken
  pub taken_so : at < length table → (nothing : Option Description) → nothing ≡ None → IsTaken are.all at (slice_set table at nothing)
  taken_so inside nothing none = subst (λ (o : Option Description). IsTaken are.all at (slice_set table at o)) (sym none) (taken_out limits program callers entry start table left at first now inside are)

  -- there is a place after a call
  pub room_behind : (insn : Insn) (callee : ℕ) (nothing : Option Description) → at < length table → insn_at program (start + at) ≡ Some insn → callee_in (start + at) insn ≡ Some callee → at + 1 < length (slice_set table at nothing)
  room_behind insn callee nothing inside here leads =
      let call = local_call (start + at) callee insn leads in
      let below = are.visited.done.end.closed (start + at) (Call (Local call.0)) (omega arith) (omega (arith, inside, are.whole)) (here ∙ ap Some call.1) in
      let lt : start + at + 1 < start + length are.all = below.goes_on refl in
      omega (arith, lt, are.whole, length-set table at nothing)

  -- a function was called there
  pub pass_call : (next : ℕ) (insn : Insn) (callee : ℕ) (d : Description) (back : Option Description) (emptied after : Table) → IsLawfulProgram program → insn_at program (start + at) ≡ Some insn → callee_in (start + at) insn ≡ Some callee → described table at ≡ Some d → IsTaken are.all at emptied → ((limits : HelperLimits) (distance : ℤ) → NeverStuck limits callers (Call (Local distance)) d) → IsCallVisited limits program callers d (start + at) callee back (now + 1) next → ((there : Description) → back ≡ Some there → length there.stack ≡ length callers + 1) → HasComeBack emptied (at + 1) back after → ArePassed limits program callers entry start after left (at + 1) first next
  pass_call next insn callee d back emptied after lawful here leads there taken unstuck inside frames come =
      let same = behind_alone emptied at back after come in
      let own = own_here d there in
      passed_more limits program callers entry start table left at first now next insn are emptied after left taken same
      (carry are.all emptied after at (inside_table are.all at d (in_all d there)) taken come.whole come.grows same) come.whole
      (outermost (start + at) ∷ inside.checks) here
      (visited_call limits program callers start are.all left at insn callee d back emptied after are.visited.checks inside.checks lawful here leads (in_all d there) are.visited.done taken unstuck inside.sound frames come)
      (omega (arith, inside.made))
      (call_once (start + at) inside.checks inside.once inside.inside)
      (Contains-append_left (outermost (start + at) ∷ []) inside.checks (outermost (start + at)) (alone (outermost (start + at))))
      (call_there (start + at) inside.checks inside.inside)
      (call_on_paths program start (start + at) inside.checks own.begun own.leads inside.on_paths)

  -- the function is left there
  pub pass_exit : (next : ℕ) (insn : Insn) (outer : List SavedRegisters) (saved : SavedRegisters) (d : Description) (emptied : Table) (wider : Option Description) → insn_at program (start + at) ≡ Some insn → insn ≡ Exit → callers ≡ outer ++ saved ∷ [] → described table at ≡ Some d → IsTaken are.all at emptied → ((limits : HelperLimits) (outer : List SavedRegisters) → NeverStuck limits (outer ++ saved ∷ []) Exit d) → HasLeft saved d left wider → next ≡ now + 1 → ArePassed limits program callers entry start emptied wider (at + 1) first next
  pass_exit next insn outer saved d emptied wider here exit waits there taken unstuck has one =
      let own = own_here d there in
      passed_more limits program callers entry start table left at first now next insn are emptied emptied wider taken (λ k le. refl)
      (carry_same are.all emptied at (inside_table are.all at d (in_all d there)) taken) refl
      (outermost (start + at) ∷ []) here
      (visited_leave limits program callers start are.all left at insn outer saved d emptied wider are.visited.checks (outermost (start + at) ∷ []) exit waits (in_all d there) are.visited.done taken unstuck has)
      (omega (arith, one)) (one_once (outermost (start + at))) (alone (outermost (start + at))) (one_there (start + at)) (one_on_path program start (start + at) own.begun own.leads)

  -- control stays in the function
  pub pass_check : (next : ℕ) (insn : Insn) (d : Description) (emptied after : Table) → IsLawfulProgram program → insn_at program (start + at) ≡ Some insn → Stays callers insn → described table at ≡ Some d → IsTaken are.all at emptied → length after ≡ length emptied → HasChecked limits callers start d emptied at insn after → next ≡ now + 1 → ArePassed limits program callers entry start after left (at + 1) first next
  pass_check next insn d emptied after lawful here stays there taken whole checked one =
      let same = ahead_alone program limits callers start d emptied at insn after lawful here checked in
      let own = own_here d there in
      passed_more limits program callers entry start table left at first now next insn are emptied after left taken same
      (carry are.all emptied after at (inside_table are.all at d (in_all d there)) taken whole checked.grows same) whole
      (outermost (start + at) ∷ []) here
      (visited_check limits program callers start are.all left at insn d emptied after are.visited.checks (outermost (start + at) ∷ []) lawful here stays (in_all d there) are.visited.done taken whole checked)
      (omega (arith, one)) (one_once (outermost (start + at))) (alone (outermost (start + at))) (one_there (start + at)) (one_on_path program start (start + at) own.begun own.leads)

-- all arrives where one place fewer is known
pub all_without : (program : List Slot) (table : Table) (at : ℕ) (nothing : Option Description) → nothing ≡ None → at < length table → AllArrive program table → AllArrive program (slice_set table at nothing)
all_without program table at nothing none inside all place d is = elim (cases_eq place at) [
  | inl same ↦ absurd (let bad : None ≡ Some d = sym (ap (described (slice_set table at nothing)) same ∙ (get_or-set_same table at nothing None inside ∙ none)) ∙ is in cc)
  | inr other ↦ all place d (sym (get_or-set_other table at place nothing None other) ∙ is)
]
