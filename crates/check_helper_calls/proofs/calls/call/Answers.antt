use Rattle.std.specs.Int.{w32}
use Rattle.std.proofs.Common.{◌≡◌, ℤ, None, Some, subst, sym, ◌∙◌}
use Rattle.std.proofs.lemmas.Int.{to_z-of_z}
use Rattle.helpers.specs.Table.{helper_of}
use Rattle.helpers.specs.declared.table.Helper.{Helper}
use Rattle.check_register_kinds.specs.declared.freeze_name.FreezeName.TheVariants as names
use Rattle.check_helper_calls.proofs.Calling.{follows, unstuck}
use Rattle.check_helper_calls.specs.Arguments.{MayCall}
use Rattle.check_helper_calls.proofs.Leaving.{left}
use Rattle.check_helper_calls.proofs.Tracing.{some_same}
use Rattle.check_helper_calls.proofs.calls.call.Goals as goal

-- there is no helper of that number: stated here, so that no search goes through the table
pub returns-in_default-clause-leaves : goal.returns-in_default-clause-leaves
returns-in_default-clause-leaves c = λ (helper, named, may).
    let none = subst (λ (n : ℤ). helper_of n ≡ None) (to_z-of_z w32 c.args.number c.ranges.number) (sym c.in_default.ensures) in
    let bad : None ≡ Some helper = sym none ∙ named in
    absurd cc

pub returns-in_err-check_call-clause-leaves : goal.returns-in_err-check_call-clause-leaves
returns-in_err-check_call-clause-leaves c = λ (helper, named, may).
    let its = subst (λ (n : ℤ). helper_of n ≡ Some c.in-Some.helper) (to_z-of_z w32 c.args.number c.ranges.number) (sym c.in-Some.ensures) in
    let same = some_same helper c.in-Some.helper (sym named ∙ its) in
    let bad = c.in_err-check_call.ensures.suits (subst (λ (h : Helper). MayCall c.args.limits.now c.args.callers.now c.args.description.now (names.Call c.args.place) h) same may) in
    absurd cc

pub returns-clause-unstuck : goal.returns-clause-unstuck
returns-clause-unstuck c =
    let its = subst (λ (n : ℤ). helper_of n ≡ Some c.in-Some.helper) (to_z-of_z w32 c.args.number c.ranges.number) (sym c.in-Some.ensures) in
    unstuck c.args.limits.now c.args.description.now c.args.number c.in-Some.helper its c.in_ok-check_call.ensures.obeys

pub returns-clause-follows : goal.returns-clause-follows
returns-clause-follows c =
    let its = subst (λ (n : ℤ). helper_of n ≡ Some c.in-Some.helper) (to_z-of_z w32 c.args.number c.ranges.number) (sym c.in-Some.ensures) in
    follows (names.Call c.args.place) c.args.callers.now c.args.number c.in-Some.helper c.args.description.now c.pass.new.description its (c.pass.ensures.passes c.args.callers.now) c.in_ok-check_call.ensures.fresh

pub returns-clause-leaves : goal.returns-clause-leaves
returns-clause-leaves c = λ may.
    let its = subst (λ (n : ℤ). helper_of n ≡ Some c.in-Some.helper) (to_z-of_z w32 c.args.number c.ranges.number) (sym c.in-Some.ensures) in
    left (names.Call c.args.place) c.args.number c.in-Some.helper c.args.description.now c.pass.new.description its c.in_ok-check_call.ensures.found c.pass.ensures.leaves

pub returns-clause-depth : goal.returns-clause-depth
returns-clause-depth c =
    let its = subst (λ (n : ℤ). helper_of n ≡ Some c.in-Some.helper) (to_z-of_z w32 c.args.number c.ranges.number) (sym c.in-Some.ensures) in
    (left (names.Call c.args.place) c.args.number c.in-Some.helper c.args.description.now c.pass.new.description its c.in_ok-check_call.ensures.found c.pass.ensures.leaves).depth
