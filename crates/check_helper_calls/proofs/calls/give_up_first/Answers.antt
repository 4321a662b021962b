use Rattle.std.proofs.Common.{None, sym, arith, ◌∙◌}
use Rattle.check_register_kinds.specs.Freezes.{renumbered}
use Rattle.check_helper_calls.proofs.Freezes.{copied_number}
use Rattle.check_helper_calls.proofs.calls.give_up_first.Goals as goal

pub returns-in-Freeze-clause-kept : goal.returns-in-Freeze-clause-kept
returns-in-Freeze-clause-kept c = λ callers freeze m (numbers, is) at.
    let d = c.args.description.now in
    let its = copied_number numbers callers d m c.in-Freeze.name freeze is (sym c.kind.ensures ∙ c.in-Freeze.is) c.requires at in
    (renumbered numbers c.in-Freeze.name None, c.give_up.ensures.kept numbers callers freeze m is its.0 (c.within.ensures.has freeze (omega (arith, its.1)) (omega (arith, its.2))))
