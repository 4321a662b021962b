use Rattle.std.proofs.Common.{List, subst, sym}
use Rattle.check_register_kinds.specs.declared.held.HeldFreeze.{HeldFreeze}
use Rattle.check_description.specs.Description.{DescribesWith}
use Rattle.check_private_insns.proofs.Tested.{sure_described}
use Rattle.check_private_insns.proofs.freeze.freeze_is_sure.Goals as goal

pub returns-clause-kept : goal.returns-clause-kept
returns-clause-kept c = λ numbers callers number m is its some.
    let d = c.args.description.now in
    subst (λ (held : List HeldFreeze). DescribesWith numbers callers (record d { held = held }) m) (sym c.with_sure-description.ensures)
    (sure_described numbers callers d m c.args.name number is its some)
