use Rattle.std.proofs.Common.{◌≡◌, true, sym, subst}
use Rattle.helpers.specs.declared.columns.ArgKind.{ArgKind}
use Rattle.bpf_semantics.specs.Calls.{is_as_asked}
use Rattle.check_helper_calls.proofs.Freezes.{sure_is_held}
use Rattle.check_helper_calls.proofs.arguments.is_fit.Goals as goal

pub returns-in-HeldFreeze-clause-fits : goal.returns-in-HeldFreeze-clause-fits
returns-in-HeldFreeze-clause-fits c = λ fit numbers callers m arguments value is are holds.
    subst (λ (asked : ArgKind). is_as_asked c.args.limits.now m arguments asked value ≡ true) (sym c.in-HeldFreeze.is)
    (sure_is_held numbers callers c.args.description.now m c.args.kind value is (c.is_sure_freeze.ensures.0 fit) holds)
