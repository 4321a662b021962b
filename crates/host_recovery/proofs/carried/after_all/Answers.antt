use Rattle.std.proofs.Common.{◌≡◌, ◌∙◌, false, true, ap, sym}
use Rattle.host_recovery.specs.Carries.{CarryingState}
use Rattle.host_recovery.proofs.CarriedReached.{breaks_too_early, tells_carried}
use Rattle.host_recovery.proofs.carried.after_all.Goals as goal

pub returns-then-is_complete-clause-says : goal.returns-then-is_complete-clause-says
returns-then-is_complete-clause-says c = λ config from now lines carries one none.
    record { at = carries; in_order = (c.is_complete.ensures carries.lines carries.ordered).0 c.if-is_complete.true }

pub returns-else-is_complete-clause-says : goal.returns-else-is_complete-clause-says
returns-else-is_complete-clause-says c = λ config from now lines carries one none.
    let count : c.carrying.inside.count ≡ c.args.carrying.now.count = cc (ap (λ (s : CarryingState). s.count) c.carrying.view_is) in
    tells_carried config from c.carrying.inside.count c.args.carrying.now.count c.broken.result count c.broken.ensures
    (breaks_too_early config from now c.args.carrying.now lines.line lines.ahead carries one none
    (λ all. let bad : false ≡ true = sym c.if-is_complete.false ∙ (c.is_complete.ensures carries.lines carries.ordered).1 all in cc))
