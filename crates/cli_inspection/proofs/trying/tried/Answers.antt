use Rattle.std.proofs.Common.{ℕ, List, IfOk, subst}
use Rattle.cli_inspection.specs.Trials.{IsTriedOn}
use Rattle.cli_inspection.proofs.trying.tried.Goals as goal

pub returns-in-Ok-clause-tried : goal.returns-in-Ok-clause-tried
returns-in-Ok-clause-tried c =
    subst (λ (bytes : List ℕ). IfOk c.tried_on.result (λ it. IsTriedOn bytes c.args.disks.1.now it.1)) c.in-Ok.ensures.same
    (subst (λ (bytes : List ℕ). IfOk c.tried_on.result (λ it. IsTriedOn c.in-Ok.manifest.now bytes it.1)) c.in-Ok.ensures.same_disks c.tried_on.ensures.tried)
