use Rattle.std.proofs.Common.{ℕ, Option, subst}
use Rattle.toml.specs.View.{view}
use Rattle.trial_disks.specs.Said.{IsGiven}
use Rattle.trial_disks.proofs.keys.number.Goals as goal

pub returns-in-Some-clause-said : goal.returns-in-Some-clause-said
returns-in-Some-clause-said c =
    subst (λ (given : Option ℕ). IsGiven c.args.key.now (view c.args.value.now) given) c.in-Some.is c.in_ok-number.ensures.given
