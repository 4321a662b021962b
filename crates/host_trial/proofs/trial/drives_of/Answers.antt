use Rattle.std.proofs.Common.{ℕ, List, subst}
use Rattle.world.specs.World.{queue_count}
use Rattle.trial_disks.specs.declared.data.Device.{Device}
use Rattle.host_trial.specs.Misplaced.{IsMisplaced}
use Rattle.host_trial.proofs.trial.drives_of.Goals as goal

pub returns-in-Ok-clause-placed : goal.returns-in-Ok-clause-placed
returns-in-Ok-clause-placed c =
    subst (λ (devices : List Device). (number : ℕ) → IsMisplaced devices (queue_count c.args.config.now) number → ⊥) c.deref.ensures.value
    (subst (λ (queues : ℕ). (number : ℕ) → IsMisplaced c.deref.result.now queues number → ⊥) c.queues.ensures.value c.in-None.ensures.none)
