-- none of the devices before this one is misplaced
use Rattle.std.proofs.Common.{◌<◌, ℕ}
use Rattle.host_trial.specs.Misplaced.{IsMisplaced}
use Rattle.host_trial.proofs.trial.misplaced.Given as goal

abbrev pub invariant-loop-place : goal.invariant-loop-place
invariant-loop-place l = (number : ℕ) (it : IsMisplaced l.devices l.queues number) → it.place < l.place → ⊥
