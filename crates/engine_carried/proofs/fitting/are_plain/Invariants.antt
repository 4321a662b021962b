use Rattle.std.proofs.Common.{ℕ, ◌<◌, get_or}
use Rattle.world.specs.Limits.{IsPlain}
use Rattle.world.specs.World.{LiveCcb}
use Rattle.engine_carried.proofs.fitting.are_plain.Given as goal

-- the CCBs so far have no class and no advice
abbrev pub invariant-loop-place : goal.invariant-loop-place
invariant-loop-place l = (k : ℕ) (d : LiveCcb) → k < l.place → IsPlain (get_or l.transport.live k d)
