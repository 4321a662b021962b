use Rattle.engine_config.specs.Configured.{firsts_of}
use Rattle.engine_config.proofs.Firsts.{HaveRoomSoFar}
use Rattle.engine_config.proofs.config.have_room.Given as goal

-- each list so far has room
abbrev pub invariant-loop-number : goal.invariant-loop-number
invariant-loop-number l = HaveRoomSoFar l.limits.table_lengths (firsts_of l.tables) l.number
