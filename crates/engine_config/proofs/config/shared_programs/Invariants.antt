use Rattle.std.proofs.Common.{take}
use Rattle.engine_config.specs.Configured.{AreProgramsGiven, queues_of}
use Rattle.engine_config.proofs.config.shared_programs.Given as goal

-- those of the queues so far
abbrev pub invariant-loop-number : goal.invariant-loop-number
invariant-loop-number l = AreProgramsGiven (take l.number (queues_of l.queues)) l.programs.items
