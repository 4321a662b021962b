use Rattle.std.proofs.Common.{take}
use Rattle.std.specs.Prelude.{All}
use Rattle.engine_config.specs.Configured.{IsGivenUnder, IsKnown, queues_of}
use Rattle.engine_config.proofs.config.are_given_under.Given as goal

-- each queue so far is given so
abbrev pub invariant-loop-number : goal.invariant-loop-number
invariant-loop-number l = All (λ queue. IsGivenUnder l.limits queue × IsKnown queue) (take l.number (queues_of l.queues))
