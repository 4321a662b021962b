-- the engine is of the same configuration
use Rattle.std.proofs.Common.{◌≡◌}
use Rattle.host_trial.proofs.recorded.Recorded.drive.Given as goal

abbrev pub invariant-loop-stop : goal.invariant-loop-stop
invariant-loop-stop l = l.self.engine.setup ≡ l.fn.self.engine.setup
