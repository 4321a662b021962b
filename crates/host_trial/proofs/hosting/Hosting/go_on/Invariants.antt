-- the engine is of the same configuration
use Rattle.std.proofs.Common.{◌≡◌}
use Rattle.host_trial.proofs.hosting.Hosting.go_on.Given as goal

abbrev pub invariant-loop-moment : goal.invariant-loop-moment
invariant-loop-moment l = l.self.host.engine.setup ≡ l.fn.self.host.engine.setup
