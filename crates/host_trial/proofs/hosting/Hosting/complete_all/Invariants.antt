-- the engine is of the same configuration
use Rattle.std.proofs.Common.{◌≡◌}
use Rattle.host_trial.proofs.hosting.Hosting.complete_all.Given as goal

abbrev pub invariant-loop-one : goal.invariant-loop-one
invariant-loop-one l = l.self.host.engine.setup ≡ l.fn.self.host.engine.setup
