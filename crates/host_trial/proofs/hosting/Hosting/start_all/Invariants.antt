-- the engine is of the same configuration
use Rattle.std.proofs.Common.{◌≡◌}
use Rattle.host_trial.proofs.hosting.Hosting.start_all.Given as goal

abbrev pub invariant-loop-place : goal.invariant-loop-place
invariant-loop-place l = l.self.host.engine.setup ≡ l.fn.self.host.engine.setup
