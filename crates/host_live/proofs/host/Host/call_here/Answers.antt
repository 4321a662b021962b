use Rattle.std.proofs.Common.{[], ◌∷◌}
use Rattle.host_live.proofs.Growing.{as_after, as_by}
use Rattle.host_live.specs.Turns.{part_none}
use Rattle.host_live.specs.declared.request.Request.TheVariants as asks
use Rattle.world_calls.specs.declared.record.Record.TheVariants.{Called}
use Rattle.host_live.proofs.Turning.{called_so}
use Rattle.host_live.proofs.host.Host.call_here.Goals as goal

pub returns-in-Ok-clause-grown : goal.returns-in-Ok-clause-grown
returns-in-Ok-clause-grown g c = as_after (Called c.in-Ok.answer c.args.call ∷ []) _ _ _ _ _ _ _ _ _ (λ others it. called_so c.args.manner c.args.call c.in-Ok.answer c.drive_started.result c.drive_started.new.self.engine.engine others it) c.in-Ok.ensures.grown c.drive_started.ensures.grown

pub returns-in-Err-clause-grown : goal.returns-in-Err-clause-grown
returns-in-Err-clause-grown g c = as_by [] _ _ _ _ _ _ (part_none (asks.Call c.args.call)) c.in-Err.ensures.grown
