use Rattle.workers.proofs.AtOnce.{comes_back, ends}
use Rattle.workers.proofs.driving.drive_at_once.Goals as goal

pub returns-in-Ok-clause-ended : goal.returns-in-Ok-clause-ended
returns-in-Ok-clause-ended g c = ends g.B.Origin.setup c.args.run c.args.caller.now _ c.drive.new.caller c.in-Ok.ensures.drives

pub returns-in-Err-clause-kept : goal.returns-in-Err-clause-kept
returns-in-Err-clause-kept g c = comes_back g.B.Origin.setup c.args.run c.args.caller.now c.in-Err.fault _ c.drive.new.caller c.why_of.ensures c.in-Err.ensures.drives
