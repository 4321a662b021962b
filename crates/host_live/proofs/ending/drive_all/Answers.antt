use Rattle.host_live.proofs.Growing.{as_then}
use Rattle.host_live.proofs.ending.drive_all.Goals as goal

pub returns-in-Err-clause-grown : goal.returns-in-Err-clause-grown
returns-in-Err-clause-grown g c = as_then _ _ _ _ _ _ _ _ _ c.in-Err.ensures.grown c.stop.ensures.grown
