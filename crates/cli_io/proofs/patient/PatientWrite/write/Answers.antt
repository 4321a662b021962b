use Rattle.cli_io.proofs.Patience.{kept_appends}
use Rattle.cli_io.proofs.patient.PatientWrite.write.Goals as goal

pub returns-in-Ok-clause-bytes : goal.returns-in-Ok-clause-bytes
returns-in-Ok-clause-bytes g c = kept_appends _ _ _ _ c.loop.invariant c.in-Ok.ensures.bytes
