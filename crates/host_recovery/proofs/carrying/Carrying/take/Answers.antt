use Rattle.std.proofs.Common.{refl}
use Rattle.host_recovery.proofs.Unreadable.{no_carried}
use Rattle.host_recovery.proofs.carrying.Carrying.take.Goals as goal

pub returns-in-Err : goal.returns-in-Err
returns-in-Err c = record { none = no_carried c.args.self.now.version c.args.line.now c.in-Err.ensures.cases.0; same = refl }
