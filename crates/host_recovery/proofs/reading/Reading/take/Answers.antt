use Rattle.std.proofs.Common.{refl}
use Rattle.host_recovery.proofs.Unreadable.{no_end, no_record}
use Rattle.host_recovery.proofs.reading.Reading.take.Goals as goal

pub returns-in-Err : goal.returns-in-Err
returns-in-Err c = record {
  no_record = no_record c.args.self.now.version c.args.line.now c.in-Err.ensures.cases.0;
  no_end = no_end c.args.line.now c.in-Err.ensures.cases.0;
  same = refl;
}
