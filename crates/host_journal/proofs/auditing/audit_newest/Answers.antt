use Rattle.std.proofs.Common.{refl, arith}
use Rattle.host_journal.proofs.auditing.audit_newest.Goals as goal

pub returns-in-Ok-clause-sound : goal.returns-in-Ok-clause-sound
returns-in-Ok-clause-sound g c =
    let at = c.requires.reached in
    record {
      before = at.before;
      records = at.records;
      passed = at.passed;
      config = c.args.reached.now.config;
      newest = c.in-Ok.its;
      is_segment = c.in-Ok.ensures.segment at.configured;
      joined = c.in-Ok.ensures.joined at.before at.left;
      segments = c.saturating_add.ensures;
      all = omega (arith, c.saturating_add-in-Ok.ensures, at.count);
      left_open = refl;
    }

pub returns-in-Err-clause-refused : goal.returns-in-Err-clause-refused
returns-in-Err-clause-refused g c =
    let at = c.requires.reached in
    record { number = c.args.last; before = at.before; records = at.records; passed = at.passed; fails = c.in-Err.ensures.refused at.before at.configured at.left }
