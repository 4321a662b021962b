use Rattle.std.proofs.Common.{◌≡◌, None, Some}
use Rattle.host_recovery.proofs.Unreadable.{no_end}
use Rattle.host_journal.proofs.last_line.is_sums.Goals as goal

pub returns-in-Err : goal.returns-in-Err
returns-in-Err c = λ last. let bad : None ≡ Some last.0 = (no_end c.args.line.now c.in-Err.ensures.cases.0).back last.0 last.1 in cc
