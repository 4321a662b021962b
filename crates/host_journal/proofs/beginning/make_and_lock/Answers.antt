use Rattle.std.proofs.Common.{subst, sym}
use Rattle.host_journal.specs.Starts.{Fails}
use Rattle.host_journal.proofs.Causes.{unlocked_after}
use Rattle.host_journal.proofs.beginning.make_and_lock.Goals as goal

pub returns-in-Err-lock-clause-refused : goal.returns-in-Err-lock-clause-refused
returns-in-Err-lock-clause-refused g c = λ given.
    subst (λ e. Fails (g.D.Disk.held c.lock.new.self) given (g.D.Disk.steps c.args.disk.now) (g.D.Disk.steps c.lock.new.self) e) (sym c.of_file-in-Err-lock.ensures)
    (unlocked_after (g.D.Disk.held c.lock.new.self) given (g.D.Disk.steps c.args.disk.now) (g.D.Disk.steps c.make.new.self) (g.D.Disk.steps c.lock.new.self) c.in-Err-lock.fault c.in-Ok.ensures.steps c.in-Err-lock.ensures.steps)
