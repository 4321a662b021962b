use Rattle.host_journal.proofs.Causes.{entered_on, fails_after_all, found_for, shut_out_for}
use Rattle.host_journal.proofs.beginning.begin.Goals as goal

pub returns-in-Ok-clause-refused : goal.returns-in-Ok-clause-refused
returns-in-Ok-clause-refused g c =
    fails_after_all (g.D.Disk.held c.find.new.disk) _ (g.D.Disk.steps c.args.disk.now) (g.D.Disk.steps c.take_lock.new.disk) (g.D.Disk.steps c.find.new.disk) c.find.result
    (entered_on _ (g.D.Disk.steps c.args.disk.now) (g.D.Disk.steps c.take_lock.new.disk) c.in-Ok.ensures.taken) c.find.ensures.refused

pub returns-in-Ok-clause-steps : goal.returns-in-Ok-clause-steps
returns-in-Ok-clause-steps g c =
    found_for _ (g.D.Disk.steps c.args.disk.now) (g.D.Disk.steps c.take_lock.new.disk) (g.D.Disk.steps c.find.new.disk) c.find.result c.in-Ok.ensures.taken c.find.ensures.quiet

pub returns-in-Err-clause-steps : goal.returns-in-Err-clause-steps
returns-in-Err-clause-steps g c = shut_out_for _ (g.D.Disk.steps c.args.disk.now) (g.D.Disk.steps c.take_lock.new.disk) c.in-Err.error c.in-Err.ensures.steps
