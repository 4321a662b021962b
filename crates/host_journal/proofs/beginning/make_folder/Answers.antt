use Rattle.host_journal.proofs.Causes.{no_first_for, unmade_for}
use Rattle.host_journal.proofs.beginning.make_folder.Goals as goal

pub returns-in-Ok-clause-refused : goal.returns-in-Ok-clause-refused
returns-in-Ok-clause-refused g c = c.make_and_lock.ensures.refused _

pub returns-in-Ok-clause-steps : goal.returns-in-Ok-clause-steps
returns-in-Ok-clause-steps g c =
    unmade_for _ (g.D.Disk.steps c.args.disk.now) (g.D.Disk.steps c.make_and_lock.new.disk) c.make_and_lock.result c.in-Ok.ensures.accepted c.make_and_lock.ensures.which c.make_and_lock.ensures.steps

pub returns-in-Err-clause-steps : goal.returns-in-Err-clause-steps
returns-in-Err-clause-steps g c = no_first_for _ (g.D.Disk.steps c.args.disk.now) c.in-Err.error c.in-Err.ensures.refused
