use Rattle.std.proofs.Common.{◌∙◌, ap, inl, refl}
use Rattle.host_journal.specs.Disks.{Failed, IsFailedBy, with_step}
use Rattle.host_journal.specs.declared.disk.DiskFault.{DiskFault}
use Rattle.host_journal.specs.declared.disk.DiskFault.TheVariants.{Failed as NotDone}
use Rattle.host_journal.specs.declared.fault.JournalFile.TheVariants.{Lock}
use Rattle.host_journal.proofs.Causes.{fails_after, missing_for}
use Rattle.host_journal.proofs.Quiet.{ends_step}
use Rattle.host_journal.proofs.beginning.take_lock.Goals as goal

pub returns-in-Err-Missing-clause-refused : goal.returns-in-Err-Missing-clause-refused
returns-in-Err-Missing-clause-refused g c =
    fails_after (g.D.Disk.held c.make_folder.new.disk) _ (g.D.Disk.steps c.args.disk.now) (g.D.Disk.steps c.lock.new.self) (g.D.Disk.steps c.make_folder.new.disk) (Failed Lock c.in-Err-Missing.field-0) c.make_folder.result
    c.in-Err-Missing.ensures.steps c.make_folder.ensures.refused

pub returns-in-Err-Failed-clause-refused : goal.returns-in-Err-Failed-clause-refused
returns-in-Err-Failed-clause-refused g c =
    inl (ends_step (IsFailedBy Lock NotDone) (g.D.Disk.steps c.args.disk.now) (g.D.Disk.steps c.lock.new.self) (Failed Lock NotDone) (refl, refl)
    (c.in-Err-Failed.ensures.steps ∙ ap (λ (fault : DiskFault). with_step (g.D.Disk.steps c.args.disk.now) (Failed Lock fault)) c.in-Err-Failed.field-0-is))

pub returns-in-Err-Missing-clause-steps : goal.returns-in-Err-Missing-clause-steps
returns-in-Err-Missing-clause-steps g c =
    missing_for _ (g.D.Disk.steps c.args.disk.now) (g.D.Disk.steps c.lock.new.self) (g.D.Disk.steps c.make_folder.new.disk) c.make_folder.result
    (c.in-Err-Missing.ensures.steps ∙ ap (λ (fault : DiskFault). with_step (g.D.Disk.steps c.args.disk.now) (Failed Lock fault)) c.in-Err-Missing.field-0-is) c.make_folder.ensures.steps
