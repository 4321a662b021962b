use Rattle.std.proofs.Common.{◌∙◌, ℕ, Err, ap, subst, sym}
use Rattle.base.specs.declared.or_memory.OrMemory.{OrMemory}
use Rattle.host_journal.specs.Disks.{Failed, with_step}
use Rattle.host_journal.specs.Starts.{CutsOff}
use Rattle.host_journal.specs.declared.fault.JournalFile.TheVariants.{Segment}
use Rattle.host_journal.specs.declared.fault.JournalFault.{JournalFault}
use Rattle.host_journal.proofs.Causes.{cut_failed}
use Rattle.host_journal.proofs.opening.cut.Goals as goal

pub returns-clause-steps : goal.returns-clause-steps
returns-clause-steps g c =
    subst (λ (error : OrMemory JournalFault). CutsOff c.args.number c.args.recovered (g.D.Disk.steps c.args.disk.now) (Err error) (g.D.Disk.steps c.cut.new.self)) (sym c.of_file.ensures)
    (cut_failed c.args.number c.args.recovered (g.D.Disk.steps c.args.disk.now) (g.D.Disk.steps c.cut.new.self) c.in-Err.fault
    (c.in-Err.ensures.steps ∙ ap (λ (n : ℕ). with_step (g.D.Disk.steps c.args.disk.now) (Failed (Segment n) c.in-Err.fault)) c.requires))
