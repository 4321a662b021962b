use Rattle.std.proofs.Common.{List, ℕ, subst, sym}
use Rattle.base.specs.declared.or_memory.OrMemory.{OrMemory}
use Rattle.host_journal.specs.Audits.{FailsInSegment}
use Rattle.host_journal.specs.Disks.{IsText}
use Rattle.host_journal.specs.declared.fault.JournalFault.{JournalFault}
use Rattle.host_journal.proofs.Sound.{configured_if, manifest_unread, own_if}
use Rattle.host_journal.proofs.auditing.configured.Goals as goal

pub returns-in-Ok-clause-configured : goal.returns-in-Ok-clause-configured
returns-in-Ok-clause-configured g c = configured_if (g.D.Disk.held c.args.disk.now) c.args.number c.as_slice.result.now c.own.result (subst (λ (bytes : List ℕ). IsText ((g.D.Disk.held c.args.disk.now).manifests c.args.number) bytes) (sym c.as_slice.ensures.value) c.in-Ok.ensures.bytes) c.own.ensures.read

pub returns-in-Ok-clause-refused : goal.returns-in-Ok-clause-refused
returns-in-Ok-clause-refused g c = λ last before.
    own_if (g.D.Disk.held c.args.disk.now) c.args.number last before c.as_slice.result.now (g.D.Disk.steps c.args.disk.now) (g.D.Disk.steps c.read_manifest.new.self) c.own.result
    (subst (λ (bytes : List ℕ). IsText ((g.D.Disk.held c.args.disk.now).manifests c.args.number) bytes) (sym c.as_slice.ensures.value) c.in-Ok.ensures.bytes) c.own.ensures.fault

pub returns-in-Err-clause-refused : goal.returns-in-Err-clause-refused
returns-in-Err-clause-refused g c = λ last before.
    subst (λ (error : OrMemory JournalFault). FailsInSegment (g.D.Disk.held c.args.disk.now) c.args.number last before (g.D.Disk.steps c.args.disk.now) (g.D.Disk.steps c.read_manifest.new.self) error) (sym c.of_file.ensures)
    (manifest_unread (g.D.Disk.held c.args.disk.now) c.args.number last before (g.D.Disk.steps c.args.disk.now) (g.D.Disk.steps c.read_manifest.new.self) c.in-Err.fault c.in-Err.ensures.steps)
