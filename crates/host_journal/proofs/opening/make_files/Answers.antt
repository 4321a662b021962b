use Rattle.std.proofs.Common.{[], refl, subst, sym}
use Rattle.base.specs.declared.or_memory.OrMemory.{OrMemory}
use Rattle.host_journal.specs.Disks.{ManifestMade}
use Rattle.host_journal.specs.Starts.{IsUnmade}
use Rattle.host_journal.specs.declared.fault.JournalFault.{JournalFault}
use Rattle.host_journal.proofs.Causes.{unmade}
use Rattle.host_journal.proofs.Quiet.{went_same, went_step}
use Rattle.host_journal.proofs.opening.make_files.Goals as goal

pub returns-in-Ok-make_segment-clause-behind : goal.returns-in-Ok-make_segment-clause-behind
returns-in-Ok-make_segment-clause-behind g c = record { records = []; behind = c.requires.first; counted = refl }

pub returns-in-Err-clause-unmade : goal.returns-in-Err-clause-unmade
returns-in-Err-clause-unmade g c =
    subst (λ (error : OrMemory JournalFault). IsUnmade (g.D.Disk.steps c.args.disk.now) (g.D.Disk.steps c.make_manifest.new.self) error) (sym c.of_file.ensures)
    (unmade (g.D.Disk.steps c.args.disk.now) (g.D.Disk.steps c.args.disk.now) (g.D.Disk.steps c.make_manifest.new.self) c.in-Err.fault _ (went_same (g.D.Disk.steps c.args.disk.now) (g.D.Disk.steps c.args.disk.now) refl)
    c.in-Err.ensures)

pub returns-clause-unmade : goal.returns-clause-unmade
returns-clause-unmade g c =
    subst (λ (error : OrMemory JournalFault). IsUnmade (g.D.Disk.steps c.args.disk.now) (g.D.Disk.steps c.make_segment.new.self) error) (sym c.of_file-in-Err-make_segment.ensures)
    (unmade (g.D.Disk.steps c.args.disk.now) (g.D.Disk.steps c.make_manifest.new.self) (g.D.Disk.steps c.make_segment.new.self) c.in-Err-make_segment.fault _
    (went_step (g.D.Disk.steps c.args.disk.now) (g.D.Disk.steps c.make_manifest.new.self) (ManifestMade c.args.number c.args.manifest.now) c.in-Ok.ensures) c.in-Err-make_segment.ensures.steps)
