use Rattle.std.proofs.Common.{ℕ, ap}
use Rattle.base.specs.declared.or_memory.OrMemory.TheVariants.{Fault}
use Rattle.host_journal.specs.declared.fault.JournalFault.TheVariants.{Segment}
use Rattle.host_recovery.specs.declared.fault.RecoveryFault.TheVariants.{Form}
use Rattle.trace.specs.declared.fault.TraceFault.TheVariants.{Line}
use Rattle.host_journal.proofs.auditing.unended.Goals as goal

pub returns : goal.returns
returns c = ap (λ (line : ℕ). Fault (Segment c.args.number (Form (Line line)))) c.saturating_add-line.ensures
