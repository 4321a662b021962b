use Rattle.reg_domain.proofs.AtEntry.{hold_at_entry}
use Rattle.reg_domain.proofs.start.entry_registers.Goals as goal

pub returns-clause-hold : goal.returns-clause-hold
returns-clause-hold c = hold_at_entry
