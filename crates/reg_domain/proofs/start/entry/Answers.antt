use Rattle.std.proofs.Common.{refl}
use Rattle.reg_domain.proofs.AtEntry.{describes_entry}
use Rattle.reg_domain.proofs.start.entry.Goals as goal

pub returns-clause-entries : goal.returns-clause-entries
returns-clause-entries c = describes_entry _ c.entry_registers.ensures.hold c.outermost.ensures.covers c.none.ensures c.none-2.ensures refl c.at_start.ensures refl
