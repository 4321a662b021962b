use Rattle.trace.proofs.Spelled.{no_line}
use Rattle.trace.proofs.printer.print_record.Goals as goal

pub unreachable-requires : goal.unreachable-requires
unreachable-requires c = no_line _ c.requires.spelled c.in-Err.ensures.text
