use Rattle.std.proofs.Common.{subst, sym}
use Rattle.trace_lines.specs.Written.{Reads}
use Rattle.trace.specs.TraceText.{entry_text, line_of}
use Rattle.trace.proofs.Entries.{unread, read_of}
use Rattle.trace.proofs.entry.read_record.Goals as goal

pub returns-in-Some : goal.returns-in-Some
returns-in-Some c =
    subst (Reads (entry_text c.args.version) c.args.line.now) (sym c.of_version.ensures)
    (read_of c.args.version c.args.line.now c.in-Some.entry (subst (Reads line_of c.args.line.now) c.in-Some.is c.in_ok-entry.ensures))

pub returns-in-None : goal.returns-in-None
returns-in-None c = unread c.args.version c.args.line.now (subst (Reads line_of c.args.line.now) c.in-None.is c.in_ok-entry.ensures)
