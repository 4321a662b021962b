-- the records so far
use Rattle.std.proofs.Common.{◌≡◌, ◌*◌, ◌≤◌, take}
use Rattle.trace.specs.Pages.{Passed}
use Rattle.trace.specs.TraceText.{records_text}
use Rattle.trace.proofs.printer.print_records.Given as goal

abbrev pub invariant-loop-number : goal.invariant-loop-number
invariant-loop-number g l = record {
  so_far : Passed (records_text l.trace.version (take l.number l.trace.records.items)) l.initial.page (g.S.Sink.bytes l.fn.out) (g.S.Sink.failures l.fn.out) l.page (g.S.Sink.bytes l.out) (g.S.Sink.failures l.out);
  most : l.page.written ≤ 4096 * l.number;
  same : g.S.Sink.origin l.out ≡ g.S.Sink.origin l.fn.out;
}
