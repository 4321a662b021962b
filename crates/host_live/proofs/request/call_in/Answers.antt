use Rattle.std.proofs.Common.{Option, subst, sym}
use Rattle.trace_lines.specs.Written.{Reads}
use Rattle.world_calls.specs.declared.call.Call.{Call as TheCall}
use Rattle.host_live.specs.Requests.{call_text, spelled_call}
use Rattle.host_live.proofs.Spelled.{none_said, said_reads}
use Rattle.host_live.proofs.request.call_in.Goals as goal

pub returns-in-Ok-Some : goal.returns-in-Ok-Some
returns-in-Ok-Some c =
    let reads = subst (λ (o : Option TheCall). Reads spelled_call c.args.line.now o) c.in-Ok-Some.field-0-is c.in-Ok-Some.ensures in
    subst (Reads (call_text c.args.version) c.args.line.now) (sym c.said.ensures) (said_reads c.args.version c.args.line.now c.in-Ok-Some.call reads)

pub returns-in-Ok-None : goal.returns-in-Ok-None
returns-in-Ok-None c = none_said c.args.version c.args.line.now (subst (λ (o : Option TheCall). Reads spelled_call c.args.line.now o) c.in-Ok-None.field-0-is c.in-Ok-None.ensures)
