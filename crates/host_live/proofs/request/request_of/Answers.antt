use Rattle.std.proofs.Common.{Option, subst}
use Rattle.trace_lines.specs.Written.{Reads}
use Rattle.world_calls.specs.declared.call.Call.{Call as TheCall}
use Rattle.host_live.specs.Requests.{call_text}
use Rattle.host_live.proofs.Spelled.{call_is, none_is, word_is}
use Rattle.host_live.proofs.request.request_of.Goals as goal

pub returns-in-Some : goal.returns-in-Some
returns-in-Some c = word_is c.args.version c.args.is_told c.args.line.now c.in-Some.request c.in-Some.ensures

pub returns-in-Ok-Some : goal.returns-in-Ok-Some
returns-in-Ok-Some c = call_is c.args.version c.args.is_told c.args.line.now c.in-Ok-Some.call c.in-None.ensures (subst (λ (o : Option TheCall). Reads (call_text c.args.version) c.args.line.now o) c.in-Ok-Some.field-0-is c.in-Ok-Some.ensures)

pub returns-in-Ok-None : goal.returns-in-Ok-None
returns-in-Ok-None c = none_is c.args.version c.args.is_told c.args.line.now c.in-None.ensures (subst (λ (o : Option TheCall). Reads (call_text c.args.version) c.args.line.now o) c.in-Ok-None.field-0-is c.in-Ok-None.ensures)
