use Rattle.std.proofs.Common.{Option, Some, None, ap, refl, subst}
use Rattle.trace_lines.specs.Written.{Reads}
use Rattle.host_live.specs.Requests.{request_text}
use Rattle.host_live.specs.declared.request.Request.{Request}
use Rattle.host_live.proofs.request.asked_by.Goals as goal

pub returns-in-Ok-Some : goal.returns-in-Ok-Some
returns-in-Ok-Some c = record {
  read = Some c.in-Ok-Some.request;
  reads = subst (λ (o : Option Request). Reads (request_text c.args.version c.args.is_told) c.args.line.now o) c.in-Ok-Some.field-0-is c.in-Ok-Some.ensures;
  is = ap Some c.told.ensures;
}

pub returns-in-Ok-None : goal.returns-in-Ok-None
returns-in-Ok-None c = record {
  read = None;
  reads = subst (λ (o : Option Request). Reads (request_text c.args.version c.args.is_told) c.args.line.now o) c.in-Ok-None.field-0-is c.in-Ok-None.ensures;
  is = refl;
}
