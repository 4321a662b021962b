use Rattle.std.proofs.Common.{List, subst}
use Rattle.world_calls.specs.declared.carried_line.CarriedLine.{CarriedLine}
use Rattle.engine_succession.specs.declared.beginning.BeginFault.{BeginFault}
use Rattle.engine_succession.specs.declared.beginning.BeginFault.TheVariants.{DoesNotFit}
use Rattle.engine_succession.specs.FromLines.{BeginsWith, IsRefused}
use Rattle.engine_succession.proofs.Succeeding.{never_refused, takes_over}
use Rattle.host_embedding.proofs.succession.successor.Goals as goal

pub unreachable-requires : goal.unreachable-requires
unreachable-requires c =
    never_refused c.args.numbering c.args.engine.now c.args.config c.in-Ok.lines.items c.in-Err-DoesNotFit-default.field-0-0-0 c.records.ensures.run c.queues.ensures.lawful c.requires c.in-Ok.ensures
    (subst (λ (ls : List CarriedLine). IsRefused c.args.config ls (DoesNotFit c.in-Err-DoesNotFit-default.field-0-0-0)) c.deref.ensures.value
    (subst (λ (f : BeginFault). IsRefused c.args.config c.deref.result.now f) c.in-Err-DoesNotFit-default.field-0-0-is c.in-Err-DoesNotFit-default.ensures.refused))

pub returns-in-Ok-begin : goal.returns-in-Ok-begin
returns-in-Ok-begin c =
    (takes_over c.args.numbering c.args.engine.now c.args.config c.in-Ok-begin.next c.in-Ok-begin.tokens.items c.in-Ok.lines.items c.records.ensures.run c.queues.ensures.lawful c.requires c.in-Ok.ensures
    (subst (λ (ls : List CarriedLine). BeginsWith c.args.config ls c.in-Ok-begin.next c.in-Ok-begin.tokens.items) c.deref.ensures.value c.in-Ok-begin.ensures.begun)).engine_is
