use Rattle.std.proofs.Common.{◌≡◌, List, [], ap, arith, refl, subst, sym, ◌∙◌}
use Rattle.world_calls.specs.declared.carried_line.CarriedLine.{CarriedLine}
use Rattle.world.specs.World.{Runs}
use Rattle.engine_succession.specs.declared.beginning.BeginFault.{BeginFault}
use Rattle.engine_succession.specs.declared.beginning.BeginFault.TheVariants.{DoesNotFit}
use Rattle.engine_succession.specs.FromLines.{BeginsWith, IsRefused}
use Rattle.engine_succession.specs.Succession.{MayBeFollowed}
use Rattle.engine_succession.proofs.Succeeding.{never_refused, none_of, takes_over}
use Rattle.engine_succession.proofs.succession.succeed.Goals as goal

pub unreachable-requires : goal.unreachable-requires
unreachable-requires c =
    let same : c.runs.result.now.runs.list ≡ c.args.engine.world.runs.list = ap (λ (r : Runs). r.list) c.runs.ensures.value in
    let none : c.runs.result.now.runs.list ≡ [] = none_of c.runs.result.now.runs.list (omega (arith, c.if-len-gt0.false, c.len.ensures.runs)) in
    let may : MayBeFollowed c.args.engine c.args.config = record { no_run = sym same ∙ none; fits = c.if-not-fits.ensures.0 refl } in
    never_refused c.args.numbering c.args.engine c.args.config c.in-Ok.lines.items c.in-Err-DoesNotFit-default.field-0-0-0 c.runs.ensures.run c.queues.ensures.lawful may c.in-Ok.ensures
    (subst (λ (ls : List CarriedLine). IsRefused c.args.config ls (DoesNotFit c.in-Err-DoesNotFit-default.field-0-0-0)) c.deref.ensures.value
    (subst (λ (f : BeginFault). IsRefused c.args.config c.deref.result.now f) c.in-Err-DoesNotFit-default.field-0-0-is c.in-Err-DoesNotFit-default.ensures.refused))

pub returns-in-Ok-begin-clause-follows : goal.returns-in-Ok-begin-clause-follows
returns-in-Ok-begin-clause-follows c =
    let same : c.runs.result.now.runs.list ≡ c.args.engine.world.runs.list = ap (λ (r : Runs). r.list) c.runs.ensures.value in
    let none : c.runs.result.now.runs.list ≡ [] = none_of c.runs.result.now.runs.list (omega (arith, c.if-len-gt0.false, c.len.ensures.runs)) in
    let may : MayBeFollowed c.args.engine c.args.config = record { no_run = sym same ∙ none; fits = c.if-not-fits.ensures.0 refl } in
    record {
      may = may;
      takes = takes_over c.args.numbering c.args.engine c.args.config c.in-Ok-begin.new c.in-Ok-begin.guests.items c.in-Ok.lines.items c.runs.ensures.run c.queues.ensures.lawful may c.in-Ok.ensures
          (subst (λ (ls : List CarriedLine). BeginsWith c.args.config ls c.in-Ok-begin.new c.in-Ok-begin.guests.items) c.deref.ensures.value c.in-Ok-begin.ensures.begun);
      ends = record { version_is = c.shut-ended.ensures.version; records_are = c.shut-ended.ensures.records; totals_are = c.shut-ended.ensures.totals };
    }
