use Rattle.std.proofs.Common.{◌≡◌, List, [], ap, arith, refl, subst, sym, ◌∙◌}
use Rattle.world_calls.specs.declared.carried_line.CarriedLine.{CarriedLine}
use Rattle.world.specs.World.{Runs}
use Rattle.engine_core.specs.ByNumber.{engine_of}
use Rattle.engine_succession.specs.declared.beginning.BeginFault.{BeginFault}
use Rattle.engine_succession.specs.declared.beginning.BeginFault.TheVariants.{DoesNotFit}
use Rattle.engine_succession.specs.FromLines.{BeginsNumbered, IsRefused}
use Rattle.engine_succession.specs.Numbered.{MayBeFollowedBy, taken_from}
use Rattle.engine_succession.proofs.Succeeding.{begins, fits_at, follows_numbered, never_refused, none_of}
use Rattle.engine_succession.proofs.numbered.succeed_numbered.Goals as goal

pub unreachable-requires : goal.unreachable-requires
unreachable-requires c =
    let same : c.runs.result.now.runs.list ≡ c.args.engine.now.runs.list = ap (λ (r : Runs). r.list) c.runs.ensures.value in
    let none : c.runs.result.now.runs.list ≡ [] = none_of c.runs.result.now.runs.list (omega (arith, c.if-len-gt0.false, c.len.ensures.runs)) in
    never_refused c.args.numbering (engine_of c.args.engine.now c.runs.ensures.run.0) c.args.config.now c.in-Ok.lines.items c.in-Err-DoesNotFit.field-0-0 c.runs.ensures.run.1 c.queues.ensures.lawful
    (record { no_run = sym same ∙ none; fits = fits_at c.args.engine.now c.runs.ensures.run.0 c.args.config.now (c.if-not-fits_numbered.ensures.0 refl) }) c.in-Ok.ensures
    (subst (λ (ls : List CarriedLine). IsRefused c.args.config.now ls (DoesNotFit c.in-Err-DoesNotFit.field-0-0)) c.deref.ensures.value
    (subst (λ (f : BeginFault). IsRefused c.args.config.now c.deref.result.now f) c.in-Err-DoesNotFit.field-0-is c.in-Err-DoesNotFit.ensures.refused))

pub returns-in-Ok-begin_numbered-clause-follows : goal.returns-in-Ok-begin_numbered-clause-follows
returns-in-Ok-begin_numbered-clause-follows c =
    let same : c.runs.result.now.runs.list ≡ c.args.engine.now.runs.list = ap (λ (r : Runs). r.list) c.runs.ensures.value in
    let none : c.runs.result.now.runs.list ≡ [] = none_of c.runs.result.now.runs.list (omega (arith, c.if-len-gt0.false, c.len.ensures.runs)) in
    let may : MayBeFollowedBy c.args.engine.now c.args.config.now = record { no_run = sym same ∙ none; fits = c.if-not-fits_numbered.ensures.0 refl } in
    let engine = engine_of c.args.engine.now c.runs.ensures.run.0 in
    let is = begins c.args.numbering engine c.args.config.now c.runs.ensures.run.1 c.queues.ensures.lawful (record { no_run = may.no_run; fits = fits_at c.args.engine.now c.runs.ensures.run.0 c.args.config.now may.fits }) in
    let it = follows_numbered c.args.config.now (taken_from c.args.numbering c.args.engine.now c.args.config.now) c.in-Ok.lines.items c.in-Ok-begin_numbered.new is c.in-Ok.ensures
    (subst (λ (ls : List CarriedLine). BeginsNumbered c.args.config.now ls c.in-Ok-begin_numbered.new) c.deref.ensures.value c.in-Ok-begin_numbered.ensures.begun) in
    record { may = may; has = it.0; engine_is = it.1 }
