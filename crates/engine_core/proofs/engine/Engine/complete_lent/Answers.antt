use Rattle.std.proofs.Common.{refl, sym, ◌∙◌}
use Rattle.world_calls.specs.declared.call.Call.TheVariants as calls
use Rattle.engine_core.specs.declared.event.Event.TheVariants as events
use Rattle.engine_core.specs.EngineState.{world_of}
use Rattle.engine_core.specs.Replies.{completed_answer, completed_reply}
use Rattle.engine_core.specs.Settings.{setup_over}
use Rattle.engine_core.proofs.Answering.{Appended, appended, gives, on_ok, refuses, seen, starts_so}
use Rattle.engine_core.proofs.engine.Engine.complete_lent.Goals as goal

-- one record more
made : (c : goal.After-given) → Appended (setup_over c.self.inside.config c.self.inside.over.world) c.self.inside.history c.push_reserved.new.self c.self.inside.parts.transport c.self.inside.parts.runs c.complete.new.transport c.complete.new.runs c.in-Ok.told
made c =
    appended (setup_over c.self.inside.config c.self.inside.over.world) c.self.inside.history c.reserve.new.self c.push_reserved.new.self (events.Complete c.args.completion) c.self.inside.parts.transport c.self.inside.parts.runs c.complete.new.transport c.complete.new.runs (completed_reply c.in-Ok.answer) c.in-Ok.told
    c.self.invariant.0 c.reserve.ensures.records c.reserve.ensures.taken c.push_reserved.ensures.records c.push_reserved.ensures.taken (on_ok c.reserve.result _ (sym c.is_err.ensures.value ∙ c.if-is_err.false) c.reserve.ensures.room) c.push_reserved.ensures.capacity (c.in-Ok.ensures.performs)

pub invariant_of-self-in-Ok : goal.invariant_of-self-in-Ok
invariant_of-self-in-Ok c = let it = made c in (it.kept, it.room)

pub returns-in-Ok-clause-answered : goal.returns-in-Ok-clause-answered
returns-in-Ok-clause-answered c = rw (c.given.ensures, ← c.self.view_is) (
    gives c.in-Ok.answer completed_answer (seen (setup_over c.self.inside.config c.self.inside.over.world) c.self.inside.history c.self.inside.parts.transport c.self.inside.parts.runs) (seen (setup_over c.self.inside.config c.self.inside.over.world) c.push_reserved.new.self c.complete.new.transport c.complete.new.runs) (calls.Complete c.args.completion.now) c.in-Ok.told c.in-Ok.ensures.told (made c).records)

pub returns-in-Ok-clause-started : goal.returns-in-Ok-clause-started
returns-in-Ok-clause-started c = rw (c.given.ensures) (
    starts_so (setup_over c.self.inside.config c.self.inside.over.world) (world_of (setup_over c.self.inside.config c.self.inside.over.world) c.self.inside.history.records c.self.inside.parts.transport c.self.inside.parts.runs.runs) (world_of (setup_over c.self.inside.config c.self.inside.over.world) c.push_reserved.new.self.records c.complete.new.transport c.complete.new.runs.runs) c.args.completion c.in-Ok.answer (c.in-Ok.ensures.performs.gives (world_of (setup_over c.self.inside.config c.self.inside.over.world) c.self.inside.history.records c.self.inside.parts.transport c.self.inside.parts.runs.runs) (world_of (setup_over c.self.inside.config c.self.inside.over.world) c.push_reserved.new.self.records c.complete.new.transport c.complete.new.runs.runs)))

pub returns-in-Ok-clause-fault : goal.returns-in-Ok-clause-fault
returns-in-Ok-clause-fault c = rw (c.given.ensures, ← c.self.view_is) (
    refuses c.in-Ok.answer completed_answer (seen (setup_over c.self.inside.config c.self.inside.over.world) c.self.inside.history c.self.inside.parts.transport c.self.inside.parts.runs) (seen (setup_over c.self.inside.config c.self.inside.over.world) c.push_reserved.new.self c.complete.new.transport c.complete.new.runs) (calls.Complete c.args.completion.now) c.in-Ok.told (λ refusal. refl) c.in-Ok.ensures.told (made c).records)

pub returns-in-Ok-clause-run : goal.returns-in-Ok-clause-run
returns-in-Ok-clause-run c = (made c).kept.run
