use Rattle.std.proofs.Common.{refl, sym, ◌∙◌}
use Rattle.world_calls.specs.declared.call.Call.TheVariants as calls
use Rattle.engine_core.specs.declared.event.Event.TheVariants as events
use Rattle.engine_core.specs.EngineState.{world_of}
use Rattle.engine_core.specs.Replies.{resumed_answer, resumed_reply}
use Rattle.engine_core.specs.Settings.{setup_over}
use Rattle.engine_core.proofs.Answering.{Appended, appended, on_ok, refuses, resumes_so, seen}
use Rattle.engine_core.proofs.engine.Engine.resume.Goals as goal

-- one record more
made : (c : goal.After-given) → Appended (setup_over c.self.inside.config c.self.inside.over.world) c.self.inside.history c.push_reserved.new.self c.self.inside.parts.transport c.self.inside.parts.runs c.self.inside.parts.transport c.resume.new.runs c.in-Ok.told
made c =
    appended (setup_over c.self.inside.config c.self.inside.over.world) c.self.inside.history c.reserve.new.self c.push_reserved.new.self (events.Resume c.args.run) c.self.inside.parts.transport c.self.inside.parts.runs c.self.inside.parts.transport c.resume.new.runs (resumed_reply c.in-Ok.answer) c.in-Ok.told
    c.self.invariant.0 c.reserve.ensures.records c.reserve.ensures.taken c.push_reserved.ensures.records c.push_reserved.ensures.taken (on_ok c.reserve.result _ (sym c.is_err.ensures.value ∙ c.if-is_err.false) c.reserve.ensures.room) c.push_reserved.ensures.capacity (c.in-Ok.ensures.performs c.self.inside.parts.transport)

pub invariant_of-self-in-Ok : goal.invariant_of-self-in-Ok
invariant_of-self-in-Ok c = let it = made c in (it.kept, it.room)

pub returns-in-Ok-clause-resumed : goal.returns-in-Ok-clause-resumed
returns-in-Ok-clause-resumed c = rw (c.given.ensures, ← c.self.view_is) (
    resumes_so (seen (setup_over c.self.inside.config c.self.inside.over.world) c.self.inside.history c.self.inside.parts.transport c.self.inside.parts.runs) (seen (setup_over c.self.inside.config c.self.inside.over.world) c.push_reserved.new.self c.self.inside.parts.transport c.resume.new.runs) c.args.run c.in-Ok.answer c.in-Ok.told c.in-Ok.ensures.told (made c).records
    ((c.in-Ok.ensures.performs c.self.inside.parts.transport).gives (world_of (setup_over c.self.inside.config c.self.inside.over.world) c.self.inside.history.records c.self.inside.parts.transport c.self.inside.parts.runs.runs) (world_of (setup_over c.self.inside.config c.self.inside.over.world) c.push_reserved.new.self.records c.self.inside.parts.transport c.resume.new.runs.runs)))

pub returns-in-Ok-clause-fault : goal.returns-in-Ok-clause-fault
returns-in-Ok-clause-fault c = rw (c.given.ensures, ← c.self.view_is) (
    refuses c.in-Ok.answer resumed_answer (seen (setup_over c.self.inside.config c.self.inside.over.world) c.self.inside.history c.self.inside.parts.transport c.self.inside.parts.runs) (seen (setup_over c.self.inside.config c.self.inside.over.world) c.push_reserved.new.self c.self.inside.parts.transport c.resume.new.runs) (calls.Resume c.args.run) c.in-Ok.told (λ refusal. refl) c.in-Ok.ensures.told (made c).records)

pub returns-in-Ok-clause-run : goal.returns-in-Ok-clause-run
returns-in-Ok-clause-run c = (made c).kept.run
