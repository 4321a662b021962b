use Rattle.std.proofs.Common.{sym, subst, ◌∙◌}
use Rattle.engine_core.specs.declared.event.Event.TheVariants as events
use Rattle.world_calls.specs.declared.record.Record.{Record}
use Rattle.engine_core.specs.EngineState.{EngineState, Records, world_of}
use Rattle.engine_core.specs.declared.reply.Reply.TheVariants.{Success}
use Rattle.engine_core.specs.Replies.{IsOfKnown, given_advanced}
use Rattle.engine_core.specs.Settings.{setup_over}
use Rattle.engine_core.proofs.Answering.{Appended, appended, goes_so, knows_program, on_ok, seen}
use Rattle.engine_core.proofs.engine.Engine.go_on_known.Goals as goal

-- one record more
made : (c : goal.After-push_reserved) → Appended (setup_over c.self.inside.config c.self.inside.over.world) c.self.inside.history c.push_reserved.new.self c.self.inside.parts.transport c.self.inside.parts.runs c.advance.new.transport c.advance.new.runs c.in-Ok.told
made c =
    appended (setup_over c.self.inside.config c.self.inside.over.world) c.self.inside.history c.reserve.new.self c.push_reserved.new.self (events.Advance c.args.run) c.self.inside.parts.transport c.self.inside.parts.runs c.advance.new.transport c.advance.new.runs (Success (given_advanced c.in-Ok.answer)) c.in-Ok.told
    c.self.invariant.0 c.reserve.ensures.records c.reserve.ensures.taken c.push_reserved.ensures.records c.push_reserved.ensures.taken (on_ok c.reserve.result _ (sym c.is_err.ensures.value ∙ c.if-is_err.false) c.reserve.ensures.room) c.push_reserved.ensures.capacity (c.in-Ok.ensures.performs (setup_over c.self.inside.config c.self.inside.over.world) c.self.inside.history.records c.self.invariant.0)

pub admit_run-requires : goal.admit_run-requires
admit_run-requires c =
    rw (c.number.ensures, c.deref.ensures, c.program.ensures)
    (knows_program (setup_over c.self.inside.config c.self.inside.over.world) c.self.inside.history.records c.self.inside.parts.transport c.self.inside.parts.runs c.args.run c.args.known c.self.invariant.0 (subst (λ (s : EngineState). IsOfKnown s.setup (events.Advance c.args.run) c.args.known) (sym c.self.view_is) c.requires))

pub invariant_of-self-in-Ok : goal.invariant_of-self-in-Ok
invariant_of-self-in-Ok c = let it = made c in (it.kept, it.room)

pub returns-in-Ok-clause-answered : goal.returns-in-Ok-clause-answered
returns-in-Ok-clause-answered c = rw (← c.self.view_is) (
    subst (λ (told : Record). Records (seen (setup_over c.self.inside.config c.self.inside.over.world) c.self.inside.history c.self.inside.parts.transport c.self.inside.parts.runs) (seen (setup_over c.self.inside.config c.self.inside.over.world) c.push_reserved.new.self c.advance.new.transport c.advance.new.runs) told) c.in-Ok.ensures.told (made c).records)

pub returns-in-Ok-clause-goes : goal.returns-in-Ok-clause-goes
returns-in-Ok-clause-goes c = rw (← c.self.view_is) (
    goes_so (setup_over c.self.inside.config c.self.inside.over.world) (world_of (setup_over c.self.inside.config c.self.inside.over.world) c.self.inside.history.records c.self.inside.parts.transport c.self.inside.parts.runs.runs) (world_of (setup_over c.self.inside.config c.self.inside.over.world) c.push_reserved.new.self.records c.advance.new.transport c.advance.new.runs.runs) c.args.run c.in-Ok.answer ((c.in-Ok.ensures.performs (setup_over c.self.inside.config c.self.inside.over.world) c.self.inside.history.records c.self.invariant.0).gives (world_of (setup_over c.self.inside.config c.self.inside.over.world) c.self.inside.history.records c.self.inside.parts.transport c.self.inside.parts.runs.runs) (world_of (setup_over c.self.inside.config c.self.inside.over.world) c.push_reserved.new.self.records c.advance.new.transport c.advance.new.runs.runs)))

pub returns-in-Ok-clause-run : goal.returns-in-Ok-clause-run
returns-in-Ok-clause-run c = (made c).kept.run
