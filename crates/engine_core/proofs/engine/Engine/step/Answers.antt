use Rattle.std.proofs.Common.{sym, ◌∙◌}
use Rattle.engine_core.specs.declared.event.Event.TheVariants as events
use Rattle.engine_core.specs.declared.reply.Reply.TheVariants.{Success}
use Rattle.engine_core.specs.Replies.{given_advanced}
use Rattle.engine_core.specs.Settings.{setup_over}
use Rattle.engine_core.proofs.Answering.{Appended, appended, on_ok}
use Rattle.engine_core.proofs.Driven.{steps_of}
use Rattle.engine_core.proofs.engine.Engine.step.Goals as goal

-- one record more
made : (c : goal.After-push_reserved) → Appended (setup_over c.self.inside.config c.self.inside.over.world) c.self.inside.history c.push_reserved.new.self c.self.inside.parts.transport c.self.inside.parts.runs c.go_on_here.new.transport c.go_on_here.new.runs c.in_ok-progress.told
made c =
    let step = c.in_ok-progress.ensures.step in
    appended (setup_over c.self.inside.config c.self.inside.over.world) c.self.inside.history c.reserve.new.self c.push_reserved.new.self (events.Advance step.next.run) c.self.inside.parts.transport c.self.inside.parts.runs c.go_on_here.new.transport c.go_on_here.new.runs (Success (given_advanced step.answer)) c.in_ok-progress.told
    c.self.invariant.0 c.reserve.ensures.records c.reserve.ensures.taken c.push_reserved.ensures.records c.push_reserved.ensures.taken (on_ok c.reserve.result _ (sym c.is_err.ensures.value ∙ c.if-is_err.false) c.reserve.ensures.room) c.push_reserved.ensures.capacity (step.performs c.self.inside.history.records c.self.invariant.0)

pub invariant_of-self-2 : goal.invariant_of-self-2
invariant_of-self-2 c = let it = made c in (it.kept, it.room)

pub returns-clause-steps : goal.returns-clause-steps
returns-clause-steps c = rw (← c.self.view_is) (
    steps_of (setup_over c.self.inside.config c.self.inside.over.world) c.self.inside.history c.push_reserved.new.self c.self.inside.parts.transport c.go_on_here.new.transport c.self.inside.parts.runs c.go_on_here.new.runs c.args.place c.in_ok-progress.progress c.in_ok-progress.told c.in_ok-progress.ensures.step (made c).records)

pub returns-clause-run : goal.returns-clause-run
returns-clause-run c = (made c).kept.run
