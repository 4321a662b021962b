use Rattle.std.proofs.Common.{refl, sym, ◌∙◌}
use Rattle.world_calls.specs.declared.call.Call.TheVariants as calls
use Rattle.engine_core.specs.declared.event.Event.TheVariants as events
use Rattle.engine_core.specs.Replies.{withdrawn_answer, withdrawn_reply}
use Rattle.engine_core.specs.Settings.{setup_over}
use Rattle.engine_core.proofs.Answering.{Appended, appended, gives, on_ok, refuses, seen}
use Rattle.engine_core.proofs.engine.Engine.withdraw.Goals as goal

-- one record more
made : (c : goal.After-given) → Appended (setup_over c.self.inside.config c.self.inside.over.world) c.self.inside.history c.push_reserved.new.self c.self.inside.parts.transport c.self.inside.parts.runs c.withdraw-answer.new.transport c.self.inside.parts.runs c.withdraw-answer.result.1
made c =
    appended (setup_over c.self.inside.config c.self.inside.over.world) c.self.inside.history c.reserve.new.self c.push_reserved.new.self (events.Withdraw c.args.ccb) c.self.inside.parts.transport c.self.inside.parts.runs c.withdraw-answer.new.transport c.self.inside.parts.runs (withdrawn_reply c.withdraw-answer.result.0) c.withdraw-answer.result.1
    c.self.invariant.0 c.reserve.ensures.records c.reserve.ensures.taken c.push_reserved.ensures.records c.push_reserved.ensures.taken (on_ok c.reserve.result _ (sym c.is_err.ensures.value ∙ c.if-is_err.false) c.reserve.ensures.room) c.push_reserved.ensures.capacity (c.withdraw-answer.ensures.performs c.self.inside.parts.runs)

pub invariant_of-self-2 : goal.invariant_of-self-2
invariant_of-self-2 c = let it = made c in (it.kept, it.room)

pub returns-clause-answered : goal.returns-clause-answered
returns-clause-answered c = rw (c.given.ensures, ← c.self.view_is) (
    gives c.withdraw-answer.result.0 withdrawn_answer (seen (setup_over c.self.inside.config c.self.inside.over.world) c.self.inside.history c.self.inside.parts.transport c.self.inside.parts.runs) (seen (setup_over c.self.inside.config c.self.inside.over.world) c.push_reserved.new.self c.withdraw-answer.new.transport c.self.inside.parts.runs) (calls.Withdraw c.args.ccb) c.withdraw-answer.result.1 c.withdraw-answer.ensures.told (made c).records)

pub returns-clause-fault : goal.returns-clause-fault
returns-clause-fault c = rw (c.given.ensures, ← c.self.view_is) (
    refuses c.withdraw-answer.result.0 withdrawn_answer (seen (setup_over c.self.inside.config c.self.inside.over.world) c.self.inside.history c.self.inside.parts.transport c.self.inside.parts.runs) (seen (setup_over c.self.inside.config c.self.inside.over.world) c.push_reserved.new.self c.withdraw-answer.new.transport c.self.inside.parts.runs) (calls.Withdraw c.args.ccb) c.withdraw-answer.result.1 (λ refusal. refl) c.withdraw-answer.ensures.told (made c).records)

pub returns-clause-run : goal.returns-clause-run
returns-clause-run c = (made c).kept.run
