use Rattle.std.proofs.Common.{subst}
use Rattle.world_calls.specs.declared.call.Call.TheVariants as calls
use Rattle.world_calls.specs.declared.record.Record.{Record}
use Rattle.engine_core.specs.ByNumber.{RecordFollows}
use Rattle.engine_core.specs.Replies.{withdrawn_answer}
use Rattle.engine_core.specs.Settings.{setup_over}
use Rattle.engine_core.proofs.Numbered.{called_by, follows, keeps_tokens, moved, others_by, state_of}
use Rattle.engine_core.proofs.numbered_engine.NumberedEngine.withdraw.Goals as goal

pub invariant_of-self : goal.invariant_of-self
invariant_of-self c =
    keeps_tokens (setup_over c.self.inside.config.now c.self.inside.over.world) c.self.inside.parts.transport c.self.inside.parts.runs c.withdraw-told.new.transport c.self.inside.parts.runs c.withdraw-told.result.1 c.self.inside.tokens.items c.self.invariant (moved _ _ _ _ _ _ _ _ (c.withdraw-told.ensures.performs c.self.inside.parts.runs))
    (others_by c.withdraw-told.result.1 (withdrawn_answer c.withdraw-told.result.0) (calls.Withdraw c.args.ccb) c.withdraw-told.ensures.told tt)

pub returns-clause-answered : goal.returns-clause-answered
returns-clause-answered c = rw (← c.self.view_is) (
    subst (λ (r : Record). RecordFollows (state_of (setup_over c.self.inside.config.now c.self.inside.over.world) c.self.inside.parts.transport c.self.inside.parts.runs) r (state_of (setup_over c.self.inside.config.now c.self.inside.over.world) c.withdraw-told.new.transport c.self.inside.parts.runs))
    (called_by c.withdraw-told.result.1 (withdrawn_answer c.withdraw-told.result.0) c.answer_in.result (calls.Withdraw c.args.ccb) c.withdraw-told.ensures.told c.answer_in.ensures)
    (follows (setup_over c.self.inside.config.now c.self.inside.over.world) c.self.inside.parts.transport c.self.inside.parts.runs c.withdraw-told.new.transport c.self.inside.parts.runs c.withdraw-told.result.1 c.self.inside.tokens.items c.self.invariant (moved _ _ _ _ _ _ _ _ (c.withdraw-told.ensures.performs c.self.inside.parts.runs))))
