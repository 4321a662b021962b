use Rattle.std.proofs.Common.{subst}
use Rattle.world_calls.specs.declared.call.Call.TheVariants as calls
use Rattle.world_calls.specs.declared.record.Record.{Record}
use Rattle.engine_core.specs.Replies.{resumed_answer}
use Rattle.engine_core.specs.ByNumber.{RecordFollows}
use Rattle.engine_core.specs.Settings.{setup_over}
use Rattle.engine_core.proofs.Numbered.{called_by, follows, keeps_tokens, moved, others_by, state_of}
use Rattle.engine_core.proofs.numbered_engine.NumberedEngine.resume.Goals as goal

pub invariant_of-self-2 : goal.invariant_of-self-2
invariant_of-self-2 c = rw c.spend_again.ensures (
    keeps_tokens (setup_over c.self.inside.config.now c.self.inside.over.world) c.self.inside.parts.transport c.self.inside.parts.runs c.self.inside.parts.transport c.resume.new.runs c.in_ok-answer.told c.self.inside.tokens.items c.self.invariant (moved _ _ _ _ _ _ _ _ (c.in_ok-answer.ensures.performs c.self.inside.parts.transport))
    (others_by c.in_ok-answer.told (resumed_answer c.in_ok-answer.answer) (calls.Resume c.args.run) c.in_ok-answer.ensures.told tt))

pub returns-clause-answered : goal.returns-clause-answered
returns-clause-answered c = rw (c.spend_again.ensures, ← c.self.view_is) (
    subst (λ (r : Record). RecordFollows (state_of (setup_over c.self.inside.config.now c.self.inside.over.world) c.self.inside.parts.transport c.self.inside.parts.runs) r (state_of (setup_over c.self.inside.config.now c.self.inside.over.world) c.self.inside.parts.transport c.resume.new.runs))
    (called_by c.in_ok-answer.told (resumed_answer c.in_ok-answer.answer) c.answer_in.result (calls.Resume c.args.run) c.in_ok-answer.ensures.told c.answer_in.ensures)
    (follows (setup_over c.self.inside.config.now c.self.inside.over.world) c.self.inside.parts.transport c.self.inside.parts.runs c.self.inside.parts.transport c.resume.new.runs c.in_ok-answer.told c.self.inside.tokens.items c.self.invariant (moved _ _ _ _ _ _ _ _ (c.in_ok-answer.ensures.performs c.self.inside.parts.transport))))
