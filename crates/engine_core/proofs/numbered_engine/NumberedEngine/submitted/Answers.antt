use Rattle.std.proofs.Common.{◌≡◌, ℕ, Option, refl, subst, sym, ◌∙◌}
use Rattle.world_calls.specs.declared.call.Call.TheVariants as calls
use Rattle.world_calls.specs.declared.record.Record.TheVariants.{Called}
use Rattle.world.specs.World.{class_kept}
use Rattle.engine_core.specs.ByNumber.{RecordFollows}
use Rattle.engine_core.proofs.Numbered.{class_again, no_submission}
use Rattle.engine_core.proofs.numbered_engine.NumberedEngine.submitted.Goals as goal

pub returns-then-not-takes_class-clause-answered : goal.returns-then-not-takes_class-clause-answered
returns-then-not-takes_class-clause-answered c = (
  refl,
  λ answer. no_submission c.args.self.now c.args.queue c.args.priority c.args.retries c.args.class answer (sym c.takes_class.ensures ∙ c.if-not-takes_class.true),
)

pub returns-clause-answered : goal.returns-clause-answered
returns-clause-answered c =
    subst (λ (o : Option ℕ). RecordFollows c.args.self.now (Called c.submit.result (calls.Submit c.args.queue c.args.priority c.args.retries o)) c.submit.new.self)
    (class_again c.args.self.now.setup c.args.class (sym c.takes_class.ensures ∙ c.if-not-takes_class.false))
    (subst (λ (n : ℕ). RecordFollows c.args.self.now (Called c.submit.result (calls.Submit c.args.queue c.args.priority c.args.retries (class_kept c.args.self.now.setup n))) c.submit.new.self)
    c.class_in.ensures c.submit.ensures.answered)
