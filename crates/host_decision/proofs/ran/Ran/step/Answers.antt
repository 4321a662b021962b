use Rattle.std.proofs.Common.{ℕ, None, Option, refl, subst, sym}
use Rattle.world_calls.specs.declared.record.Record.{Record}
use Rattle.world_calls.specs.declared.record.Record.TheVariants.{Advance}
use Rattle.engine_core.specs.ByNumber.{Advances, CannotFollow, NumberedState}
use Rattle.host_decision.proofs.ran.Ran.step.Goals as goal

pub returns-in-None : goal.returns-in-None
returns-in-None c =
    let run : ℕ = c.args.self.now.run in
    let none : Advances c.args.self.now.engine run None c.advance.new.self =
    subst (λ (o : Option Record). Advances c.args.self.now.engine run o c.advance.new.self) c.in-None.is c.in_ok-told.ensures.advanced in
    record {
      ended = λ instructions stop r0. subst (λ (e : NumberedState). CannotFollow e (Advance run instructions stop r0)) (sym none.0) (none.1 instructions stop r0);
      engine = none.0;
      run = refl;
      freeze = refl;
      records = refl;
      instructions = refl;
    }
