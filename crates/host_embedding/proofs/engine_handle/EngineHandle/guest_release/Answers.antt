use Rattle.std.proofs.Common.{refl, subst}
use Rattle.world_calls.specs.declared.call.Call.TheVariants.{GuestRelease}
use Rattle.world_calls.specs.declared.call_answer.CallAnswer.TheVariants as answers
use Rattle.world_calls.specs.declared.record.Record.TheVariants.{Called}
use Rattle.engine_core.specs.EngineState.{Records}
use Rattle.host_embedding.proofs.Beginning.{recorded}
use Rattle.host_embedding.proofs.Courses.{called as keeps_called}
use Rattle.host_embedding.proofs.Guests.{not_released, released, rise}
use Rattle.host_embedding.proofs.engine_handle.EngineHandle.guest_release.Goals as goal

pub take_token-requires : goal.take_token-requires
take_token-requires c = rise c.self.inside.engine c.self.inside.tokens.items c.self.invariant.0

pub invariant_of-self-in-Ok : goal.invariant_of-self-in-Ok
invariant_of-self-in-Ok c =
    let told : Records c.self.inside.engine c.guest_release.new.self (Called (answers.Left c.in-Ok.count) (GuestRelease c.args.freeze)) =
    subst (λ n. Records c.self.inside.engine c.guest_release.new.self (Called (answers.Left c.in-Ok.count) (GuestRelease n))) c.in-Some.ensures.taken.1 c.in-Ok.ensures.released in (
      released c.self.inside.engine c.guest_release.new.self c.self.inside.tokens.items c.take_token.new.tokens.items c.in-Ok.count c.args.freeze c.self.invariant.0 told
          c.guest_release.ensures.run c.in-Some.ensures.taken.2,
      recorded c.self.inside.engine c.guest_release.new.self _ c.self.inside.is_continued c.self.inside.lines.items c.self.invariant.1 told,
      keeps_called c.self.inside.engine c.guest_release.new.self _ _ c.self.inside.fates.items c.self.invariant.2 told,
    )

pub returns-in-Err : goal.returns-in-Err
returns-in-Err c = record {
  recorded = rw (← c.self.view_is) (not_released c.self.inside.engine c.guest_release.new.self c.self.inside.tokens.items c.in-Some.token c.args.freeze c.args.left.now c.in-Err.fault c.released.result
      c.self.invariant.0 c.in-Some.ensures.taken.0 c.in-Some.ensures.taken.1 c.in-Err.ensures.held c.in-Err.ensures.back.1 c.released.ensures);
  kept = λ other. refl;
}
