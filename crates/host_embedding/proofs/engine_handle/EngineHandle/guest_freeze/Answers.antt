use Rattle.std.proofs.Common.{◌∙◌, List, [], ◌∷◌, ◌++◌, ap, refl, sym, subst}
use Rattle.freeze_ledger.specs.declared.freeze.Freeze.{Freeze}
use Rattle.world_calls.specs.declared.call.Call.TheVariants.{GuestFreeze}
use Rattle.world_calls.specs.declared.call_answer.CallAnswer.TheVariants as answers
use Rattle.world_calls.specs.declared.record.Record.TheVariants.{Called}
use Rattle.engine_core.specs.EngineState.{Records}
use Rattle.host_embedding.specs.Guests.{HasGuests}
use Rattle.host_embedding.proofs.Beginning.{faulted, recorded as knows_recorded}
use Rattle.host_embedding.proofs.Courses.{called as keeps_called, faulted as keeps_faulted}
use Rattle.host_embedding.proofs.Guests.{frozen, is_fresh, stay_unfrozen}
use Rattle.host_embedding.proofs.engine_handle.EngineHandle.guest_freeze.Goals as goal

pub returns-in-Ok : goal.returns-in-Ok
returns-in-Ok c =
    let recorded : Records c.self.inside.engine c.freeze_place.new.self (Called (answers.Freeze c.number.result) (GuestFreeze c.args.place c.args.guest)) =
    subst (λ n. Records c.self.inside.engine c.freeze_place.new.self (Called (answers.Freeze n) (GuestFreeze c.args.place c.args.guest))) (sym c.number.ensures) c.in-Ok.ensures.taken in
    record {
      recorded = rw (← c.self.view_is) (
        recorded,
        λ done. is_fresh c.self.inside.engine c.freeze_place.new.self c.self.inside.tokens.items c.args.place c.args.guest c.number.result c.self.invariant.0 recorded,
      );
      kept = λ other. absurd (other refl);
    }

pub invariant_of-self-in-Err : goal.invariant_of-self-in-Err
invariant_of-self-in-Err c = (
  stay_unfrozen c.self.inside.engine c.freeze_place.new.self c.in-Err.fault c.args.place c.args.guest c.reserve.new.self.items
      (subst (λ (its : List Freeze). HasGuests c.self.inside.engine its) (sym c.reserve.ensures.items) c.self.invariant.0) c.in-Err.ensures.fault c.freeze_place.ensures.run,
  faulted c.self.inside.engine c.freeze_place.new.self c.in-Err.fault (GuestFreeze c.args.place c.args.guest) c.self.inside.is_continued c.self.inside.lines.items c.self.invariant.1 c.in-Err.ensures.fault,
  keeps_faulted c.self.inside.engine c.freeze_place.new.self c.in-Err.fault (GuestFreeze c.args.place c.args.guest) c.self.inside.fates.items c.self.invariant.2 c.in-Err.ensures.fault,
)

pub invariant_of-self-in-Ok : goal.invariant_of-self-in-Ok
invariant_of-self-in-Ok c = (
  frozen c.self.inside.engine c.freeze_place.new.self c.self.inside.tokens.items c.push_reserved.new.self.items c.in-Ok.token c.args.place c.args.guest c.self.invariant.0 c.in-Ok.ensures.taken c.in-Ok.ensures.token.1 c.in-Ok.ensures.token.2 c.freeze_place.ensures.run
      (c.push_reserved.ensures.items ∙ (ap (λ (its : List Freeze). its ++ c.new.result ∷ []) c.reserve.ensures.items ∙ ap (λ (it : Freeze). c.self.inside.tokens.items ++ it ∷ []) c.new.ensures)),
  knows_recorded c.self.inside.engine c.freeze_place.new.self (Called (answers.Freeze c.in-Ok.token.number) (GuestFreeze c.args.place c.args.guest)) c.self.inside.is_continued c.self.inside.lines.items c.self.invariant.1 c.in-Ok.ensures.taken,
  keeps_called c.self.inside.engine c.freeze_place.new.self (answers.Freeze c.in-Ok.token.number) (GuestFreeze c.args.place c.args.guest) c.self.inside.fates.items c.self.invariant.2 c.in-Ok.ensures.taken,
)
