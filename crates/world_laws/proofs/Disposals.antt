-- What a step by which a run disposes of its CCB makes of that CCB, and of the others.
use Rattle.std.proofs.Common.{◌≡◌, ℕ, ◌++◌, [], ◌∷◌, Bool, true, false, cond, eqb, Option, Some, None, inl, inr, refl, ap, sym, subst, ◌∙◌}
use Rattle.std.proofs.lemmas.Bool.{cases_Bool, eqb-true}
use Rattle.ccb.specs.Ccb.{requeued}
use Rattle.helpers.specs.declared.table.HelperEffect.{HelperEffect}
use Rattle.helpers.specs.declared.table.HelperEffect.TheVariants as effects
use Rattle.helpers.specs.declared.request.Request.{Request}
use Rattle.helpers.specs.Table.{row_of}
use Rattle.world.specs.declared.ccb_state.CcbState.TheVariants.{Waiting}
use Rattle.world.specs.World.{Setup, LiveCcb, LiveRun, World}
use Rattle.world.specs.Lookups.{ccb_of, with_ccb, run_of}
use Rattle.world.specs.Told.{Told, told_of}
use Rattle.world.specs.Event.{Instruction, private, call, exit, Event, called, executes, Reply}
use Rattle.world.specs.CcbSteps.{ended_with}
use Rattle.world.specs.Step.{WorldStep}
use Rattle.world.specs.Laws.Headline.{is_disposing, is_disposal, is_disposal_of, InRecoveryBy, IsRequeued, IsFinished, DisposesByEffect, DisposesBy, DisposesOfIt}
use Rattle.world.proofs.Lists.Found.{found_key, put_same, put_other, leave_same, leave_other}
use Rattle.world_laws.proofs.Steps.Does.{CcbDeed, leaves_ccbs, requeues_one, ends_one, advises_one}
use Rattle.world_laws.proofs.Steps.Calls.{Asks, asks_of}
use Rattle.world.proofs.Steps.Moves.{ccb_key, ccb_found}
use Rattle.world_laws.proofs.Steps.Effects.{its_instruction}
use Rattle.world_laws.proofs.Runs.Recovering.{Recovering}

-- A CCB that is requeued.

abbrev again : LiveCcb → ℕ → LiveCcb
again was used = record { ccb = requeued was.ccb used; state = Waiting }

requeued_now : (ccb used : ℕ) (was : LiveCcb) (before after : World) → ccb_of ccb before.transport.live ≡ Some was → after.transport.live ≡ with_ccb (again was used) before.transport.live → after.ended ≡ before.ended → IsRequeued ccb used was before after
requeued_now ccb used was before after found live_is ended_is =
    let named : was.ccb.number.0 ≡ ccb = found_key ccb_key ccb before.transport.live was found in
    let there : ccb_of was.ccb.number.0 after.transport.live ≡ Some (again was used) = ap (ccb_of was.ccb.number.0) live_is ∙ put_same ccb_key (again was used) before.transport.live was (ccb_found ccb before.transport.live was found) in
    record {
      now = again was used;
      found = subst (λ (n : ℕ). ccb_of n after.transport.live ≡ Some (again was used)) named there;
      state = refl;
      queue = refl;
      priority = refl;
      retries = refl;
      attempts = refl;
      status = refl;
      scsi = refl;
      sense = refl;
      freeze_taken = refl;
      ended = ended_is;
    }

requeued_alone : (ccb used : ℕ) (was : LiveCcb) (before after : World) → ccb_of ccb before.transport.live ≡ Some was → after.transport.live ≡ with_ccb (again was used) before.transport.live → (other : ℕ) → (other ≡ ccb → ⊥) → ccb_of other after.transport.live ≡ ccb_of other before.transport.live
requeued_alone ccb used was before after found live_is other apart =
    let named : was.ccb.number.0 ≡ ccb = found_key ccb_key ccb before.transport.live was found in
    ap (ccb_of other) live_is ∙ put_other ccb_key (again was used) other before.transport.live (λ same. apart (sym same ∙ named))

-- A CCB that is finished.

finished_now : (ccb code : ℕ) (was : LiveCcb) (before after : World) → ccb_of ccb before.transport.live ≡ Some was → after.transport.live ≡ (ended_with before was.ccb code).transport.live → after.ended ≡ (ended_with before was.ccb code).ended → IsFinished ccb code before after
finished_now ccb code was before after found live_is ended_is =
    let named : was.ccb.number.0 ≡ ccb = found_key ccb_key ccb before.transport.live was found in
    record {
      gone = subst (λ (n : ℕ). ccb_of n after.transport.live ≡ None) named (ap (ccb_of was.ccb.number.0) live_is ∙ leave_same ccb_key was.ccb.number.0 before.transport.live);
      ended = subst (λ (n : ℕ). after.ended ≡ before.ended ++ record { number = n; code = code } ∷ []) named ended_is;
    }

finished_alone : (ccb code : ℕ) (was : LiveCcb) (before after : World) → ccb_of ccb before.transport.live ≡ Some was → after.transport.live ≡ (ended_with before was.ccb code).transport.live → (other : ℕ) → (other ≡ ccb → ⊥) → ccb_of other after.transport.live ≡ ccb_of other before.transport.live
finished_alone ccb code was before after found live_is other apart =
    let named : was.ccb.number.0 ≡ ccb = found_key ccb_key ccb before.transport.live was found in
    ap (ccb_of other) live_is ∙ leave_other ccb_key was.ccb.number.0 other before.transport.live (λ same. apart (sym same ∙ named))

-- the CCB of a run that has not disposed of it is in recovery by this run alone
pub in_recovery_by : (number : ℕ) (run : LiveRun) (before : World) → Recovering before → run_of number before.runs.list ≡ Some run → run.machine.disposed ≡ false → InRecoveryBy number run.ccb before
in_recovery_by number run before recovering found fresh =
    let recovery = recovering.ccbs number run found fresh in
    record {
      live = recovery.live;
      found = recovery.found;
      state = recovery.state;
      now = run;
      is_live = found;
      fresh = fresh;
      alone = λ other its there same unspent. recovering.alone other number its run there found same unspent fresh;
    }

-- it is the only one of its number
one_live : (number run_number : ℕ) (run : LiveRun) (before : World) (its : LiveCcb) (recovery : InRecoveryBy run_number number before) → ccb_of number before.transport.live ≡ Some its → its ≡ recovery.live
one_live number run_number run before its recovery found =
    let both : Some its ≡ Some recovery.live = sym found ∙ recovery.found in cc

-- what a call's deed makes of the CCB
by_its_deed : (effect : HelperEffect) (told : Told) (request : Request) (ccb : ℕ) (was : LiveCcb) (before after : World) → (row_of request.helper).effect ≡ effect → DisposesByEffect effect request told ccb was before after → DisposesByEffect (row_of request.helper).effect request told ccb was before after
by_its_deed effect told request ccb was before after is does = subst (λ (d : HelperEffect). DisposesByEffect d request told ccb was before after) (sym is) does

-- A call by which a run disposes of its CCB.
call_disposes : (setup : Setup) (before : World) (event : Event) (reply : Reply) (after : World) → Recovering before → (it : Asks setup before event reply after) → is_disposing (told_of it.request) ≡ true → CcbDeed before it.it.run it.request it.given it.between → DisposesOfIt it.it.number it.it.run.ccb before event after
call_disposes setup before event reply after recovering it disposing (leaves_ccbs effect) = absurd (let bad : false ≡ true = sym effect.calm ∙ disposing in cc)
call_disposes setup before event reply after recovering it disposing (advises_one effect) = absurd (let bad : false ≡ true = sym effect.calm ∙ disposing in cc)
call_disposes setup before event reply after recovering it disposing (requeues_one effect) =
    let number : ℕ = it.it.number in
    let used : ℕ = it.request.arguments.first in
    let ccb : ℕ = it.it.run.ccb in
    let recovery = in_recovery_by number it.it.run before recovering it.it.found effect.its.fresh in
    let same : effect.its.live ≡ recovery.live = one_live ccb number it.it.run before effect.its.live recovery effect.its.found in
    let live_is : after.transport.live ≡ with_ccb (again recovery.live used) before.transport.live =
    ap (λ (x : Reply × World). x.1.transport.live) it.answer ∙ (effect.live_is ∙ ap (λ (c : LiveCcb). with_ccb (again c used) before.transport.live) same) in
    let instruction_is = its_instruction before event (call (told_of it.request)) it.it in
    record {
      recovery = recovery;
      disposes = subst (λ (o : Option Instruction). DisposesBy o number ccb recovery.live before after) (sym instruction_is) (record {
        request = it.request;
        calls = (it.it.run, it.it.found, it.call_is);
        does = by_its_deed effects.Requeue (told_of it.request) it.request ccb recovery.live before after effect.deed_is (
          effect.told_is,
          requeued_now ccb used recovery.live before after recovery.found live_is (ap (λ (x : Reply × World). x.1.ended) it.answer ∙ effect.ended_is),
        );
      });
      others = requeued_alone ccb used recovery.live before after recovery.found live_is;
    }
call_disposes setup before event reply after recovering it disposing (ends_one effect) =
    let number : ℕ = it.it.number in
    let code : ℕ = it.request.arguments.first in
    let ccb : ℕ = it.it.run.ccb in
    let recovery = in_recovery_by number it.it.run before recovering it.it.found effect.its.fresh in
    let same : effect.its.live ≡ recovery.live = one_live ccb number it.it.run before effect.its.live recovery effect.its.found in
    let live_is : after.transport.live ≡ (ended_with before recovery.live.ccb code).transport.live =
    ap (λ (x : Reply × World). x.1.transport.live) it.answer ∙ (effect.live_is ∙ ap (λ (c : LiveCcb). (ended_with before c.ccb code).transport.live) same) in
    let ended_is : after.ended ≡ (ended_with before recovery.live.ccb code).ended =
    ap (λ (x : Reply × World). x.1.ended) it.answer ∙ (effect.ended_is ∙ ap (λ (c : LiveCcb). (ended_with before c.ccb code).ended) same) in
    let instruction_is = its_instruction before event (call (told_of it.request)) it.it in
    record {
      recovery = recovery;
      disposes = subst (λ (o : Option Instruction). DisposesBy o number ccb recovery.live before after) (sym instruction_is) (record {
        request = it.request;
        calls = (it.it.run, it.it.found, it.call_is);
        does = by_its_deed effects.Finish (told_of it.request) it.request ccb recovery.live before after effect.deed_is (
          effect.told_is,
          finished_now ccb code recovery.live before after recovery.found live_is ended_is,
        );
      });
      others = finished_alone ccb code recovery.live before after recovery.found live_is;
    }

-- a step of the run that disposes is such a call
own_disposal : (number other : ℕ) (instruction : Instruction) → is_disposal_of number (executes other instruction) ≡ true → (other ≡ number) × (is_disposal (Some instruction) ≡ true)
own_disposal number other instruction disposal = elim (cases_Bool (eqb other number)) [
  | inl its ↦ (eqb-true _ _ its, sym (ap (λ (b : Bool). is_disposal (cond b (Some instruction) None)) its) ∙ disposal)
  | inr apart ↦ absurd (let bad : false ≡ true = sym (ap (λ (b : Bool). is_disposal (cond b (Some instruction) None)) apart) ∙ disposal in cc)
]

told_disposal : (setup : Setup) (before : World) (number : ℕ) (told : Told) (reply : Reply) (after : World) (ccb : ℕ) → Recovering before → ((now : LiveRun) → run_of number before.runs.list ≡ Some now → now.ccb ≡ ccb) → is_disposing told ≡ true → Asks setup before (executes number (call told)) reply after → DisposesOfIt number ccb before (executes number (call told)) after
told_disposal setup before number told reply after ccb recovering its_ccb disposing it =
    let same_event : executes number (call told) ≡ executes it.it.number (call (told_of it.request)) = it.it.event_is in
    let same_number : it.it.number ≡ number = cc in
    let same_told : told ≡ told_of it.request = cc in
    let found : run_of number before.runs.list ≡ Some it.it.run = subst (λ (n : ℕ). run_of n before.runs.list ≡ Some it.it.run) same_number it.it.found in
    let disposes = call_disposes setup before (executes number (call told)) reply after recovering it (sym (ap is_disposing same_told) ∙ disposing) it.ccbs in
    subst (λ (n : ℕ). DisposesOfIt n ccb before (executes number (call told)) after) same_number
    (subst (λ (n : ℕ). DisposesOfIt it.it.number n before (executes number (call told)) after) (its_ccb it.it.run found) disposes)

pub disposal_of : (setup : Setup) (before : World) (event : Event) (reply : Reply) (after : World) (number ccb : ℕ) → Recovering before → ((now : LiveRun) → run_of number before.runs.list ≡ Some now → now.ccb ≡ ccb) → WorldStep setup before event reply after → is_disposal_of number event ≡ true → DisposesOfIt number ccb before event after
disposal_of setup before (called its) reply after number ccb recovering its_ccb step disposal = absurd (let bad : false ≡ true = disposal in cc)
disposal_of setup before (executes other private) reply after number ccb recovering its_ccb step disposal =
    absurd (let bad : false ≡ true = (own_disposal number other private disposal).1 in cc)
disposal_of setup before (executes other exit) reply after number ccb recovering its_ccb step disposal =
    absurd (let bad : false ≡ true = (own_disposal number other exit disposal).1 in cc)
disposal_of setup before (executes other (call told)) reply after number ccb recovering its_ccb step disposal =
    let own = own_disposal number other (call told) disposal in
    let own_step : WorldStep setup before (executes number (call told)) reply after = subst (λ (n : ℕ). WorldStep setup before (executes n (call told)) reply after) own.0 step in
    subst (λ (n : ℕ). DisposesOfIt number ccb before (executes n (call told)) after) (sym own.0)
    (told_disposal setup before number told reply after ccb recovering its_ccb own.1 (asks_of setup before number told reply after own_step))
