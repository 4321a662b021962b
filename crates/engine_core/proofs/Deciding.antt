-- What the world answers to a completion, case by case.
use Rattle.std.proofs.Common.{◌≡◌, Bool, true, false, not, cond, [], ◌∷◌, Option, Some, None, ◌⊎◌, inl, inr, refl, ap, ◌∙◌}
use Rattle.std.specs.Prelude.{◌&&◌, is_none}
use Rattle.std.specs.Option.{option_map}
use Rattle.std.proofs.lemmas.Bool.{cond-true, cond-false}
use Rattle.ccb.specs.Completion.{Outcome, IsCompletion}
use Rattle.world_calls.specs.declared.call.Call.TheVariants.{Complete}
use Rattle.world_calls.specs.declared.call_answer.CallAnswer.TheVariants as answers
use Rattle.ccb.specs.declared.call_refusal.CallRefusal.TheVariants.{Unknown, Limit, NotActive}
use Rattle.world.specs.declared.ccb_state.CcbState.{CcbState}
use Rattle.world.specs.declared.ccb_state.CcbState.TheVariants.{Waiting, Active, InRecovery}
use Rattle.world.specs.World.{Setup, LiveCcb, World}
use Rattle.world.specs.Lookups.{is_active, ccb_of}
use Rattle.world.specs.Event.{Reply, replies, refused}
use Rattle.world.specs.CcbSteps.{is_success, run_meets_limit, finishes, recovers, completes}
use Rattle.world.specs.Refusals.{works, unless_refused}
use Rattle.world.specs.Step.{step_call}
use Rattle.engine_core.proofs.Reported.{reported}

-- what is answered to a completion that a device can report, where this CCB bears its number, if one does
abbrev answered : Setup → World → Outcome → Option LiveCcb → Option (Reply × World)
answered setup world outcome live =
    unless_refused
    ((is_none live, Unknown) ∷ (not (is_success outcome.status) && run_meets_limit world, Limit) ∷ (not (works live), NotActive) ∷ []) world
    (option_map (completes setup world outcome) live)

answered_as : (setup : Setup) (world : World) (outcome : Outcome) (live : Option LiveCcb) (answer : Option (Reply × World)) → IsCompletion outcome → ccb_of outcome.ccb.0 world.transport.live ≡ live → answered setup world outcome live ≡ answer → step_call setup world (Complete outcome) ≡ answer
answered_as setup world outcome live answer it found e =
    cond-true _ (answered setup world outcome (ccb_of outcome.ccb.0 world.transport.live)) None (reported outcome it) ∙ (ap (answered setup world outcome) found ∙ e)

no_limit : (success full : Bool) → (success ≡ true) ⊎ (full ≡ false) → (not success && full) ≡ false
no_limit true full e = refl
no_limit false full (inl e) = absurd (let bad : false ≡ true = e in cc)
no_limit false full (inr e) = e

pub at_unknown : (setup : Setup) (world : World) (outcome : Outcome) → IsCompletion outcome → ccb_of outcome.ccb.0 world.transport.live ≡ None → step_call setup world (Complete outcome) ≡ Some (refused Unknown, world)
at_unknown setup world outcome it none = answered_as setup world outcome None (Some (refused Unknown, world)) it none refl

pub at_limit : (setup : Setup) (world : World) (outcome : Outcome) (live : LiveCcb) → IsCompletion outcome → ccb_of outcome.ccb.0 world.transport.live ≡ Some live → is_success outcome.status ≡ false → run_meets_limit world ≡ true → step_call setup world (Complete outcome) ≡ Some (refused Limit, world)
at_limit setup world outcome live it found failed full =
    answered_as setup world outcome (Some live) (Some (refused Limit, world)) it found
    (cond-true (not (is_success outcome.status) && run_meets_limit world) _ _ (ap (λ (b : Bool). not b && run_meets_limit world) failed ∙ full))

-- past the limit
past : (setup : Setup) (world : World) (outcome : Outcome) (live : LiveCcb) (answer : Option (Reply × World)) → IsCompletion outcome → ccb_of outcome.ccb.0 world.transport.live ≡ Some live → (is_success outcome.status ≡ true) ⊎ (run_meets_limit world ≡ false) → cond (not (is_active live.state)) (Some (refused NotActive, world)) (Some (completes setup world outcome live)) ≡ answer → step_call setup world (Complete outcome) ≡ answer
past setup world outcome live answer it found room e =
    answered_as setup world outcome (Some live) answer it found
    (cond-false (not (is_success outcome.status) && run_meets_limit world) _ _ (no_limit (is_success outcome.status) (run_meets_limit world) room) ∙ e)

pub at_idle : (setup : Setup) (world : World) (outcome : Outcome) (live : LiveCcb) → IsCompletion outcome → ccb_of outcome.ccb.0 world.transport.live ≡ Some live → (is_success outcome.status ≡ true) ⊎ (run_meets_limit world ≡ false) → is_active live.state ≡ false → step_call setup world (Complete outcome) ≡ Some (refused NotActive, world)
at_idle setup world outcome live it found room idle =
    past setup world outcome live _ it found room (cond-true (not (is_active live.state)) _ _ (ap not idle))

pub at_success : (setup : Setup) (world : World) (outcome : Outcome) (live : LiveCcb) → IsCompletion outcome → ccb_of outcome.ccb.0 world.transport.live ≡ Some live → is_active live.state ≡ true → is_success outcome.status ≡ true → step_call setup world (Complete outcome) ≡ Some (replies answers.Done, finishes world live.ccb outcome.status)
at_success setup world outcome live it found is good =
    past setup world outcome live _ it found (inl good)
    (cond-false (not (is_active live.state)) _ _ (ap not is) ∙ ap Some (cond-true (is_success outcome.status) _ _ good))

pub at_failure : (setup : Setup) (world : World) (outcome : Outcome) (live : LiveCcb) → IsCompletion outcome → ccb_of outcome.ccb.0 world.transport.live ≡ Some live → is_active live.state ≡ true → is_success outcome.status ≡ false → run_meets_limit world ≡ false → step_call setup world (Complete outcome) ≡ Some (recovers setup world live.ccb outcome)
at_failure setup world outcome live it found is bad room =
    past setup world outcome live _ it found (inr room)
    (cond-false (not (is_active live.state)) _ _ (ap not is) ∙ ap Some (cond-false (is_success outcome.status) _ _ bad))

-- an active CCB, by its state
pub state_is : (live : LiveCcb) → is_active live.state ≡ true → live ≡ record { ccb = live.ccb; state = Active }
state_is live is = ap (λ (s : CcbState). record { ccb = live.ccb; state = s }) (by_state live.state is)
  where
    by_state : (s : CcbState) → is_active s ≡ true → s ≡ Active
    by_state Waiting e = absurd (let bad : false ≡ true = e in cc)
    by_state Active e = refl
    by_state InRecovery e = absurd (let bad : false ≡ true = e in cc)
