use Rattle.std.proofs.Common.{◌≡◌, ◌⊎◌, true, false, Some, inl, inr, ap, sym, subst, ◌∙◌, rules}
use Rattle.ccb.specs.declared.CcbId.{CcbId}
use Rattle.ccb.specs.declared.ccb.Ccb.{Ccb}
use Rattle.engine_transport.specs.Listed.{IsPlaceOf}
use Rattle.world.specs.declared.ccb_state.CcbState.TheVariants.{Active}
use Rattle.world.specs.World.{LiveCcb}
use Rattle.world.specs.Lookups.{ccb_of}
use Rattle.world_calls.specs.declared.call.Call.TheVariants.{Complete}
use Rattle.world_calls.specs.declared.call_answer.CallAnswer.TheVariants as answers
use Rattle.world.specs.Event.{replies}
use Rattle.world.specs.CcbSteps.{is_success, run_meets_limit, finishes, recovers}
use Rattle.world.specs.Step.{step_call}
use Rattle.engine_core.proofs.Deciding.{at_unknown, at_limit, at_idle, at_success, at_failure, state_is}
use Rattle.engine_core.proofs.completion_action.decide.Goals as goal
use Rattle.engine_core.proofs.completion_action.decide.Goals.{else-not-succeeded-via-then-not-succeeded+else-is_full, else-not-succeeded-via-else-not-succeeded}

pub returns-in_default-clause-step : goal.returns-in_default-clause-step
returns-in_default-clause-step c setup world =
    at_unknown setup (record world { transport = c.args.transport.now; runs = c.args.runs.now.runs }) c.args.completion.now c.has_succeeded-succeeded.ensures.reported (search rules)

pub returns-then-is_full-clause-step : goal.returns-then-is_full-clause-step
returns-then-is_full-clause-step c setup world =
    at_limit setup (record world { transport = c.args.transport.now; runs = c.args.runs.now.runs }) c.args.completion.now c.at-live.result.now c.has_succeeded-succeeded.ensures.reported
    (subst (λ (n : CcbId). ccb_of n.0 c.args.transport.now.live ≡ Some c.at-live.result.now) c.ccb.ensures (c.at-live.ensures c.ccb.result.0 c.in-Some.ensures.found)) (search rules) (sym (c.is_full.ensures (record world { transport = c.args.transport.now })) ∙ c.if-is_full.true)

pub returns-then-not-is_active-clause-step : goal.returns-then-not-is_active-clause-step
returns-then-not-is_active-clause-step c setup world =
    let room : (is_success c.args.completion.now.status ≡ true) ⊎ (run_meets_limit (record world { transport = c.args.transport.now; runs = c.args.runs.now.runs }) ≡ false) = elim c.else-not-succeeded.branch [
      | else-not-succeeded-via-then-not-succeeded+else-is_full w ↦ inr (sym (w.is_full.ensures (record world { transport = c.args.transport.now })) ∙ w.if-is_full.false)
      | else-not-succeeded-via-else-not-succeeded w ↦ inl (search rules)
    ] in
    at_idle setup (record world { transport = c.args.transport.now; runs = c.args.runs.now.runs }) c.args.completion.now c.at-live.result.now c.has_succeeded-succeeded.ensures.reported
    (subst (λ (n : CcbId). ccb_of n.0 c.args.transport.now.live ≡ Some c.at-live.result.now) c.ccb.ensures (c.at-live.ensures c.ccb.result.0 c.in-Some.ensures.found)) room (search rules)

pub returns-then-succeeded-clause-step : goal.returns-then-succeeded-clause-step
returns-then-succeeded-clause-step c setup world =
    subst (λ (x : Ccb). step_call setup (record world { transport = c.args.transport.now; runs = c.args.runs.now.runs }) (Complete c.args.completion.now) ≡ Some (replies answers.Done, finishes (record world { transport = c.args.transport.now; runs = c.args.runs.now.runs }) x c.args.completion.now.status))
    (sym c.ccb-then-succeeded.ensures)
    (at_success setup (record world { transport = c.args.transport.now; runs = c.args.runs.now.runs }) c.args.completion.now c.at-live.result.now c.has_succeeded-succeeded.ensures.reported (subst (λ (n : CcbId). ccb_of n.0 c.args.transport.now.live ≡ Some c.at-live.result.now) c.ccb.ensures (c.at-live.ensures c.ccb.result.0 c.in-Some.ensures.found)) (search rules) (search rules))

pub returns-else-succeeded-clause-step : goal.returns-else-succeeded-clause-step
returns-else-succeeded-clause-step c setup world =
    let room : run_meets_limit (record world { transport = c.args.transport.now; runs = c.args.runs.now.runs }) ≡ false = elim c.else-not-succeeded.branch [
      | else-not-succeeded-via-then-not-succeeded+else-is_full w ↦ sym (w.is_full.ensures (record world { transport = c.args.transport.now })) ∙ w.if-is_full.false
      | else-not-succeeded-via-else-not-succeeded w ↦ absurd (let bad : true ≡ false = sym w.if-not-succeeded.false ∙ c.if-succeeded.false in cc)
    ] in
    subst (λ (x : Ccb). step_call setup (record world { transport = c.args.transport.now; runs = c.args.runs.now.runs }) (Complete c.args.completion.now) ≡ Some (recovers setup (record world { transport = c.args.transport.now; runs = c.args.runs.now.runs }) x c.args.completion.now))
    (sym c.ccb-else-succeeded.ensures)
    (at_failure setup (record world { transport = c.args.transport.now; runs = c.args.runs.now.runs }) c.args.completion.now c.at-live.result.now c.has_succeeded-succeeded.ensures.reported (subst (λ (n : CcbId). ccb_of n.0 c.args.transport.now.live ≡ Some c.at-live.result.now) c.ccb.ensures (c.at-live.ensures c.ccb.result.0 c.in-Some.ensures.found)) (search rules) (search rules) room)

pub returns-else-succeeded-clause-ready : goal.returns-else-succeeded-clause-ready
returns-else-succeeded-clause-ready c world =
    let room : run_meets_limit (record world { transport = c.args.transport.now; runs = c.args.runs.now.runs }) ≡ false = elim c.else-not-succeeded.branch [
      | else-not-succeeded-via-then-not-succeeded+else-is_full w ↦ sym (w.is_full.ensures (record world { transport = c.args.transport.now })) ∙ w.if-is_full.false
      | else-not-succeeded-via-else-not-succeeded w ↦ absurd (let bad : true ≡ false = sym w.if-not-succeeded.false ∙ c.if-succeeded.false in cc)
    ] in
    let found : ccb_of c.args.completion.now.ccb.0 c.args.transport.now.live ≡ Some c.at-live.result.now = subst (λ (n : CcbId). ccb_of n.0 c.args.transport.now.live ≡ Some c.at-live.result.now) c.ccb.ensures (c.at-live.ensures c.ccb.result.0 c.in-Some.ensures.found) in
    let there = subst (λ (n : CcbId). IsPlaceOf n.0 c.args.transport.now.live c.in-Some.place) c.ccb.ensures c.in-Some.ensures.found in
    let active_one : c.at-live.result.now ≡ record { ccb = c.at-live.result.now.ccb; state = Active } = state_is c.at-live.result.now (search rules) in
    (found ∙ (ap (λ (l : LiveCcb). Some l) active_one ∙ ap (λ (x : Ccb). Some (record { ccb = x; state = Active })) (sym c.ccb-else-succeeded.ensures)), there, room)
