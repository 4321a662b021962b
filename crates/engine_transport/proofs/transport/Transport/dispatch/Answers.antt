use Rattle.std.proofs.Common.{◌≡◌, ◌<◌, ◌≤◌, length, map, Some, None, refl, ap, sym, subst, ◌∙◌, arith}
use Rattle.std.specs.Result.{result_err}
use Rattle.std.proofs.lemmas.List.{length-map}
use Rattle.ccb.specs.declared.CcbId.{CcbId}
use Rattle.ccb.specs.declared.ccb.Ccb.{Ccb}
use Rattle.ccb.specs.Ccb.{started}
use Rattle.dev_queue.specs.State.{QueueState}
use Rattle.dev_queue.specs.Faults.{start_fault}
use Rattle.world.specs.declared.ccb_state.CcbState.{CcbState}
use Rattle.world.specs.World.{queue_count, version_of, LiveCcb}
use Rattle.world.specs.Lookups.{with_ccb}
use Rattle.world_calls.specs.declared.call.Call.TheVariants.{Dispatch}
use Rattle.world_calls.specs.Answered.{started_answer}
use Rattle.world.specs.Event.{replies, refused}
use Rattle.world.specs.Step.{step_call}
use Rattle.world.specs.World.{Transport}
use Rattle.engine_transport.specs.Queues.{queue_at}
use Rattle.engine_transport.specs.Invariant.{seen}
use Rattle.engine_transport.specs.Listed.{IsPlaceOf}
use Rattle.engine_transport.proofs.Listed.{listed_as}
use Rattle.engine_transport.proofs.Steps.{next_one, dispatched, dispatched_after, kept_on}
use Rattle.engine_transport.proofs.Replies.{dispatch_reply, refused_reply}
use Rattle.engine_transport.proofs.transport.Transport.dispatch.Goals as goal

pub unreachable-requires : goal.unreachable-requires
unreachable-requires c =
    let known : c.args.queue.0 < length c.self.inside.queues = omega (arith, c.if-queue-len.false, c.len.ensures) in
    let s = next_one c.self.inside.ccbs c.self.inside.queues c.args.queue.0 c.in-Ok.number c.self.invariant.table known c.in-Ok.ensures.least in
    let bad : None ≡ Some s.it = sym c.in_default.ensures.none ∙ s.found in
    cc

pub change-requires : goal.change-requires
change-requires c =
    let known : c.args.queue.0 < length c.self.inside.queues = omega (arith, c.if-queue-len.false, c.len.ensures) in
    let ccb_is : c.start-in-Ok.new.self.ccb ≡ started c.at.result.now.ccb = ap (λ (l : LiveCcb). l.ccb) c.start-in-Ok.ensures in
    let d = dispatched c.self.inside.ccbs c.self.inside.queues c.args.queue.0 c.in-Ok.number (Some c.at.result.now) c.at.result.now c.start-in-Ok.new.self.ccb c.self.invariant.table known c.in-Ok.ensures.least (sym (c.at.ensures c.in-Ok.number.0 c.in-Some.ensures.found)) refl ccb_is in
    subst (λ (n : CcbId). IsPlaceOf n.0 c.self.inside.ccbs.live c.in-Some.place) (sym (ap (λ (b : Ccb). b.number) ccb_is ∙ d.number_is)) c.in-Some.ensures.found

pub invariant_of-self-in-Ok : goal.invariant_of-self-in-Ok
invariant_of-self-in-Ok c =
    let known : c.args.queue.0 < length c.self.inside.queues = omega (arith, c.if-queue-len.false, c.len.ensures) in
    let ccb_is : c.start-in-Ok.new.self.ccb ≡ started c.at.result.now.ccb = ap (λ (l : LiveCcb). l.ccb) c.start-in-Ok.ensures in
    let d = dispatched c.self.inside.ccbs c.self.inside.queues c.args.queue.0 c.in-Ok.number (Some c.at.result.now) c.at.result.now c.start-in-Ok.new.self.ccb c.self.invariant.table known c.in-Ok.ensures.least (sym (c.at.ensures c.in-Ok.number.0 c.in-Some.ensures.found)) refl ccb_is in
    kept_on c.self.inside.ledger c.self.inside.clock c.self.inside.ccbs c.change.new.self c.self.inside.queues c.start.new.self _ c.self.invariant
    (dispatched_after c.self.inside.ledger c.self.inside.clock c.self.inside.ccbs c.change.new.self c.self.inside.queues c.start.new.self c.args.queue.0 c.in-Ok.number c.at.result.now c.start-in-Ok.new.self.ccb c.self.invariant.table d ccb_is
    (c.change.ensures ∙ ap (λ (l : LiveCcb). listed_as c.self.inside.ccbs.greatest (with_ccb l c.self.inside.ccbs.live)) (ap (λ (s : CcbState). record { ccb = c.start-in-Ok.new.self.ccb; state = s }) (ap (λ (l : LiveCcb). l.state) c.start-in-Ok.ensures))) c.in-Ok.ensures.started) refl

pub returns-in-Some : goal.returns-in-Some
returns-in-Some c = record {
  step = λ setup world count under.
      let known : c.args.queue.0 < length c.self.inside.queues = omega (arith, c.if-queue-len.false, c.len.ensures) in
      let ccb_is : c.start-in-Ok.new.self.ccb ≡ started c.at.result.now.ccb = ap (λ (l : LiveCcb). l.ccb) c.start-in-Ok.ensures in
      let d = dispatched c.self.inside.ccbs c.self.inside.queues c.args.queue.0 c.in-Ok.number (Some c.at.result.now) c.at.result.now c.start-in-Ok.new.self.ccb c.self.invariant.table known c.in-Ok.ensures.least (sym (c.at.ensures c.in-Ok.number.0 c.in-Some.ensures.found)) refl ccb_is in
      let after =
      dispatched_after c.self.inside.ledger c.self.inside.clock c.self.inside.ccbs c.change.new.self c.self.inside.queues c.start.new.self c.args.queue.0 c.in-Ok.number c.at.result.now c.start-in-Ok.new.self.ccb c.self.invariant.table d ccb_is
      (c.change.ensures ∙ ap (λ (l : LiveCcb). listed_as c.self.inside.ccbs.greatest (with_ccb l c.self.inside.ccbs.live)) (ap (λ (s : CcbState). record { ccb = c.start-in-Ok.new.self.ccb; state = s }) (ap (λ (l : LiveCcb). l.state) c.start-in-Ok.ensures))) c.in-Ok.ensures.started in
      let fault : start_fault c.count.result c.count-2.result (queue_at c.self.inside.queues c.args.queue.0) ≡ None = sym c.start.ensures.fault ∙ ap result_err c.in-Ok.is in
      subst (λ (s : Transport). step_call setup (record world { transport = s }) (Dispatch c.args.queue) ≡ Some (replies (started_answer (version_of setup) (record { ccb = c.in-Ok.number; advice = c.as_ccb.result.now.advice })), record world { transport = (seen c.change.new.self c.start.new.self c.self.inside.ledger c.self.inside.clock) })) c.self.view_is
      (dispatch_reply c.self.inside.ledger c.self.inside.clock setup world c.self.inside.ccbs c.change.new.self c.self.inside.queues c.start.new.self c.args.queue.0 c.count.result c.count-2.result c.in-Ok.number c.as_ccb.result.now.advice c.at.result.now c.start-in-Ok.new.self.ccb (ap (λ (b : Ccb). b.advice) c.as_ccb.ensures) c.self.invariant.table known
      (subst (λ (s : Transport). queue_count setup ≡ length s.openings) (sym c.self.view_is) count)
      c.count.ensures.entries (rw under c.count-2.ensures.entries) fault d after.seen_is);
  unknown = λ beyond.
      let there : length (map (λ (q : QueueState). q.openings) c.self.inside.queues) ≤ c.args.queue.0 = subst (λ (s : Transport). length s.openings ≤ c.args.queue.0) (sym c.self.view_is) beyond in
      absurd (omega (arith, there, length-map c.self.inside.queues (λ (q : QueueState). q.openings), c.if-queue-len.false, c.len.ensures));
  freezes = ap (λ (s : Transport). s.freezes) c.self.view_is;
}

pub returns-in-Err-clause-step : goal.returns-in-Err-clause-step
returns-in-Err-clause-step c = λ setup world count under.
    let known : c.args.queue.0 < length c.self.inside.queues = omega (arith, c.if-queue-len.false, c.len.ensures) in
    let fault : start_fault c.count.result c.count-2.result (queue_at c.self.inside.queues c.args.queue.0) ≡ Some c.in-Err.fault = sym c.start.ensures.fault ∙ ap result_err c.in-Err.is in
    subst (λ (s : Transport). step_call setup (record world { transport = s }) (Dispatch c.args.queue) ≡ Some (refused c.refusal.result, record world { transport = (seen c.self.inside.ccbs c.start.new.self c.self.inside.ledger c.self.inside.clock) })) c.self.view_is
    (refused_reply c.self.inside.ledger c.self.inside.clock setup world c.self.inside.ccbs c.self.inside.queues c.start.new.self c.args.queue.0 c.count.result c.count-2.result c.in-Err.fault c.refusal.result c.self.invariant.table known
    (subst (λ (s : Transport). queue_count setup ≡ length s.openings) (sym c.self.view_is) count)
    c.count.ensures.entries (rw under c.count-2.ensures.entries) fault c.refusal.ensures c.in-Err.ensures.refused)
