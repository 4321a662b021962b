use Rattle.std.proofs.Common.{◌≡◌, ◌+◌, ◌<◌, [], ◌∷◌, ◌++◌, length, Some, refl, ap, sym, subst, ◌∙◌, arith}
use Rattle.std.specs.Result.{result_err}
use Rattle.ccb.specs.declared.ccb.Ccb.{Ccb}
use Rattle.world.specs.declared.ccb_state.CcbState.TheVariants.{Waiting}
use Rattle.world.specs.World.{queue_count, LiveCcb}
use Rattle.world_calls.specs.declared.call.Call.TheVariants.{Submit}
use Rattle.world_calls.specs.declared.call_answer.CallAnswer.TheVariants as answers
use Rattle.world.specs.Event.{replies, refused}
use Rattle.world.specs.Step.{step_call}
use Rattle.world.specs.World.{Transport}
use Rattle.engine_transport.specs.Queues.{queue_at}
use Rattle.engine_transport.specs.Invariant.{seen}
use Rattle.engine_transport.proofs.Listed.{listed_as}
use Rattle.engine_transport.proofs.Kept.{waits_not_yet}
use Rattle.engine_transport.proofs.Steps.{entered_one, kept_on}
use Rattle.engine_transport.proofs.Replies.{new_ccb, roomy_by, crowded_reply, submit_reply}
use Rattle.engine_transport.proofs.transport.Transport.submit.Goals as goal

-- the CCB as it stands in the list while it waits
abbrev as_waiting : Ccb → LiveCcb
as_waiting ccb = record { ccb = ccb; state = Waiting }

pub insert-requires-clause-new : goal.insert-requires-clause-new
insert-requires-clause-new c =
    let known : c.args.queue.0 < length c.self.inside.queues = omega (arith, c.if-queue-len.false, c.len.ensures) in
    waits_not_yet c.self.inside.ccbs c.self.inside.queues c.args.queue.0 (record { 0 = c.greatest.result + 1 }) c.self.invariant.table known (omega (arith, c.greatest.ensures))

pub returns-in-Err : goal.returns-in-Err
returns-in-Err c = record {
  step = λ setup world count said class_is may.
      let known : c.args.queue.0 < length c.self.inside.queues = omega (arith, c.if-queue-len.false, c.len.ensures) in
      subst (λ (s : Transport). step_call setup (record world { transport = s }) (Submit c.args.queue c.args.priority c.args.retries said) ≡ Some (refused c.refusal.result, record world { transport = (seen c.self.inside.ccbs c.insert.new.self c.self.inside.ledger c.self.inside.clock) })) c.self.view_is
      (crowded_reply c.self.inside.ledger c.self.inside.clock setup world c.self.inside.ccbs c.self.inside.queues c.insert.new.self c.args.queue.0 c.args.priority c.args.retries said c.in-Err.fault c.refusal.result may c.self.invariant.table known
      (subst (λ (s : Transport). queue_count setup ≡ length s.openings) (sym c.self.view_is) count)
      (sym c.insert.ensures.fault ∙ ap result_err c.in-Err.is) c.refusal.ensures c.in-Err.ensures.refused);
  freezes = ap (λ (s : Transport). s.freezes) c.self.view_is;
}

pub invariant_of-self-in-Ok : goal.invariant_of-self-in-Ok
invariant_of-self-in-Ok c =
    let known : c.args.queue.0 < length c.self.inside.queues = omega (arith, c.if-queue-len.false, c.len.ensures) in
    let it_is : c.new.result ≡ new_ccb (c.greatest.result + 1) c.args.queue.0 c.args.priority c.args.retries c.args.class = c.new.ensures ∙ ap as_waiting c.new-ccb.ensures in
    kept_on c.self.inside.ledger c.self.inside.clock c.self.inside.ccbs c.enter.new.self c.self.inside.queues c.insert.new.self _ c.self.invariant
    (entered_one c.self.inside.ledger c.self.inside.clock c.self.inside.ccbs c.enter.new.self c.self.inside.queues c.insert.new.self c.args.queue.0 (new_ccb (c.greatest.result + 1) c.args.queue.0 c.args.priority c.args.retries c.args.class) c.self.invariant.table
    (omega (arith, c.greatest.ensures)) known refl
    (c.enter.ensures ∙ ap (λ (l : LiveCcb). listed_as l.ccb.number.0 (c.self.inside.ccbs.live ++ l ∷ [])) it_is) c.in-Ok.ensures.waits refl) refl

pub returns-in-Ok : goal.returns-in-Ok
returns-in-Ok c = record {
  step = λ setup world count said class_is may.
      let known : c.args.queue.0 < length c.self.inside.queues = omega (arith, c.if-queue-len.false, c.len.ensures) in
      let it_is : c.new.result ≡ new_ccb (c.greatest.result + 1) c.args.queue.0 c.args.priority c.args.retries c.args.class = c.new.ensures ∙ ap as_waiting c.new-ccb.ensures in
      let after =
      entered_one c.self.inside.ledger c.self.inside.clock c.self.inside.ccbs c.enter.new.self c.self.inside.queues c.insert.new.self c.args.queue.0 (new_ccb (c.greatest.result + 1) c.args.queue.0 c.args.priority c.args.retries c.args.class) c.self.invariant.table
      (omega (arith, c.greatest.ensures)) known refl
      (c.enter.ensures ∙ ap (λ (l : LiveCcb). listed_as l.ccb.number.0 (c.self.inside.ccbs.live ++ l ∷ [])) it_is) c.in-Ok.ensures.waits refl in
      subst (λ (s : Transport). step_call setup (record world { transport = s }) (Submit c.args.queue c.args.priority c.args.retries said) ≡ Some (replies (answers.Ccb (record { 0 = c.greatest.result + 1 })), record world { transport = (seen c.enter.new.self c.insert.new.self c.self.inside.ledger c.self.inside.clock) })) c.self.view_is
      (submit_reply c.self.inside.ledger c.self.inside.clock setup world c.self.inside.ccbs c.enter.new.self c.self.inside.queues c.insert.new.self c.args.queue.0 c.args.priority c.args.retries c.args.class (c.greatest.result + 1) said class_is may c.self.invariant.table known
      (subst (λ (s : Transport). queue_count setup ≡ length s.openings) (sym c.self.view_is) count)
      (roomy_by (queue_at c.self.inside.queues c.args.queue.0) (sym c.insert.ensures.fault ∙ ap result_err c.in-Ok.is)) (sym c.is_full.ensures ∙ c.if-is_full.false) (omega (arith, c.greatest.ensures)) after.seen_is);
  freezes = ap (λ (s : Transport). s.freezes) c.self.view_is;
}
