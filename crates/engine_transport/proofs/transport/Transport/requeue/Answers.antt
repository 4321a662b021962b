use Rattle.std.proofs.Common.{◌≡◌, ℕ, ◌<◌, ◌≤◌, length, false, Some, refl, ap, sym, subst, ◌∙◌}
use Rattle.ccb.specs.declared.ccb.Ccb.{Ccb}
use Rattle.ccb.specs.Ccb.{requeued}
use Rattle.dev_queue.specs.Waiting.{waits}
use Rattle.world.specs.declared.ccb_state.CcbState.TheVariants.{Waiting, InRecovery}
use Rattle.world.specs.World.{LiveCcb}
use Rattle.world.specs.Lookups.{ccb_of, with_ccb}
use Rattle.world.proofs.Lists.Found.{found_key}
use Rattle.world.proofs.Steps.Moves.{ccb_found, ccb_key}
use Rattle.world.specs.World.{Transport}
use Rattle.engine_transport.specs.Queues.{queue_at}
use Rattle.engine_transport.specs.Invariant.{seen}
use Rattle.engine_transport.specs.Listed.{IsPlaceOf}
use Rattle.engine_transport.proofs.Listed.{listed_as}
use Rattle.engine_transport.proofs.Kept.{meant, known_queue, recovering_there, waits_not}
use Rattle.engine_transport.proofs.Steps.{kept_on, requeued_one}
use Rattle.engine_transport.proofs.transport.Transport.requeue.Goals as goal

pub put_back-requires-clause-known : goal.put_back-requires-clause-known
put_back-requires-clause-known c =
    let m = meant c.self.inside.ledger c.self.inside.clock c.self.inside.ccbs c.self.inside.queues c.args.self.now c.args.ccb.0 (Some c.at.result.now) c.at.result.now c.requires.0 c.self.view_is c.requires.1 (sym (c.at.ensures c.args.ccb.0 c.in-Some.ensures.found)) refl in
    let then_is : c.as_ccb-again.result.now ≡ requeued c.at.result.now.ccb c.args.used = c.as_ccb-again.ensures ∙ ap (λ (l : LiveCcb). l.ccb) c.requeue.ensures in
    let queue_is : c.as_ccb-again.result.now.queue.0 ≡ c.at.result.now.ccb.queue.0 = ap (λ (b : Ccb). b.queue.0) then_is in
    subst (λ (q : ℕ). q < length c.self.inside.queues) (sym queue_is) (known_queue c.self.inside.ccbs c.self.inside.queues c.args.ccb.0 c.at.result.now c.self.invariant.table m.found)

pub put_back-requires-clause-recovering : goal.put_back-requires-clause-recovering
put_back-requires-clause-recovering c =
    let m = meant c.self.inside.ledger c.self.inside.clock c.self.inside.ccbs c.self.inside.queues c.args.self.now c.args.ccb.0 (Some c.at.result.now) c.at.result.now c.requires.0 c.self.view_is c.requires.1 (sym (c.at.ensures c.args.ccb.0 c.in-Some.ensures.found)) refl in
    let then_is : c.as_ccb-again.result.now ≡ requeued c.at.result.now.ccb c.args.used = c.as_ccb-again.ensures ∙ ap (λ (l : LiveCcb). l.ccb) c.requeue.ensures in
    let queue_is : c.as_ccb-again.result.now.queue.0 ≡ c.at.result.now.ccb.queue.0 = ap (λ (b : Ccb). b.queue.0) then_is in
    let state : c.at.result.now.state ≡ InRecovery = ap (λ (l : LiveCcb). l.state) m.same ∙ c.requires.2 in
    subst (λ (q : ℕ). 1 ≤ (queue_at c.self.inside.queues q).recovering) (sym queue_is) (recovering_there c.self.inside.ccbs c.self.inside.queues c.args.ccb.0 c.at.result.now c.self.invariant.table m.found state)

pub put_back-requires-clause-new : goal.put_back-requires-clause-new
put_back-requires-clause-new c =
    let m = meant c.self.inside.ledger c.self.inside.clock c.self.inside.ccbs c.self.inside.queues c.args.self.now c.args.ccb.0 (Some c.at.result.now) c.at.result.now c.requires.0 c.self.view_is c.requires.1 (sym (c.at.ensures c.args.ccb.0 c.in-Some.ensures.found)) refl in
    let then_is : c.as_ccb-again.result.now ≡ requeued c.at.result.now.ccb c.args.used = c.as_ccb-again.ensures ∙ ap (λ (l : LiveCcb). l.ccb) c.requeue.ensures in
    let queue_is : c.as_ccb-again.result.now.queue.0 ≡ c.at.result.now.ccb.queue.0 = ap (λ (b : Ccb). b.queue.0) then_is in
    let state : c.at.result.now.state ≡ InRecovery = ap (λ (l : LiveCcb). l.state) m.same ∙ c.requires.2 in
    let there : ccb_of c.as_ccb-again.result.now.number.0 c.self.inside.ccbs.live ≡ Some c.at.result.now = subst (λ (b : Ccb). ccb_of b.number.0 c.self.inside.ccbs.live ≡ Some c.at.result.now) (sym then_is) (ccb_found c.args.ccb.0 c.self.inside.ccbs.live c.at.result.now m.found) in
    subst (λ (q : ℕ). waits c.as_ccb-again.result.now.number (queue_at c.self.inside.queues q).waiting ≡ false) (sym queue_is)
    (waits_not c.self.inside.ccbs c.self.inside.queues c.as_ccb-again.result.now.number c.at.result.now c.self.invariant.table there state)

pub change-requires : goal.change-requires
change-requires c =
    let m = meant c.self.inside.ledger c.self.inside.clock c.self.inside.ccbs c.self.inside.queues c.args.self.now c.args.ccb.0 (Some c.at.result.now) c.at.result.now c.requires.0 c.self.view_is c.requires.1 (sym (c.at.ensures c.args.ccb.0 c.in-Some.ensures.found)) refl in
    let number : c.requeue.new.self.ccb.number.0 ≡ c.args.ccb.0 = ap (λ (l : LiveCcb). l.ccb.number.0) c.requeue.ensures ∙ found_key ccb_key c.args.ccb.0 c.self.inside.ccbs.live c.at.result.now m.found in
    subst (λ (n : ℕ). IsPlaceOf n c.self.inside.ccbs.live c.in-Some.place) (sym number) c.in-Some.ensures.found

pub invariant_of-self : goal.invariant_of-self
invariant_of-self c =
    let m = meant c.self.inside.ledger c.self.inside.clock c.self.inside.ccbs c.self.inside.queues c.args.self.now c.args.ccb.0 (Some c.at.result.now) c.at.result.now c.requires.0 c.self.view_is c.requires.1 (sym (c.at.ensures c.args.ccb.0 c.in-Some.ensures.found)) refl in
    let then_is : c.as_ccb-again.result.now ≡ requeued c.at.result.now.ccb c.args.used = c.as_ccb-again.ensures ∙ ap (λ (l : LiveCcb). l.ccb) c.requeue.ensures in
    let queue_is : c.as_ccb-again.result.now.queue.0 ≡ c.at.result.now.ccb.queue.0 = ap (λ (b : Ccb). b.queue.0) then_is in
    let state : c.at.result.now.state ≡ InRecovery = ap (λ (l : LiveCcb). l.state) m.same ∙ c.requires.2 in
    let there : ccb_of c.as_ccb-again.result.now.number.0 c.self.inside.ccbs.live ≡ Some c.at.result.now = subst (λ (b : Ccb). ccb_of b.number.0 c.self.inside.ccbs.live ≡ Some c.at.result.now) (sym then_is) (ccb_found c.args.ccb.0 c.self.inside.ccbs.live c.at.result.now m.found) in
    let after =
    requeued_one c.self.inside.ledger c.self.inside.clock c.self.inside.ccbs c.change.new.self c.self.inside.queues c.put_back.new.self c.as_ccb-again.result.now.queue.0 (record { ccb = c.as_ccb-again.result.now; state = Waiting }) c.at.result.now c.self.invariant.table there state refl queue_is
    (c.change.ensures ∙ ap (λ (l : LiveCcb). listed_as c.self.inside.ccbs.greatest (with_ccb l c.self.inside.ccbs.live)) (λ i. record { ccb = sym c.as_ccb-again.ensures i; state = ap (λ (l : LiveCcb). l.state) c.requeue.ensures i })) c.put_back.ensures queue_is in
    kept_on c.self.inside.ledger c.self.inside.clock c.self.inside.ccbs c.change.new.self c.self.inside.queues c.put_back.new.self _ c.self.invariant after refl

pub returns : goal.returns
returns c it e =
    let m = meant c.self.inside.ledger c.self.inside.clock c.self.inside.ccbs c.self.inside.queues c.args.self.now c.args.ccb.0 (Some c.at.result.now) c.at.result.now c.requires.0 c.self.view_is c.requires.1 (sym (c.at.ensures c.args.ccb.0 c.in-Some.ensures.found)) refl in
    let then_is : c.as_ccb-again.result.now ≡ requeued c.at.result.now.ccb c.args.used = c.as_ccb-again.ensures ∙ ap (λ (l : LiveCcb). l.ccb) c.requeue.ensures in
    let queue_is : c.as_ccb-again.result.now.queue.0 ≡ c.at.result.now.ccb.queue.0 = ap (λ (b : Ccb). b.queue.0) then_is in
    let state : c.at.result.now.state ≡ InRecovery = ap (λ (l : LiveCcb). l.state) m.same ∙ c.requires.2 in
    let there : ccb_of c.as_ccb-again.result.now.number.0 c.self.inside.ccbs.live ≡ Some c.at.result.now = subst (λ (b : Ccb). ccb_of b.number.0 c.self.inside.ccbs.live ≡ Some c.at.result.now) (sym then_is) (ccb_found c.args.ccb.0 c.self.inside.ccbs.live c.at.result.now m.found) in
    let after =
    requeued_one c.self.inside.ledger c.self.inside.clock c.self.inside.ccbs c.change.new.self c.self.inside.queues c.put_back.new.self c.as_ccb-again.result.now.queue.0 (record { ccb = c.as_ccb-again.result.now; state = Waiting }) c.at.result.now c.self.invariant.table there state refl queue_is
    (c.change.ensures ∙ ap (λ (l : LiveCcb). listed_as c.self.inside.ccbs.greatest (with_ccb l c.self.inside.ccbs.live)) (λ i. record { ccb = sym c.as_ccb-again.ensures i; state = ap (λ (l : LiveCcb). l.state) c.requeue.ensures i })) c.put_back.ensures queue_is in
    let other = meant c.self.inside.ledger c.self.inside.clock c.self.inside.ccbs c.self.inside.queues c.args.self.now c.args.ccb.0 (Some c.at.result.now) c.at.result.now it c.self.view_is e (sym (c.at.ensures c.args.ccb.0 c.in-Some.ensures.found)) refl in
    let both : c.as_ccb-again.result.now ≡ requeued it.ccb c.args.used = then_is ∙ ap (λ (l : LiveCcb). requeued l.ccb c.args.used) other.same in
    subst (λ (s : Transport). seen c.change.new.self c.put_back.new.self c.self.inside.ledger c.self.inside.clock ≡ record s { live = with_ccb (record { ccb = requeued it.ccb c.args.used; state = Waiting }) s.live }) c.self.view_is
    (after.seen_is ∙ ap (λ (b : Ccb). seen (listed_as c.self.inside.ccbs.greatest (with_ccb (record { ccb = b; state = Waiting }) c.self.inside.ccbs.live)) c.self.inside.queues c.self.inside.ledger c.self.inside.clock) both)
