use Rattle.std.proofs.Common.{◌≡◌, ℕ, ◌≤◌, Some, refl, ap, sym, subst, ◌∙◌, arith}
use Rattle.ccb.specs.declared.CcbId.{CcbId}
use Rattle.ccb.specs.declared.ccb.Ccb.{Ccb}
use Rattle.world.specs.declared.ccb_state.CcbState.TheVariants.{InRecovery}
use Rattle.world.specs.World.{LiveCcb, Transport}
use Rattle.world.specs.Lookups.{ccb_of, with_ccb}
use Rattle.engine_transport.specs.Queues.{queue_at}
use Rattle.engine_transport.specs.Freezing.{took}
use Rattle.engine_transport.specs.Invariant.{seen}
use Rattle.engine_transport.specs.Listed.{IsPlaceOf}
use Rattle.engine_transport.proofs.Failing.{places_stay, seen_with}
use Rattle.engine_transport.proofs.Listed.{listed_as}
use Rattle.engine_transport.proofs.Kept.{known_queue, active_there}
use Rattle.engine_transport.proofs.Steps.{After, as_active, recovered, kept_on}
use Rattle.engine_transport.proofs.transport.Transport.fail.Goals as goal

-- the CCB as it stands in the list once it is in recovery
abbrev as_recovering : Ccb → LiveCcb
as_recovering ccb = record { ccb = ccb; state = InRecovery }

pub take-token-requires : goal.take-token-requires
take-token-requires c =
    let found : ccb_of c.args.ccb.number.0 c.self.inside.ccbs.live ≡ Some (as_active c.args.ccb) = subst (λ (s : Transport). ccb_of c.args.ccb.number.0 s.live ≡ Some (as_active c.args.ccb)) (sym c.self.view_is) c.requires.active in
    omega (arith, known_queue c.self.inside.ccbs c.self.inside.queues c.args.ccb.number.0 (as_active c.args.ccb) c.self.invariant.table found, c.self.invariant.places)

pub stop-requires-clause-known : goal.stop-requires-clause-known
stop-requires-clause-known c =
    let found : ccb_of c.args.ccb.number.0 c.self.inside.ccbs.live ≡ Some (as_active c.args.ccb) = subst (λ (s : Transport). ccb_of c.args.ccb.number.0 s.live ≡ Some (as_active c.args.ccb)) (sym c.self.view_is) c.requires.active in
    let queue_is : c.complete.new.self.queue.0 ≡ c.args.ccb.queue.0 = ap (λ (b : Ccb). b.queue.0) c.complete.ensures in
    omega (arith, queue_is, known_queue c.self.inside.ccbs c.self.inside.queues c.args.ccb.number.0 (as_active c.args.ccb) c.self.invariant.table found)

pub stop-requires-clause-active : goal.stop-requires-clause-active
stop-requires-clause-active c =
    let found : ccb_of c.args.ccb.number.0 c.self.inside.ccbs.live ≡ Some (as_active c.args.ccb) = subst (λ (s : Transport). ccb_of c.args.ccb.number.0 s.live ≡ Some (as_active c.args.ccb)) (sym c.self.view_is) c.requires.active in
    let queue_is : c.complete.new.self.queue.0 ≡ c.args.ccb.queue.0 = ap (λ (b : Ccb). b.queue.0) c.complete.ensures in
    subst (λ (q : ℕ). 1 ≤ (queue_at c.self.inside.queues q).active) (sym queue_is) (active_there c.self.inside.ccbs c.self.inside.queues c.args.ccb.number.0 (as_active c.args.ccb) c.self.invariant.table found refl)

pub change-requires : goal.change-requires
change-requires c =
    let there : IsPlaceOf c.args.ccb.number.0 c.self.inside.ccbs.live c.args.place = subst (λ (s : Transport). IsPlaceOf c.args.ccb.number.0 s.live c.args.place) (sym c.self.view_is) c.requires.there in
    let same : c.new.result.ccb.number ≡ c.args.ccb.number = ap (λ (l : LiveCcb). l.ccb.number) c.new.ensures ∙ ap (λ (b : Ccb). b.number) c.complete.ensures in
    subst (λ (n : CcbId). IsPlaceOf n.0 c.self.inside.ccbs.live c.args.place) (sym same) there

-- what is left
after : (c : goal.After-change) → After c.take-token.new.self c.self.inside.clock c.change.new.self c.stop.new.self (seen (listed_as c.self.inside.ccbs.greatest (with_ccb (as_recovering c.complete.new.self) c.self.inside.ccbs.live)) c.self.inside.queues c.take-token.new.self c.self.inside.clock)
after c =
    let found : ccb_of c.args.ccb.number.0 c.self.inside.ccbs.live ≡ Some (as_active c.args.ccb) = subst (λ (s : Transport). ccb_of c.args.ccb.number.0 s.live ≡ Some (as_active c.args.ccb)) (sym c.self.view_is) c.requires.active in
    let there : ccb_of c.complete.new.self.number.0 c.self.inside.ccbs.live ≡ Some (as_active c.args.ccb) = subst (λ (b : Ccb). ccb_of b.number.0 c.self.inside.ccbs.live ≡ Some (as_active c.args.ccb)) (sym c.complete.ensures) found in
    let queue_is : c.complete.new.self.queue.0 ≡ c.args.ccb.queue.0 = ap (λ (b : Ccb). b.queue.0) c.complete.ensures in
    recovered c.take-token.new.self c.self.inside.clock c.self.inside.ccbs c.change.new.self c.self.inside.queues c.stop.new.self c.complete.new.self.queue.0 (as_recovering c.complete.new.self) (as_active c.args.ccb) c.self.invariant.table there refl refl queue_is
    (c.change.ensures ∙ ap (λ (l : LiveCcb). listed_as c.self.inside.ccbs.greatest (with_ccb l c.self.inside.ccbs.live)) c.new.ensures) c.stop.ensures queue_is

pub invariant_of-self : goal.invariant_of-self
invariant_of-self c =
    kept_on c.take-token.new.self c.self.inside.clock c.self.inside.ccbs c.change.new.self c.self.inside.queues c.stop.new.self _
    (record {
      table = c.self.invariant.table;
      places = places_stay c.self.inside.ledger c.take-token.new.self c.take-token.result c.take-token.ensures.entered c.take-token.ensures.none ∙ c.self.invariant.places;
    }) (after c) refl

pub returns-clause-state : goal.returns-clause-state
returns-clause-state c =
    subst (λ (s : Transport). seen c.change.new.self c.stop.new.self c.take-token.new.self c.self.inside.clock ≡ record (took s c.take-token.result) { live = with_ccb (as_recovering c.complete.new.self) s.live }) c.self.view_is
    ((after c).seen_is
    ∙ seen_with c.self.inside.ccbs c.self.inside.queues c.self.inside.ledger c.take-token.new.self c.self.inside.clock (with_ccb (as_recovering c.complete.new.self) c.self.inside.ccbs.live) c.take-token.result c.take-token.ensures.entered c.take-token.ensures.none)
