use Rattle.std.proofs.Common.{◌≡◌, ◌<◌, ◌≤◌, length, Bool, Some, false, cond, refl, ap, sym, subst}
use Rattle.ccb.specs.declared.ccb.Ccb.{Ccb}
use Rattle.world.specs.World.{LiveCcb}
use Rattle.world.specs.Lookups.{is_waiting, is_active}
use Rattle.world.proofs.Lists.Found.{leave}
use Rattle.world.proofs.Steps.Moves.{ccb_key}
use Rattle.world.specs.World.{Transport}
use Rattle.engine_transport.specs.Queues.{queue_at}
use Rattle.engine_transport.specs.Invariant.{seen}
use Rattle.engine_transport.proofs.Kept.{meant, known_queue, counted_there}
use Rattle.engine_transport.proofs.Steps.{After, finished, kept_on}
use Rattle.engine_transport.proofs.Listed.{listed_as}
use Rattle.engine_transport.proofs.transport.Transport.finish.Goals as goal

pub leave-requires-clause-known : goal.leave-requires-clause-known
leave-requires-clause-known c =
    let m = meant c.self.inside.ledger c.self.inside.clock c.self.inside.ccbs c.self.inside.queues c.args.self.now c.args.ccb.0 (Some c.remove-live.result) c.remove-live.result c.requires.0 c.self.view_is c.requires.1 (sym c.remove-live.ensures.gone) refl in
    subst (λ (b : Ccb). b.queue.0 < length c.self.inside.queues) (sym c.ccb.ensures) (known_queue c.self.inside.ccbs c.self.inside.queues c.args.ccb.0 c.remove-live.result c.self.invariant.table m.found)

pub leave-requires-clause-there : goal.leave-requires-clause-there
leave-requires-clause-there c =
    let m = meant c.self.inside.ledger c.self.inside.clock c.self.inside.ccbs c.self.inside.queues c.args.self.now c.args.ccb.0 (Some c.remove-live.result) c.remove-live.result c.requires.0 c.self.view_is c.requires.1 (sym c.remove-live.ensures.gone) refl in
    let stands : is_waiting c.remove-live.result.state ≡ false = subst (λ (l : LiveCcb). is_waiting l.state ≡ false) (sym m.same) c.requires.2 in
    let there = counted_there c.self.inside.ccbs c.self.inside.queues c.args.ccb.0 c.remove-live.result c.remove-live.result.state c.self.invariant.table m.found refl stands in
    subst (λ (active : Bool). 1 ≤ cond active (queue_at c.self.inside.queues c.ccb.result.queue.0).active (queue_at c.self.inside.queues c.ccb.result.queue.0).recovering) (sym c.is_active.ensures)
    (subst (λ (b : Ccb). 1 ≤ cond (is_active c.remove-live.result.state) (queue_at c.self.inside.queues b.queue.0).active (queue_at c.self.inside.queues b.queue.0).recovering) (sym c.ccb.ensures) there)

-- what is left
after : (c : goal.After-leave) → After c.self.inside.ledger c.self.inside.clock c.remove-live.new.self c.leave.new.self (seen (listed_as c.self.inside.ccbs.greatest (leave ccb_key c.args.ccb.0 c.self.inside.ccbs.live)) c.self.inside.queues c.self.inside.ledger c.self.inside.clock)
after c =
    let m = meant c.self.inside.ledger c.self.inside.clock c.self.inside.ccbs c.self.inside.queues c.args.self.now c.args.ccb.0 (Some c.remove-live.result) c.remove-live.result c.requires.0 c.self.view_is c.requires.1 (sym c.remove-live.ensures.gone) refl in
    let stands : is_waiting c.remove-live.result.state ≡ false = subst (λ (l : LiveCcb). is_waiting l.state ≡ false) (sym m.same) c.requires.2 in
    finished c.self.inside.ledger c.self.inside.clock c.self.inside.ccbs c.remove-live.new.self c.self.inside.queues c.leave.new.self c.args.ccb.0 c.ccb.result.queue.0 c.is_active.result c.remove-live.result c.self.invariant.table m.found stands c.is_active.ensures
    c.remove-live.ensures.others c.leave.ensures (ap (λ (b : Ccb). b.queue.0) c.ccb.ensures)

pub invariant_of-self : goal.invariant_of-self
invariant_of-self c = kept_on c.self.inside.ledger c.self.inside.clock c.self.inside.ccbs c.remove-live.new.self c.self.inside.queues c.leave.new.self _ c.self.invariant (after c) refl

pub returns : goal.returns
returns c = subst (λ (s : Transport). seen c.remove-live.new.self c.leave.new.self c.self.inside.ledger c.self.inside.clock ≡ record s { live = leave ccb_key c.args.ccb.0 s.live }) c.self.view_is (after c).seen_is
