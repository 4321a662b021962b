use Rattle.std.proofs.Common.{◌≡◌, ◌<◌, length, Some, true, refl, ap, sym, subst, ◌∙◌}
use Rattle.ccb.specs.declared.ccb.Ccb.{Ccb}
use Rattle.dev_queue.specs.Waiting.{waits}
use Rattle.world.specs.declared.ccb_state.CcbState.TheVariants.{Waiting}
use Rattle.world.specs.World.{LiveCcb, Transport}
use Rattle.world.proofs.Lists.Found.{leave}
use Rattle.world.proofs.Steps.Moves.{ccb_key}
use Rattle.engine_transport.specs.Queues.{queue_at}
use Rattle.engine_transport.specs.Invariant.{seen}
use Rattle.engine_transport.proofs.Kept.{meant, known_queue, waits_found}
use Rattle.engine_transport.proofs.Steps.{After, withdrawn, kept_on}
use Rattle.engine_transport.proofs.Listed.{listed_as}
use Rattle.engine_transport.proofs.transport.Transport.withdraw.Goals as goal

pub withdraw-requires-clause-known : goal.withdraw-requires-clause-known
withdraw-requires-clause-known c =
    let m = meant c.self.inside.ledger c.self.inside.clock c.self.inside.ccbs c.self.inside.queues c.args.self.now c.args.ccb.0 (Some c.remove-live.result) c.remove-live.result c.requires.0 c.self.view_is c.requires.1 (sym c.remove-live.ensures.gone) refl in
    subst (λ (b : Ccb). b.queue.0 < length c.self.inside.queues) (sym c.ccb.ensures) (known_queue c.self.inside.ccbs c.self.inside.queues c.args.ccb.0 c.remove-live.result c.self.invariant.table m.found)

pub withdraw-requires-clause-there : goal.withdraw-requires-clause-there
withdraw-requires-clause-there c =
    let m = meant c.self.inside.ledger c.self.inside.clock c.self.inside.ccbs c.self.inside.queues c.args.self.now c.args.ccb.0 (Some c.remove-live.result) c.remove-live.result c.requires.0 c.self.view_is c.requires.1 (sym c.remove-live.ensures.gone) refl in
    let was : c.remove-live.result.state ≡ Waiting = ap (λ (l : LiveCcb). l.state) m.same ∙ c.requires.2 in
    subst (λ (b : Ccb). waits c.args.ccb (queue_at c.self.inside.queues b.queue.0).waiting ≡ true) (sym c.ccb.ensures)
    (waits_found c.self.inside.ccbs c.self.inside.queues c.args.ccb c.remove-live.result c.self.invariant.table m.found was)

-- what is left
after : (c : goal.After-withdraw) → After c.self.inside.ledger c.self.inside.clock c.remove-live.new.self c.withdraw.new.self (seen (listed_as c.self.inside.ccbs.greatest (leave ccb_key c.args.ccb.0 c.self.inside.ccbs.live)) c.self.inside.queues c.self.inside.ledger c.self.inside.clock)
after c =
    let m = meant c.self.inside.ledger c.self.inside.clock c.self.inside.ccbs c.self.inside.queues c.args.self.now c.args.ccb.0 (Some c.remove-live.result) c.remove-live.result c.requires.0 c.self.view_is c.requires.1 (sym c.remove-live.ensures.gone) refl in
    let was : c.remove-live.result.state ≡ Waiting = ap (λ (l : LiveCcb). l.state) m.same ∙ c.requires.2 in
    withdrawn c.self.inside.ledger c.self.inside.clock c.self.inside.ccbs c.remove-live.new.self c.self.inside.queues c.withdraw.new.self c.args.ccb c.ccb.result.queue.0 c.remove-live.result c.self.invariant.table m.found was
    c.remove-live.ensures.others c.withdraw.ensures (ap (λ (b : Ccb). b.queue.0) c.ccb.ensures)

pub invariant_of-self : goal.invariant_of-self
invariant_of-self c = kept_on c.self.inside.ledger c.self.inside.clock c.self.inside.ccbs c.remove-live.new.self c.self.inside.queues c.withdraw.new.self _ c.self.invariant (after c) refl

pub returns : goal.returns
returns c = subst (λ (s : Transport). seen c.remove-live.new.self c.withdraw.new.self c.self.inside.ledger c.self.inside.clock ≡ record s { live = leave ccb_key c.args.ccb.0 s.live }) c.self.view_is (after c).seen_is
