use Rattle.std.proofs.Common.{◌≡◌, ℕ, Some, refl, ap, sym, subst, ◌∙◌}
use Rattle.ccb.specs.Ccb.{advised}
use Rattle.world.specs.World.{LiveCcb, Transport}
use Rattle.world.specs.Lookups.{ccb_of, with_ccb}
use Rattle.world.proofs.Lists.Found.{found_key}
use Rattle.world.proofs.Steps.Moves.{ccb_found, ccb_key}
use Rattle.engine_transport.specs.Invariant.{seen}
use Rattle.engine_transport.specs.Listed.{IsPlaceOf}
use Rattle.engine_transport.proofs.Kept.{meant}
use Rattle.engine_transport.proofs.Listed.{listed_as}
use Rattle.engine_transport.proofs.Steps.{advised_one, kept_on}
use Rattle.engine_transport.proofs.transport.Transport.advise.Goals as goal

pub change-requires : goal.change-requires
change-requires c =
    let found : ccb_of c.args.ccb.0 c.self.inside.ccbs.live ≡ Some c.at.result.now = c.at.ensures c.args.ccb.0 c.in-Some.ensures.found in
    let number : c.advise.new.self.ccb.number.0 ≡ c.args.ccb.0 = ap (λ (l : LiveCcb). l.ccb.number.0) c.advise.ensures ∙ found_key ccb_key c.args.ccb.0 c.self.inside.ccbs.live c.at.result.now found in
    subst (λ (n : ℕ). IsPlaceOf n c.self.inside.ccbs.live c.in-Some.place) (sym number) c.in-Some.ensures.found

pub invariant_of-self : goal.invariant_of-self
invariant_of-self c =
    let found : ccb_of c.args.ccb.0 c.self.inside.ccbs.live ≡ Some c.at.result.now = c.at.ensures c.args.ccb.0 c.in-Some.ensures.found in
    let there : ccb_of c.advise.new.self.ccb.number.0 c.self.inside.ccbs.live ≡ Some c.at.result.now =
    subst (λ (l : LiveCcb). ccb_of l.ccb.number.0 c.self.inside.ccbs.live ≡ Some c.at.result.now) (sym c.advise.ensures) (ccb_found c.args.ccb.0 c.self.inside.ccbs.live c.at.result.now found) in
    kept_on c.self.inside.ledger c.self.inside.clock c.self.inside.ccbs c.change.new.self c.self.inside.queues c.self.inside.queues _ c.self.invariant
    (advised_one c.self.inside.ledger c.self.inside.clock c.self.inside.ccbs c.change.new.self c.self.inside.queues c.advise.new.self c.at.result.now c.args.word c.self.invariant.table c.advise.ensures there c.change.ensures) refl

pub returns : goal.returns
returns c it e =
    let m = meant c.self.inside.ledger c.self.inside.clock c.self.inside.ccbs c.self.inside.queues c.args.self.now c.args.ccb.0 (Some c.at.result.now) c.at.result.now it c.self.view_is e (sym (c.at.ensures c.args.ccb.0 c.in-Some.ensures.found)) refl in
    let both : c.advise.new.self ≡ record it { ccb = advised it.ccb c.args.word } = c.advise.ensures ∙ ap (λ (l : LiveCcb). record l { ccb = advised l.ccb c.args.word }) m.same in
    subst (λ (s : Transport). seen c.change.new.self c.self.inside.queues c.self.inside.ledger c.self.inside.clock ≡ record s { live = with_ccb (record it { ccb = advised it.ccb c.args.word }) s.live }) c.self.view_is
    (ap (λ l. seen l c.self.inside.queues c.self.inside.ledger c.self.inside.clock) c.change.ensures
    ∙ ap (λ (l : LiveCcb). seen (listed_as c.self.inside.ccbs.greatest (with_ccb l c.self.inside.ccbs.live)) c.self.inside.queues c.self.inside.ledger c.self.inside.clock) both)
