use Rattle.std.proofs.Common.{◌≡◌, ◌<◌, ◌-◌, [], ◌∷◌, ◌++◌, length, Some, None, refl, ap, sym, subst, ◌∙◌, arith}
use Rattle.std.specs.Result.{result_err}
use Rattle.ccb.specs.declared.call_refusal.CallRefusal.TheVariants.{Limit}
use Rattle.world.specs.World.{Transport}
use Rattle.engine_transport.specs.Carrying.{carried_of, carry_refusal, with_carried_ccb}
use Rattle.engine_transport.specs.Invariant.{seen}
use Rattle.engine_transport.specs.Listed.{ListState}
use Rattle.engine_transport.proofs.Carrying.{carried_one, crowded, kept_passed, taken, too_many}
use Rattle.engine_transport.proofs.Kept.{waits_not_yet}
use Rattle.engine_transport.proofs.Listed.{listed_as}
use Rattle.engine_transport.proofs.Steps.{After, kept_on}
use Rattle.engine_transport.proofs.transport.Transport.carry.Goals as goal
use Rattle.engine_transport.proofs.transport.Transport.carry.Goals.{After-enter}

pub returns-then-is_crowded-clause-fault : goal.returns-then-is_crowded-clause-fault
returns-then-is_crowded-clause-fault c =
    let known : c.args.carried.now.queue.0 < length c.self.inside.queues = omega (arith, c.if-carried-len.false, c.len.ensures) in
    subst (λ (s : Transport). Some Limit ≡ carry_refusal s c.args.carried.now) c.self.view_is
    (sym (too_many c.self.inside.ledger c.self.inside.clock c.self.inside.ccbs c.self.inside.queues c.args.carried.now known (sym c.is_crowded.ensures ∙ c.if-is_crowded.true)))

pub carry-requires-clause-new : goal.carry-requires-clause-new
carry-requires-clause-new c =
    let known : c.args.carried.now.queue.0 < length c.self.inside.queues = omega (arith, c.if-carried-len.false, c.len.ensures) in
    let above : c.self.inside.ccbs.greatest < c.args.carried.now.number.0 = subst (λ (s : Transport). s.greatest_ccb < c.args.carried.now.number.0) (sym c.self.view_is) c.requires in
    waits_not_yet c.self.inside.ccbs c.self.inside.queues c.args.carried.now.queue.0 c.args.carried.now.number c.self.invariant.table known above

pub returns-in-Err-clause-fault : goal.returns-in-Err-clause-fault
returns-in-Err-clause-fault c =
    let known : c.args.carried.now.queue.0 < length c.self.inside.queues = omega (arith, c.if-carried-len.false, c.len.ensures) in
    subst (λ (s : Transport). Some c.refusal.result ≡ carry_refusal s c.args.carried.now) c.self.view_is
    (ap (λ r. Some r) c.refusal.ensures
    ∙ sym (crowded c.self.inside.ledger c.self.inside.clock c.self.inside.ccbs c.self.inside.queues c.args.carried.now c.in-Err.fault c.self.invariant.table known (sym c.carry.ensures.fault ∙ ap result_err c.in-Err.is)))

pub returns-in-Ok-clause-fault : goal.returns-in-Ok-clause-fault
returns-in-Ok-clause-fault c =
    let known : c.args.carried.now.queue.0 < length c.self.inside.queues = omega (arith, c.if-carried-len.false, c.len.ensures) in
    subst (λ (s : Transport). None ≡ carry_refusal s c.args.carried.now) c.self.view_is
    (sym (taken c.self.inside.ledger c.self.inside.clock c.self.inside.ccbs c.self.inside.queues c.args.carried.now c.self.invariant.table known (sym c.carry.ensures.fault ∙ ap result_err c.in-Ok.is) (sym c.is_crowded.ensures ∙ c.if-is_crowded.false)))

-- the list with the numbers before its own passed over, and the CCB
after : (c : After-enter) → After c.self.inside.ledger c.self.inside.clock c.enter.new.self c.carry.new.self (seen (listed_as c.args.carried.now.number.0 (c.self.inside.ccbs.live ++ carried_of c.args.carried.now ∷ [])) c.self.inside.queues c.self.inside.ledger c.self.inside.clock)
after c =
    let known : c.args.carried.now.queue.0 < length c.self.inside.queues = omega (arith, c.if-carried-len.false, c.len.ensures) in
    let above : c.self.inside.ccbs.greatest < c.args.carried.now.number.0 = subst (λ (s : Transport). s.greatest_ccb < c.args.carried.now.number.0) (sym c.self.view_is) c.requires in
    let passed : ListState = listed_as (c.args.carried.now.number.0 - 1) c.self.inside.ccbs.live in
    let entered : c.enter.new.self ≡ listed_as c.args.carried.now.number.0 (c.self.inside.ccbs.live ++ carried_of c.args.carried.now ∷ []) =
    c.enter.ensures ∙ ((λ i. listed_as (c.carried.ensures i).ccb.number.0 ((c.pass_over.ensures i).live ++ c.carried.ensures i ∷ []))) in
    carried_one c.self.inside.ledger c.self.inside.clock passed c.enter.new.self c.self.inside.queues c.carry.new.self c.args.carried.now
    (kept_passed c.self.inside.ccbs c.self.inside.queues (c.args.carried.now.number.0 - 1) c.self.invariant.table (omega (arith, above))) (omega (arith, above)) known entered c.in-Ok.ensures.carried

pub invariant_of-self-in-Ok : goal.invariant_of-self-in-Ok
invariant_of-self-in-Ok c = kept_on c.self.inside.ledger c.self.inside.clock c.self.inside.ccbs c.enter.new.self c.self.inside.queues c.carry.new.self _ c.self.invariant (after c) refl

pub returns-in-Ok-clause-carried : goal.returns-in-Ok-clause-carried
returns-in-Ok-clause-carried c =
    subst (λ (s : Transport). seen c.enter.new.self c.carry.new.self c.self.inside.ledger c.self.inside.clock ≡ with_carried_ccb s c.args.carried.now) c.self.view_is (after c).seen_is
