use Rattle.std.proofs.Common.{◌≡◌, ℕ, cond, Bool, Some, None, ap, subst, sym, ◌∙◌, arith}
use Rattle.cam_numbered_slots.specs.NumberedState.{NumberedState}
use Rattle.engine_transport.specs.Listed.{ListState, IsPlaceOf}
use Rattle.world.specs.World.{LiveCcb}
use Rattle.world.specs.Lookups.{ccb_of}
use Rattle.engine_transport.proofs.Listed.{place_is, not_there, listed_remove, placed, remove_is, listed_as}
use Rattle.engine_transport.proofs.ccb_list.CcbList.remove.Goals as goal

pub unreachable-requires : goal.unreachable-requires
unreachable-requires c =
    let there = subst (λ (s : ListState). (it : LiveCcb) × (ccb_of c.args.number.0 s.live ≡ Some it)) (sym c.self.view_is) c.requires in
    let none = not_there c.self.inside.ccbs c.self.inside.greatest c.self.inside.active c.args.number.0 c.self.invariant c.in_default.ensures.none in
    let bad : None ≡ Some there.0 = sym none ∙ there.1 in
    cc

-- the place that was found
place : (c : goal.After-self-1) → IsPlaceOf c.args.number.0 c.self.inside.ccbs.values c.in-Some.place
place c = place_is c.self.inside.ccbs c.self.inside.greatest c.self.inside.active c.args.number.0 c.in-Some.place c.self.invariant c.in-Some.ensures.found

pub invariant_of-self : goal.invariant_of-self
invariant_of-self c =
    listed_remove c.self.inside.ccbs c.remove-gone.new.self c.self.inside.greatest c.self.inside.active c.in-Some.place c.args.number.0 c.remove-gone.result c.self.invariant (place c) c.remove-gone.ensures.value
    c.remove-gone.ensures.others _
    (omega (arith, c.moved-self-inside.ensures, ap (λ (b : Bool). cond {A = ℕ} b 1 0) c.is_active.ensures))

pub returns-clause-others : goal.returns-clause-others
returns-clause-others c =
    rw (← c.self.view_is)
    (ap (listed_as c.self.inside.greatest)
    (ap (λ (s : NumberedState LiveCcb). s.values) c.remove-gone.ensures.others
    ∙ remove_is c.self.inside.ccbs.values c.self.inside.greatest c.args.number.0 c.in-Some.place c.remove-gone.result c.self.invariant.rising (place c)))

pub returns-clause-gone : goal.returns-clause-gone
returns-clause-gone c =
    rw (← c.self.view_is) (placed c.self.inside.ccbs.values c.self.inside.greatest c.args.number.0 c.in-Some.place c.remove-gone.result c.self.invariant.rising (place c) c.remove-gone.ensures.value)
