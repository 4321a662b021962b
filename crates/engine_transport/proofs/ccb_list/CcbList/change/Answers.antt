use Rattle.std.proofs.Common.{ℕ, cond, Bool, ap, subst, sym, arith}
use Rattle.engine_transport.specs.Listed.{ListState, IsPlaceOf}
use Rattle.engine_transport.proofs.Listed.{listed_put, set_is, listed_as}
use Rattle.engine_transport.proofs.ccb_list.CcbList.change.Goals as goal

-- the place of the CCB
place : (c : goal.After-self-2-1) → IsPlaceOf c.args.changed.now.ccb.number.0 c.self.inside.ccbs.values c.args.place
place c = subst (λ (s : ListState). IsPlaceOf c.args.changed.now.ccb.number.0 s.live c.args.place) (sym c.self.view_is) c.requires

pub invariant_of-self : goal.invariant_of-self
invariant_of-self c =
    listed_put c.self.inside.ccbs c.self.inside.greatest c.self.inside.active c.args.place c.args.changed.now c.index.result.now c.self.invariant (place c) c.index.ensures _
    (omega (arith, c.moved-self-inside.ensures, ap (λ (b : Bool). cond {A = ℕ} b 1 0) c.is_active-was.ensures, ap (λ (b : Bool). cond {A = ℕ} b 1 0) c.is_active.ensures))

pub returns : goal.returns
returns c =
    rw (← c.self.view_is) (ap (listed_as c.self.inside.greatest) (set_is c.self.inside.ccbs.values c.self.inside.greatest c.args.place c.args.changed.now c.self.invariant.rising (place c)))
