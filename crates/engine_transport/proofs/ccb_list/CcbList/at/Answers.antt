use Rattle.std.proofs.Common.{◌≡◌, Some, subst, sym}
use Rattle.world.specs.Lookups.{ccb_of}
use Rattle.engine_transport.specs.Listed.{ListState, IsPlaceOf}
use Rattle.engine_transport.proofs.Listed.{placed}
use Rattle.engine_transport.proofs.ccb_list.CcbList.at.Goals as goal

pub returns : goal.returns
returns c number place =
    subst (λ (s : ListState). ccb_of number s.live ≡ Some c.index.result.now) c.self.view_is
    (placed c.self.inside.ccbs.values c.self.inside.greatest number c.args.place c.index.result.now c.self.invariant.rising
    (subst (λ (s : ListState). IsPlaceOf number s.live c.args.place) (sym c.self.view_is) place) c.index.ensures)
