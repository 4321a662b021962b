use Rattle.std.proofs.Common.{◌≡◌, ℕ, ◌+◌, ◌<◌, length, cond, Bool, ap, sym, subst, arith}
use Rattle.engine_transport.specs.Listed.{ListState}
use Rattle.engine_transport.proofs.Listed.{listed_push, rises_on}
use Rattle.engine_transport.proofs.ccb_list.CcbList.enter.Goals as goal

pub push-requires-clause-rising : goal.push-requires-clause-rising
push-requires-clause-rising c =
    let next : c.args.live.ccb.number.0 ≡ c.self.inside.greatest + 1 = subst (λ (s : ListState). c.args.live.ccb.number.0 ≡ s.greatest + 1) (sym c.self.view_is) c.requires.next in
    rw (c.number-2.ensures) (rises_on c.self.inside.ccbs c.self.inside.greatest c.self.inside.active c.args.live c.self.invariant next)

pub invariant_of-self : goal.invariant_of-self
invariant_of-self c =
    let few : length c.self.inside.ccbs.values < 4096 = subst (λ (s : ListState). length s.live < 4096) (sym c.self.view_is) c.requires.room in
    let next : c.args.live.ccb.number.0 ≡ c.self.inside.greatest + 1 = subst (λ (s : ListState). c.args.live.ccb.number.0 ≡ s.greatest + 1) (sym c.self.view_is) c.requires.next in
    rw (c.push.ensures, c.number-2.ensures, c.number.ensures)
    (listed_push c.self.inside.ccbs c.self.inside.greatest c.self.inside.active c.args.live c.self.invariant few next _
    (omega (arith, c.moved-self-inside.ensures, ap (λ (b : Bool). cond {A = ℕ} b 1 0) c.is_active.ensures)))
