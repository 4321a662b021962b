use Rattle.std.proofs.Common.{◌≤◌, map, sym, subst}
use Rattle.world.specs.World.{LiveCcb}
use Rattle.engine_transport.specs.Listed.{ListState}
use Rattle.engine_transport.proofs.Listed.{rises_up}
use Rattle.engine_transport.proofs.ccb_list.CcbList.pass_over.Goals as goal

pub invariant_of-self : goal.invariant_of-self
invariant_of-self c =
    let kept = c.self.invariant in
    let up : c.self.inside.greatest ≤ c.args.number = subst (λ (s : ListState). s.greatest ≤ c.args.number) (sym c.self.view_is) c.requires in
    record {
      numbered = kept.numbered;
      rising = rises_up 0 (map (λ (live : LiveCcb). live.ccb.number.0) c.self.inside.ccbs.values) c.self.inside.greatest c.args.number kept.rising up;
      within = kept.within;
      room = kept.room;
      counted = kept.counted;
    }
