use Rattle.std.proofs.Common.{◌≤◌, sym, subst}
use Rattle.world.specs.World.{Transport}
use Rattle.engine_transport.specs.Invariant.{KeepsTable}
use Rattle.engine_transport.specs.Listed.{ListState}
use Rattle.engine_transport.proofs.Carrying.{kept_passed}
use Rattle.engine_transport.proofs.transport.Transport.pass_over_ccbs.Goals as goal

pub invariant_of-self : goal.invariant_of-self
invariant_of-self c =
    let up : c.self.inside.ccbs.greatest ≤ c.args.number = subst (λ (s : Transport). s.greatest_ccb ≤ c.args.number) (sym c.self.view_is) c.requires in
    record {
      table = subst (λ (l : ListState). KeepsTable l c.self.inside.queues) (sym c.pass_over.ensures) (kept_passed c.self.inside.ccbs c.self.inside.queues c.args.number c.self.invariant.table up);
      places = c.self.invariant.places;
    }
