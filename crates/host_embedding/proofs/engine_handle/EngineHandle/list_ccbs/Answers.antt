use Rattle.std.proofs.Common.{◌≤◌, length, subst, sym}
use Rattle.world.specs.Capacities.{most_ccbs}
use Rattle.world.specs.World.{Transport}
use Rattle.host_embedding.proofs.Listing.{few_ccbs}
use Rattle.host_embedding.proofs.engine_handle.EngineHandle.list_ccbs.Goals as goal

pub list-requires : goal.list-requires
list-requires c = subst (λ (t : Transport). length t.live ≤ most_ccbs) (sym c.transport.ensures.value) (few_ccbs c.self.inside.engine c.transport.ensures.run)
