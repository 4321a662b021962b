use Rattle.std.proofs.Common.{◌≡◌, [], subst}
use Rattle.std.specs.Prelude.{◌↔◌, IsTrue}
use Rattle.world.specs.declared.queue_info.QueueInfo.{QueueInfo}
use Rattle.world.specs.World.{World}
use Rattle.engine_carried.proofs.fitting.is_free.Goals as goal

pub returns : goal.returns
returns c =
    let world : World = record { transport = c.args.transport.now; runs = record { list = []; greatest = 0; tables = [] }; ended = [] } in
    subst (λ (info : QueueInfo). IsTrue c.has_nothing.result ↔ ((info.frozen ≡ 0) × (info.active ≡ 0) × (info.waiting ≡ 0))) (c.queue_info.ensures world) c.has_nothing.ensures
