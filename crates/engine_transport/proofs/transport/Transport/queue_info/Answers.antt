use Rattle.std.proofs.Common.{◌≡◌, ℕ, ◌<◌, length, ap, sym, subst, ◌∙◌}
use Rattle.world.specs.declared.queue_info.QueueInfo.{QueueInfo}
use Rattle.world.specs.QueueInfo.{queue_info}
use Rattle.world.specs.World.{Transport}
use Rattle.engine_transport.proofs.Info.{known_there, info_is}
use Rattle.engine_transport.proofs.transport.Transport.queue_info.Goals as goal

pub returns : goal.returns
returns c = λ world.
    let told : QueueInfo = record { frozen = c.count.result; active = c.counts-waiting.result.1; waiting = c.counts-waiting.result.0; openings = c.from.result } in
    subst (λ (s : Transport). told ≡ queue_info (record world { transport = s }) c.args.queue.0) c.self.view_is
    (info_is c.self.inside.ledger c.self.inside.clock c.self.inside.ccbs c.self.inside.queues c.args.queue.0 world c.get-own.result.now told c.self.invariant.table
    (known_there c.self.inside.ledger c.self.inside.clock c.self.inside.ccbs c.self.inside.queues c.args.queue.0 (subst (λ (s : Transport). c.args.queue.0 < length s.openings) (sym c.self.view_is) c.requires)) c.get-own.ensures
    c.count.ensures.entries
    (ap (λ (x : ℕ × ℕ × ℕ). x.1) c.counts-waiting.ensures.counts) (ap (λ (x : ℕ × ℕ × ℕ). x.0) c.counts-waiting.ensures.counts)
    (c.from.ensures ∙ c.openings.ensures.openings))
