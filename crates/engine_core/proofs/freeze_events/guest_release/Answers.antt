use Rattle.engine_core.proofs.Performing.{releases}
use Rattle.engine_core.proofs.freeze_events.guest_release.Goals as goal

pub returns-clause-performs : goal.returns-clause-performs
returns-clause-performs c setup runs =
    releases c.args.token c.args.transport.now c.guest_release-count.new.self c.number.result c.guest_release-count.result c.number.ensures c.requires.0 c.requires.1 c.guest_release-count.ensures.freezes (λ setup world count. c.guest_release-count.ensures.step setup world) setup runs
