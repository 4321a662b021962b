use Rattle.std.proofs.Common.{refl}
use Rattle.engine_carried.proofs.Free.{same_bounds}
use Rattle.engine_carried.proofs.fitting.are_others_free.Goals as goal

pub returns-then-are_queues_free : goal.returns-then-are_queues_free
returns-then-are_queues_free c =
    let both = same_bounds c.args.old.now c.args.new.now c.args.transport.now c.queues.result c.queues-2.result c.controllers.result c.controllers-then-are_queues_free.result c.queues.ensures.value c.queues-2.ensures.value c.controllers.ensures.value c.controllers-then-are_queues_free.ensures.value in
    (λ is. both.0 (c.are_queues_free.ensures.0 c.if-are_queues_free.true, c.are_controllers_free.ensures.0 is), λ free. c.are_controllers_free.ensures.1 (both.1 free).1)

pub returns-else-are_queues_free : goal.returns-else-are_queues_free
returns-else-are_queues_free c =
    let both = same_bounds c.args.old.now c.args.new.now c.args.transport.now c.queues.result c.queues-2.result c.args.new.now.controllers c.args.old.now.controllers c.queues.ensures.value c.queues-2.ensures.value refl refl in
    (λ is. absurd (cc (is, c.if-are_queues_free.false)), λ free. c.are_queues_free.ensures.1 (both.1 free).0)
