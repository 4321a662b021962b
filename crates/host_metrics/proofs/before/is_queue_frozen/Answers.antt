use Rattle.std.proofs.Common.{rules}
use Rattle.host_metrics.proofs.Frozen.{queue_frozen}
use Rattle.host_metrics.proofs.before.is_queue_frozen.Goals as goal

pub returns-then-has_queue : goal.returns-then-has_queue
returns-then-has_queue c = queue_frozen c.args.transport.now c.args.queue c.queue_info.result (search (rules, c.has_queue.ensures, c.if-has_queue.true)) c.queue_info.ensures
