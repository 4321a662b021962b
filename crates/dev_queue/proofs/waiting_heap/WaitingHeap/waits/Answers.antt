use Rattle.std.proofs.Common.{◌∙◌, ap, sym}
use Rattle.dev_queue.specs.Waiting.{waits}
use Rattle.dev_queue.proofs.Order.{waits_in_order}
use Rattle.dev_queue.proofs.waiting_heap.WaitingHeap.waits.Goals as goal

pub returns : goal.returns
returns c =
    c.has_number.ensures ∙ (ap (waits c.args.number) c.deref.ensures.value ∙ (sym (waits_in_order c.args.number c.self.inside.pairs.items) ∙ ap (waits c.args.number) c.self.view_is))
