use Rattle.host_journal.proofs.Matching.{in_front, not_in_front}
use Rattle.host_journal.proofs.comparing.without_front.Goals as goal

pub returns-then-is_same : goal.returns-then-is_same
returns-then-is_same c = in_front c.args.text.now c.args.front.now c.split_at.result.0.now c.split_at.result.1.now c.split_at.ensures.front c.split_at.ensures.back (c.is_same.ensures.same c.if-is_same.true)

pub returns-else-is_same : goal.returns-else-is_same
returns-else-is_same c = not_in_front c.args.text.now c.args.front.now c.split_at.result.0.now c.split_at.result.1.now c.split_at.ensures.front (c.is_same.ensures.other c.if-is_same.false)
