use Rattle.host_live.proofs.Growing.{by_none}
use Rattle.host_live.proofs.answering.answer_line.Goals as goal

pub returns-then-is_some-clause-grown : goal.returns-then-is_some-clause-grown
returns-then-is_some-clause-grown g c = by_none _ _ _

pub returns-then-not-manner-clause-grown : goal.returns-then-not-manner-clause-grown
returns-then-not-manner-clause-grown g c = by_none _ _ _
