use Rattle.host_live.proofs.Growing.{by_none}
use Rattle.host_live.proofs.answering.answer.Goals as goal

pub returns-in-Timer-clause-grown : goal.returns-in-Timer-clause-grown
returns-in-Timer-clause-grown g c = by_none _ _ _

pub returns-in-End-clause-grown : goal.returns-in-End-clause-grown
returns-in-End-clause-grown g c = by_none _ _ _
