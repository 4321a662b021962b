use Rattle.engine_succession.proofs.Refused.{one_refusal}
use Rattle.engine_succession.proofs.laws.one_refusal.Goals as goal

pub returns : goal.returns
returns c = one_refusal
