use Rattle.host_embedding.proofs.Results.{few_numbers}
use Rattle.host_embedding.proofs.call_result.CallResult.number.Goals as goal

pub returns-in-Refused-clause-few : goal.returns-in-Refused-clause-few
returns-in-Refused-clause-few c = rw (c.from.ensures, c.row.ensures) (few_numbers c.in-Refused.refusal)
