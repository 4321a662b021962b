use Rattle.std.proofs.Common.{rules, arith}
use Rattle.host_embedding.proofs.Lines.{adds_none, adds_one, same_behind}
use Rattle.host_embedding.proofs.continued.put_rest.Goals as goal

pub loop-number-init : goal.loop-number-init
loop-number-init c = record {
  room = search rules;
  next = search rules;
  within = search rules;
  lines = search (rules, adds_none);
  onward = search rules;
  begun = λ same. (search rules, search rules);
  behind = search rules;
}

pub loop-number-preserved : goal.loop-number-preserved
loop-number-preserved c = record {
  room = search rules;
  next = search rules;
  within = search rules;
  lines = search (rules, adds_one);
  onward = search rules;
  begun = λ same. absurd (let onwards = c.loop-number.invariant.lines.onwards in let next = c.loop-number.invariant.next in omega (arith, onwards, next, same));
  behind = search (rules, same_behind);
}

pub returns-in-None-clause-same : goal.returns-in-None-clause-same
returns-in-None-clause-same c told = let begun = c.loop-number.invariant.begun (search rules) in search (rules, begun)
