use Rattle.std.proofs.Common.{◌≤◌, length}
use Rattle.std.specs.List.{between}
use Rattle.host_embedding.specs.Counting.{CountsMore}
use Rattle.host_embedding.proofs.counting.count_more.Given as goal

abbrev pub invariant-loop-number : goal.invariant-loop-number
invariant-loop-number l = record {
  onwards : l.noted.was ≤ l.number;
  within : l.number ≤ length l.engine.history;
  counted : CountsMore l.noted.before (between l.noted.was l.number l.engine.history) l.fn.metrics l.metrics;
}
