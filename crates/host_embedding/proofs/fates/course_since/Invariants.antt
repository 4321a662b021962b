use Rattle.std.proofs.Common.{◌≡◌, ◌≤◌, length}
use Rattle.std.specs.List.{between}
use Rattle.host_embedding.specs.Fates.{course_over}
use Rattle.host_embedding.proofs.fates.course_since.Given as goal

abbrev pub invariant-loop-number : goal.invariant-loop-number
invariant-loop-number l = record {
  onwards : l.was ≤ l.number;
  within : l.number ≤ length l.engine.history;
  so : l.course ≡ course_over l.run (record { kept = l.fn.before; told = l.fn.before }) (between l.was l.number l.engine.history);
}
