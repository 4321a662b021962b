-- the lines of the queues so far are added
use Rattle.std.proofs.Common.{◌≡◌, ◌++◌, take}
use Rattle.engine_beginning.specs.Lines.{openings_from}
use Rattle.host_decision.specs.Asked.{openings_in}
use Rattle.host_decision.proofs.opening_lines.add_openings.Given as goal

abbrev pub invariant-loop-queue : goal.invariant-loop-queue
invariant-loop-queue l = l.lines.items ≡ l.fn.lines.items ++ take l.queue (openings_from 0 (openings_in l.config))
