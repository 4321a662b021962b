-- The vector has what was taken out, and room for the rest.
use Rattle.std.proofs.Common.{◌≡◌, ◌≤◌, ◌-◌, vec_len, vec_capacity}
use Rattle.crossbeam_queue.specs.Passes.{IsPassOf}
use Rattle.inbox.specs.Seats.{known, holding}
use Rattle.inbox.proofs.closing.empty.Given as goal

abbrev pub invariant-loop-completion : goal.invariant-loop-completion
invariant-loop-completion g l = record {
  seat : IsPassOf l.queue l.last;
  holds : known l.last ≡ holding (known l.fn.last).account (known l.fn.last).back l.left.items;
  room : (known l.fn.last).account.shape.capacity ≤ vec_capacity l.left;
}

abbrev pub decreases-loop-completion : goal.decreases-loop-completion
decreases-loop-completion g l = (known l.fn.last).account.shape.capacity - vec_len l.left
