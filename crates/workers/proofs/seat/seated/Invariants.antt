use Rattle.std.proofs.Common.{◌≡◌, ◌+◌, ◌≤◌, ◌++◌, All, map, vec_len}
use Rattle.std.specs.Prelude.{vec_capacity}
use Rattle.inbox.specs.Views.{IsOf}
use Rattle.engine_lock.specs.Sharing.{IsNewCaller}
use Rattle.workers.proofs.seat.seated.Given as goal

abbrev pub invariant-loop-caller : goal.invariant-loop-caller
invariant-loop-caller g l = record {
  in_order : map (λ seat. seat.pass) l.seats.items ++ l.takes.items ≡ l.fn.takes.items;
  callers : All (λ seat. IsNewCaller g.B.Origin.setup g.B.Origin.begun seat.caller) l.seats.items;
  takes : All (IsOf l.inbox) l.takes.items;
  seats : All (λ seat. IsOf l.inbox seat.pass) l.seats.items;
  few : vec_len l.seats + vec_len l.takes ≡ vec_len l.fn.takes;
  room : vec_len l.seats + vec_len l.takes ≤ vec_capacity l.seats;
}

abbrev pub decreases-loop-caller : goal.decreases-loop-caller
decreases-loop-caller g l = vec_len l.takes
