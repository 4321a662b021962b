use Rattle.std.proofs.Common.{◌≡◌, ◌≤◌, ◌+◌, ◌∷◌, ◌++◌, All, map, vec_len}
use Rattle.std.specs.Prelude.{vec_capacity}
use Rattle.inbox.specs.Views.{IsOf}
use Rattle.host_scenario.proofs.Taken.{caller_of, pass_of}
use Rattle.host_scenario.proofs.running.close.Given as goal

abbrev pub invariant-loop-seats : goal.invariant-loop-seats
invariant-loop-seats g l = record {
  callers : l.callers.items ++ map caller_of l.seats.items ≡ l.fn.host.caller ∷ map caller_of l.fn.host.seats.items;
  takes : l.takes.items ++ map pass_of l.seats.items ≡ l.fn.host.take ∷ map pass_of l.fn.host.seats.items;
  are : All (IsOf l.inbox) l.takes.items;
  rest : All (λ seat. IsOf l.inbox seat.pass) l.seats.items;
  caller_room : vec_len l.callers + vec_len l.seats ≤ vec_capacity l.callers;
  take_room : vec_len l.takes + vec_len l.seats ≤ vec_capacity l.takes;
}

abbrev pub decreases-loop-seats : goal.decreases-loop-seats
decreases-loop-seats g l = vec_len l.seats
