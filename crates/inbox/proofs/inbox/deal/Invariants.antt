-- So many passes were made, and they are those in the vector.
use Rattle.std.proofs.Common.{◌≡◌, ◌≤◌, ◌+◌, vec_len, vec_capacity}
use Rattle.crossbeam_queue.specs.Passes.{IsPassOf}
use Rattle.inbox.specs.Seats.{known, keeping}
use Rattle.inbox.specs.Views.{new_passes}
use Rattle.inbox.proofs.inbox.deal.Given as goal

abbrev pub invariant-loop : goal.invariant-loop
invariant-loop g l = record {
  seat : IsPassOf l.queue l.maker;
  knows : known l.maker ≡ keeping g.S.Shaped.shape l.counter;
  passes : l.put_passes.items ≡ new_passes (record { queue = l.queue.table.shared.table_id; shape = g.S.Shaped.shape }) 0 l.counter;
  len : vec_len l.put_passes ≡ l.counter;
  room : l.puts ≤ vec_capacity l.put_passes;
}

abbrev pub invariant-loop-2 : goal.invariant-loop-2
invariant-loop-2 g l = record {
  seat : IsPassOf l.queue l.maker;
  knows : known l.maker ≡ keeping g.S.Shaped.shape (l.puts + l.counter);
  passes : l.take_passes.items ≡ new_passes (record { queue = l.queue.table.shared.table_id; shape = g.S.Shaped.shape }) l.puts l.counter;
  len : vec_len l.take_passes ≡ l.counter;
  room : l.takes ≤ vec_capacity l.take_passes;
}
