use Rattle.std.proofs.Common.{◌≡◌, vec_len}
use Rattle.std.specs.List.{All}
use Rattle.inbox.specs.Views.{IsOf}
use Rattle.test_threads.proofs.inboxes.puts_below.Given as goal

abbrev pub invariant-loop-number : goal.invariant-loop-number
invariant-loop-number g l = record { len : vec_len l.puts ≡ vec_len l.initial.puts; ours : All (IsOf l.inbox) l.puts.items }
