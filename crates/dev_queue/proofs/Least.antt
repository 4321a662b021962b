-- The least of a list of waiting CCBs is one.
use Rattle.std.proofs.Common.{◌≡◌, arith}
use Rattle.std.proofs.lemmas.List.Elements.{All-contains}
use Rattle.dev_queue.specs.Waiting.{StartsFirst, LeastIsOne}

pub least_is_one : LeastIsOne
least_is_one pairs one other is_one is_other =
    let forth = All-contains (StartsFirst one) pairs other is_one.first is_other.waits in
    let back = All-contains (StartsFirst other) pairs one is_other.first is_one.waits in
    let priority : one.priority ≡ other.priority = omega (arith, forth.0, back.0) in
    let number : one.number.0 ≡ other.number.0 = omega (arith, forth.1, back.1, priority) in
    λ i. record { priority = priority i; number = record { 0 = number i } }
