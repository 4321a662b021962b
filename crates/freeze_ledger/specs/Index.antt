-- The deadlines of an index, and which of them comes first.
use Rattle.std.specs.Prelude.{◌≡◌, ℕ, ◌≤◌, Bool, ◌==◌}
use Rattle.std.specs.Ordering.{nat_cmp, ordering_then}
use Rattle.std.specs.declared.cmp.Ordering.{Ordering}
use Rattle.std.specs.declared.cmp.Reverse.{Reverse}
use Rattle.freeze_ledger.specs.declared.deadline.Deadline.{Deadline}

abbrev pub turned : Deadline → Reverse Deadline
turned it = record { 0 = it }

-- it bears this key
abbrev pub under : ℕ → Reverse Deadline → Bool
under key it = it.0.key == key

-- this deadline comes no later than one of the index: it is due earlier, or at the same time and its number is not higher
pub record IsNoLater (first : Deadline) (it : Reverse Deadline) : Type 0 where
  pub no_later : first.due ≤ it.0.due
  pub no_higher : first.due ≡ it.0.due → first.number ≤ it.0.number

-- the order of the heap, whose greatest comes first
abbrev pub sooner : Reverse Deadline → Reverse Deadline → Ordering
sooner one other =
    ordering_then (nat_cmp other.0.due one.0.due) (ordering_then (nat_cmp other.0.number one.0.number) (nat_cmp other.0.key one.0.key))
