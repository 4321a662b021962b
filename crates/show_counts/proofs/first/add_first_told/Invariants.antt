-- the table has what it had, or else what the records so far tell, and the others are those that are left
use Rattle.std.proofs.Common.{◌≡◌, ℕ, ◌++◌, map}
use Rattle.show_counts.specs.Columns.{at, first_told, or_later}
use Rattle.show_counts.specs.Told.{told_by}
use Rattle.show_counts.proofs.first.add_first_told.Given as goal

abbrev pub invariant-loop-record : goal.invariant-loop-record
invariant-loop-record l =
    ((number : ℕ) → at l.table number ≡ or_later (at l.fn.table number) (first_told (told_by l.fn.tells) number (map (λ it. it.now) l.yielded)))
    × (map (λ it. it.now) l.yielded ++ l.record-iterator ≡ l.fn.records.items)
