-- each cell counts the records so far, and the others are those that are left
use Rattle.std.proofs.Common.{◌≡◌, ◌++◌, map}
use Rattle.show_counts.specs.Columns.{AreCounts, cell_by}
use Rattle.show_counts.specs.Told.{told_by}
use Rattle.show_counts.proofs.tally.tally.Given as goal

abbrev pub invariant-loop-record : goal.invariant-loop-record
invariant-loop-record l =
    AreCounts (λ it. cell_by l.fn.rows l.fn.found.ccbs.now l.fn.found.runs.now l.fn.columns (told_by l.fn.tells it)) l.fn.cells (map (λ it. it.now) l.yielded) l.counts.items
    × (map (λ it. it.now) l.yielded ++ l.record-iterator ≡ l.fn.records.items)
