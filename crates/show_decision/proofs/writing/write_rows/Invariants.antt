-- the rows so far are out
use Rattle.std.proofs.Common.{map, string_bytes, take}
use Rattle.std.specs.List.{flat_map}
use Rattle.std.specs.Io.KnownBytes.{Appends}
use Rattle.show_decision.specs.RowTexts.{line_text}
use Rattle.show_decision.proofs.writing.write_rows.Given as goal

abbrev pub invariant-loop-row : goal.invariant-loop-row
invariant-loop-row g l =
    Appends (g.W.Write.contents l.fn.out) (g.W.Write.contents l.out) (flat_map (line_text l.heading (map string_bytes l.decisions.texts.items)) (take l.row-index l.rows))
