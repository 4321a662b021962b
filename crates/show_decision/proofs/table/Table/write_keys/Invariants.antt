-- the rows of the keys so far are out
use Rattle.std.proofs.Common.{ℕ, List}
use Rattle.std.specs.Io.KnownBytes.{Appends}
use Rattle.show_decision.specs.Table.{AreKeyTexts}
use Rattle.show_decision.proofs.table.Table.write_keys.Given as goal

abbrev pub invariant-loop-key : goal.invariant-loop-key
invariant-loop-key g l =
    (text : List ℕ) × AreKeyTexts l.self.config.now l.self.lines.items l.self.failure l.self.response l.key text × Appends (g.W.Write.contents l.fn.out) (g.W.Write.contents l.out) text
