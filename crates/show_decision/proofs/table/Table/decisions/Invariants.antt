-- what is decided of the codes so far
use Rattle.std.proofs.Common.{map, string_bytes}
use Rattle.show_decision.specs.Numbered.{AreFound}
use Rattle.show_decision.specs.Table.{AreDecided}
use Rattle.show_decision.proofs.table.Table.decisions.Given as goal

abbrev pub invariant-loop-code : goal.invariant-loop-code
invariant-loop-code l = record {
  found : AreFound l.decisions.places (map string_bytes l.decisions.texts.items);
  decided : AreDecided l.self.config.now l.self.lines.items l.self.failure l.self.response l.key l.code l.decisions.numbers.items (map string_bytes l.decisions.texts.items);
}
