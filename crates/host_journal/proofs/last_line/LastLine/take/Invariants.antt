-- what was taken so far is scanned
use Rattle.std.proofs.Common.{◌++◌, ℕ, List, take}
use Rattle.host_journal.specs.Texts.{IsScanned}
use Rattle.host_journal.proofs.last_line.LastLine.take.Given as goal

abbrev pub invariant-loop-byte : goal.invariant-loop-byte
invariant-loop-byte l = (before : List ℕ) → IsScanned before l.initial.self.line l.initial.self.is_long l.initial.self.is_end → IsScanned (before ++ take l.byte-index l.bytes) l.self.line l.self.is_long l.self.is_end
