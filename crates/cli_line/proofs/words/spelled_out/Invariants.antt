use Rattle.std.proofs.Common.{◌≡◌, ℕ, List, Bor, map, string_bytes, take}
use Rattle.cli_line.specs.RunLine.{spelled_out}
use Rattle.cli_line.proofs.words.spelled_out.Given as goal

-- those before this one are spelled out
abbrev pub invariant-loop-word : goal.invariant-loop-word
invariant-loop-word l = map (λ (word : Bor (List ℕ)). word.now) l.spelled.items ≡ map spelled_out (map string_bytes (take l.word-index l.words))
