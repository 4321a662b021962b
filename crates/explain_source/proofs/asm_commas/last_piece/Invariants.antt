use denote.Text.{Utf8}
use denote.Shadow.{shadow}
use Rattle.explain_source.proofs.asm_commas.last_piece.Given as goal

-- what it has is text
abbrev pub invariant-loop-piece : goal.invariant-loop-piece
invariant-loop-piece l = shadow (Utf8 l.last)
