-- the tokens of the lines so far and those of the others are those of the text
use Rattle.std.proofs.Common.{◌≡◌, ◌<◌, ◌≤◌, ◌+◌, length}
use Rattle.bpf_asm.specs.Lexemes.{lines}
use Rattle.bpf_asm.specs.Tokens.{tokens_in, tokens_of}
use Rattle.bpf_asm.proofs.Fronts.{with_front}
use Rattle.bpf_asm.proofs.token.tokens.Given as goal

abbrev pub invariant-loop-rest : goal.invariant-loop-rest
invariant-loop-rest l = record {
  line_fits : l.line + length l.rest ≤ length l.text + 1;
  place_fits : l.place + length l.rest ≤ length l.text + 1;
  place_behind : 0 < length l.rest → l.place + length l.rest ≤ length l.text;
  whole : with_front l.tokens.items (tokens_in l.line l.place (lines l.rest)) ≡ tokens_of l.text;
}

abbrev pub decreases-loop-rest : goal.decreases-loop-rest
decreases-loop-rest l = length l.rest
