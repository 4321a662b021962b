-- the tokens so far and those of what is left are those of the line
use Rattle.std.proofs.Common.{◌≡◌, ◌≤◌, ◌+◌, ◌-◌, ◌++◌, length}
use Rattle.std.specs.List.{list_all}
use Rattle.bpf_asm.specs.Lexemes.{lexemes, spans}
use Rattle.bpf_asm.specs.Numbers.{is_token}
use Rattle.bpf_asm.proofs.token.push_tokens.Given as goal

abbrev pub invariant-loop-word : goal.invariant-loop-word
invariant-loop-word l = record {
  within : length l.rest ≤ length l.text;
  tested : list_all is_token (lexemes l.rest) ≡ list_all is_token (lexemes l.text);
  placed : l.tokens.items ++ spans (l.place + (length l.text - length l.rest)) l.rest ≡ l.fn.tokens.items ++ spans l.place l.text;
}

abbrev pub decreases-loop-word : goal.decreases-loop-word
decreases-loop-word l = length l.rest
