-- what was read so far are tokens
use Rattle.std.proofs.Common.{◌≡◌, length}
use Rattle.std.specs.List.{list_all}
use Rattle.bpf_asm.specs.Lexemes.{lexemes}
use Rattle.bpf_asm.specs.Numbers.{is_token}
use Rattle.bpf_asm.proofs.statement.has_tokens_alone.Given as goal

abbrev pub invariant-loop-word : goal.invariant-loop-word
invariant-loop-word l = list_all is_token (lexemes l.rest) ≡ list_all is_token (lexemes l.line)

abbrev pub decreases-loop-word : goal.decreases-loop-word
decreases-loop-word l = length l.rest
