-- what was counted, and what is still to count, make the whole
use Rattle.std.proofs.Common.{◌≡◌, ◌+◌, ◌-◌, ◌≤◌, length, drop}
use Rattle.std.specs.List.{prefix_len}
use Rattle.bpf_asm.specs.Bytes.{is_word}
use Rattle.bpf_asm.proofs.lexeme.word_len.Given as goal

abbrev pub invariant-loop-len : goal.invariant-loop-len
invariant-loop-len l = record { within : l.len ≤ length l.bytes; counted : l.len + prefix_len is_word (drop l.len l.bytes) ≡ prefix_len is_word l.bytes }

abbrev pub decreases-loop-len : goal.decreases-loop-len
decreases-loop-len l = length l.bytes - l.len
