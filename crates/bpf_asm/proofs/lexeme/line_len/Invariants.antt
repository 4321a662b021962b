-- what was counted, and what is still to count, make the whole
use Rattle.std.proofs.Common.{◌≡◌, ◌+◌, ◌-◌, ◌≤◌, length, drop, not}
use Rattle.std.specs.List.{prefix_len}
use Rattle.bpf_asm.specs.Bytes.{is_line_feed}
use Rattle.bpf_asm.proofs.lexeme.line_len.Given as goal

abbrev pub invariant-loop-len : goal.invariant-loop-len
invariant-loop-len l = record { within : l.len ≤ length l.text; counted : l.len + prefix_len (λ byte. not (is_line_feed byte)) (drop l.len l.text) ≡ prefix_len (λ byte. not (is_line_feed byte)) l.text }

abbrev pub decreases-loop-len : goal.decreases-loop-len
decreases-loop-len l = length l.text - l.len
