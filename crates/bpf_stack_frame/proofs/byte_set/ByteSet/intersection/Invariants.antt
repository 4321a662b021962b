use Rattle.std.proofs.Common.{◌≡◌, ℕ, ◌<◌, ◌≤◌, length}
use Rattle.std.specs.Prelude.{bit_and, slice_index}
use Rattle.bpf_stack_frame.proofs.byte_set.ByteSet.intersection.Given as goal

-- eight words, of which those before k are the and of both and the others are still the first set's
abbrev pub invariant-loop-k : goal.invariant-loop-k
invariant-loop-k l =
    (length l.words ≡ 8)
    × ((j : ℕ) → j < l.k → slice_index l.words j ≡ bit_and (slice_index l.initial.words j) (slice_index l.others j))
    × ((j : ℕ) → l.k ≤ j → slice_index l.words j ≡ slice_index l.initial.words j)
