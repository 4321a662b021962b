use Rattle.std.proofs.Common.{◌≡◌, ◌≤◌, ◌<◌, ℕ, length}
use Rattle.std.specs.Prelude.{slice_index_or}
use Rattle.bpf_stack_frame.specs.Frame.{unwritten}
use Rattle.bpf_stack_frame.proofs.frames.Frames.copy_from.Given as goal

-- the frames before k are the other's, and those from k on are as they were
abbrev pub invariant-loop-k : goal.invariant-loop-k
invariant-loop-k l = record {
  whole : length l.self-inside.frames ≡ 8;
  copied : (j : ℕ) → j < l.k → slice_index_or l.self-inside.frames j unwritten ≡ slice_index_or l.other-inside.frames j unwritten;
  left : (j : ℕ) → l.k ≤ j → slice_index_or l.self-inside.frames j unwritten ≡ slice_index_or l.initial.self-inside.frames j unwritten;
}
