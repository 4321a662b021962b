-- How many instructions a program has with every local call written out, reached or not.
use Rattle.std.specs.Prelude.{◌≡◌, ℕ, zero, suc, ◌+◌, ◌==◌, List, length, Option, Some, None, if◌then◌else◌}
use Rattle.std.specs.Option.{option_map_or}
use Rattle.bpf_insn.specs.declared.insn.Insn.{Insn}
use Rattle.bpf_insn.specs.declared.program.Slot.{Slot}
use Rattle.bpf_insn.specs.Program.{insn_at}
use Rattle.call_shape.specs.Calls.{callee_in, function_of}

-- the sum of the values of the first n places
abbrev pub total : (ℕ → ℕ) → ℕ → ℕ
total value zero = 0
total value (suc n) = total value n + value n

-- an instruction counts once, and a local call also what it calls
abbrev pub count_at : (ℕ → ℕ) → ℕ → Option Insn → ℕ
count_at callee_counts place None = 0
count_at callee_counts place (Some insn) = 1 + option_map_or callee_counts (callee_in place insn) 0

-- the instructions of the function that starts at a slot, with local calls written out so many deep
abbrev pub written_out : ℕ → List Slot → ℕ → ℕ
written_out zero program start = 0
written_out (suc deep) program start =
    total (λ place. if function_of program place == start then count_at (written_out deep program) place (insn_at program place) else 0) (length program)

-- from some depth on there are just so many, however deep the calls are written out
pub record IsWrittenOut (program : List Slot) (start count : ℕ) : Type 0 where
  pub depth : ℕ
  pub settled : (more : ℕ) → written_out (depth + more) program start ≡ count
