-- Instructions counted with local calls written out, up to where they are too many.
use Rattle.std.specs.Prelude.{◌≡◌, ℕ, ◌+◌, min, List, slice_index, if◌then◌else◌}
use Rattle.std.specs.Option.{option_map_or}
use Rattle.bpf_insn.specs.declared.insn.Insn.{Insn}
use Rattle.bpf_insn.specs.declared.program.Slot.{Slot}
use Rattle.call_shape.specs.Calls.{callee_in}
use Rattle.call_shape.specs.Shape.{behind, is_function_end}
use Rattle.call_shape.specs.WrittenOut.{IsWrittenOut}
use Rattle.call_shape.specs.declared.lawful_shape.TheConstants.{MAX_WRITTEN_OUT}

-- a number, or just too many
abbrev pub capped : ℕ → ℕ
capped count = min count (MAX_WRITTEN_OUT + 1)

-- those from a place to the end of its function, by those from after it and those of what it calls
abbrev pub count_on : List Slot → List ℕ → ℕ → Insn → ℕ
count_on program counts place insn =
    capped ((if is_function_end program (behind place insn) then 0 else slice_index counts (behind place insn)) + option_map_or (slice_index counts) (callee_in place insn) 0 + 1)

-- a count of a function
pub record IsCapped (program : List Slot) (start count : ℕ) : Type 0 where
  pub whole : ℕ
  pub written_out : IsWrittenOut program start whole
  pub same : count ≡ capped whole
