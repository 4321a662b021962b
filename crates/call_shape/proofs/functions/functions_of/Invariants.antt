use Rattle.std.proofs.Common.{◌≡◌, ℕ, ◌<◌, length, get_or}
use Rattle.bpf_insn.specs.declared.program.TheConstants.{MAX_SLOTS}
use Rattle.call_shape.specs.Calls.{function_of}
use Rattle.call_shape.proofs.functions.functions_of.Given as goal

abbrev pub invariant-loop-slot : goal.invariant-loop-slot
invariant-loop-slot l =
    (length l.functions ≡ MAX_SLOTS) × ((k : ℕ) → k < l.slot → get_or l.functions k 0 ≡ function_of l.program k)
