use Rattle.std.proofs.Common.{◌≡◌, ℕ, ◌<◌, length, false, get_or}
use Rattle.bpf_insn.specs.declared.program.TheConstants.{MAX_SLOTS}
use Rattle.call_shape.specs.Calls.{is_called_in}
use Rattle.call_shape.proofs.functions.called_slots.Given as goal

abbrev pub invariant-loop-place : goal.invariant-loop-place
invariant-loop-place l =
    (length l.called ≡ MAX_SLOTS) × ((slot : ℕ) → slot < MAX_SLOTS → get_or l.called slot false ≡ is_called_in l.program l.place slot)
