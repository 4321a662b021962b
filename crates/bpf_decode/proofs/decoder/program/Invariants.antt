use Rattle.std.proofs.Common.{◌≡◌, ◌+◌, ◌*◌, ◌-◌, length}
use Rattle.bpf_insn.specs.Program.{layout, SparesFramePointer}
use Rattle.bpf_decode.specs.Spells.{SpellsThen}
use Rattle.bpf_decode.proofs.decoder.program.Given as goal

abbrev pub invariant-loop-slot : goal.invariant-loop-slot
invariant-loop-slot l = record {
  spelled : SpellsThen l.bytes l.builder l.rest;
  spares : SparesFramePointer l.builder;
  slots : length (layout l.builder) ≡ l.slot;
  left : length l.rest + 8 * l.slot ≡ 8 * l.slots;
}

abbrev pub decreases-loop-slot : goal.decreases-loop-slot
decreases-loop-slot l = l.slots - l.slot
