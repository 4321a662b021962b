-- the instructions of the lines so far and those of the others are those of the text
use Rattle.std.proofs.Common.{◌≡◌, ◌≤◌, ◌+◌, ◌*◌, length}
use Rattle.bpf_insn.specs.Program.{SparesFramePointer}
use Rattle.bpf_asm.specs.Lexemes.{lines}
use Rattle.bpf_asm.specs.Labels.{label_at}
use Rattle.bpf_asm.specs.Assembly.{said_in}
use Rattle.bpf_asm.proofs.Fronts.{with_front}
use Rattle.bpf_asm.proofs.assembler.insns_of.Given as goal

abbrev pub invariant-loop-rest : goal.invariant-loop-rest
invariant-loop-rest l = record {
  line_fits : l.line + length l.rest ≤ length l.text + 1;
  slot_fits : l.slot + 2 * length l.rest ≤ 2 * length l.text;
  spares : SparesFramePointer l.builder;
  whole : with_front l.builder (said_in (label_at l.labels) l.line l.slot (lines l.rest)) ≡ said_in (label_at l.labels) 1 0 (lines l.text);
}

abbrev pub decreases-loop-rest : goal.decreases-loop-rest
decreases-loop-rest l = length l.rest
