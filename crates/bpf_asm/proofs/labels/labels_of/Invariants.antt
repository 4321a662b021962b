-- where a label is defined first: in the lines so far, or else in the others
use Rattle.std.proofs.Common.{◌≡◌, ◌≤◌, ◌+◌, ◌*◌, ℕ, List, length}
use Rattle.bpf_asm.specs.Lexemes.{lines}
use Rattle.bpf_asm.specs.Labels.{label_at, first_of}
use Rattle.bpf_asm.specs.Assembly.{defined_in}
use Rattle.bpf_asm.proofs.labels.labels_of.Given as goal

abbrev pub invariant-loop-rest : goal.invariant-loop-rest
invariant-loop-rest l = record {
  line_fits : l.line + length l.rest ≤ length l.text + 1;
  slot_fits : l.slot + 2 * length l.rest ≤ 2 * length l.text;
  first : (name : List ℕ) → first_of (label_at l.labels name) (defined_in l.line l.slot (lines l.rest) name) ≡ defined_in 1 0 (lines l.text) name;
}

abbrev pub decreases-loop-rest : goal.decreases-loop-rest
decreases-loop-rest l = length l.rest
