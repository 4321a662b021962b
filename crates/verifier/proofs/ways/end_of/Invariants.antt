use Rattle.std.proofs.Common.{◌≡◌, ℕ, ◌<◌, ◌≤◌, length, Some}
use Rattle.bpf_insn.specs.declared.insn.Insn.{Insn}
use Rattle.bpf_insn.specs.Program.{insn_at}
use Rattle.verifier.specs.Function.{LeadsBelow}
use Rattle.verifier.proofs.ways.end_of.Given as goal

-- the places so far lead to places before the end
abbrev pub invariant-loop-place : goal.invariant-loop-place
invariant-loop-place l = record {
  some : l.start < l.end;
  inside : l.end ≤ length l.program;
  so_far : l.place ≤ l.end;
  closed : (place : ℕ) (insn : Insn) → l.start ≤ place → place < l.place → insn_at l.program place ≡ Some insn → LeadsBelow place insn l.end;
}
