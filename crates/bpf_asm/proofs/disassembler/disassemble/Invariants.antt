-- the lines of the instructions up to this place
use Rattle.std.proofs.Common.{take, string_bytes}
use Rattle.bpf_insn.specs.Program.{insns_in}
use Rattle.bpf_asm.proofs.Printing.{ArePrinted}
use Rattle.bpf_asm.proofs.disassembler.disassemble.Given as goal

abbrev pub invariant-loop-place : goal.invariant-loop-place
invariant-loop-place l = ArePrinted (string_bytes l.text) (insns_in (take l.place l.program))
