-- Each register is one of eleven.
use Rattle.std.proofs.Common.{◌<◌, arith}
use Rattle.bpf_insn.specs.declared.reg.Reg.{Reg}
use Rattle.bpf_insn.specs.declared.reg.Reg.TheVariants.{R0, R1, R2, R3, R4, R5, R6, R7, R8, R9, R10}
use Rattle.bpf_insn.specs.Reg.{number_of}

pub number_below : (reg : Reg) → number_of reg < 11
number_below R0 = omega arith
number_below R1 = omega arith
number_below R2 = omega arith
number_below R3 = omega arith
number_below R4 = omega arith
number_below R5 = omega arith
number_below R6 = omega arith
number_below R7 = omega arith
number_below R8 = omega arith
number_below R9 = omega arith
number_below R10 = omega arith
