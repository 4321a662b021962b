-- An error of the decoder that is a fault of the bytes.
use Rattle.bpf_decode.specs.declared.fault.DecodeFault.{DecodeFault}
use Rattle.base.specs.declared.or_memory.OrMemory.{OrMemory}
use Rattle.base.specs.declared.or_memory.OrMemory.TheVariants.{OutOfMemory, Fault}

-- P of the fault, if the error is one
abbrev pub IfFault : (DecodeFault → Type 0) → OrMemory DecodeFault → Type 0
IfFault P OutOfMemory = Unit {0}
IfFault P (Fault fault) = P fault
