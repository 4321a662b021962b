-- what the digits so far and those to come write is what all write
use Rattle.std.proofs.Common.{◌≡◌, ◌<◌, ◌^◌, drop}
use Rattle.bpf_asm.specs.Numbers.{value_after}
use Rattle.bpf_asm.proofs.number.value_of.Given as goal

abbrev pub invariant-loop-byte : goal.invariant-loop-byte
invariant-loop-byte l = record { fits : l.value < 2 ^ 64; whole : value_after l.radix l.value (drop l.byte-index l.digits) ≡ value_after l.radix 0 l.digits }
