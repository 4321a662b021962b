-- the digits of the bytes so far
use Rattle.std.proofs.Common.{◌≡◌, ◌++◌, take, codes, string_bytes}
use Rattle.std.specs.Prelude.{flat_map}
use Rattle.bpf_asm.specs.Canon.{byte_text}
use Rattle.bpf_asm.proofs.disassembler.put_word.Given as goal

abbrev pub invariant-loop-byte : goal.invariant-loop-byte
invariant-loop-byte l = string_bytes l.text ≡ string_bytes l.fn.text ++ (codes "0x" ++ flat_map byte_text (take l.byte-index l.byte-items))
