use Rattle.std.proofs.Common.{take, []}
use Rattle.bpf_insn.specs.Program.{insns_in}
use Rattle.bpf_decode.specs.Spells.{SpellsThen, AreBytes}
use Rattle.bpf_decode.proofs.encoder.encode.Given as goal

abbrev pub invariant-loop-place : goal.invariant-loop-place
invariant-loop-place l = record {
  in_a_row : SpellsThen l.bytes.items (insns_in (take l.place l.program)) [];
  are_bytes : AreBytes l.bytes.items;
}
