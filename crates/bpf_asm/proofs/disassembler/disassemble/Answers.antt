use Rattle.std.proofs.Common.{arith, sym, ◌∙◌}
use Rattle.bpf_asm.proofs.Printing.{one_more, no_more, all_printed}
use Rattle.bpf_asm.proofs.disassembler.disassemble.Goals.{in-Some+in_ok-put_insn, in_default}
use Rattle.bpf_asm.proofs.disassembler.disassemble.Goals as goal

pub loop-place-preserved : goal.loop-place-preserved
loop-place-preserved c = elim c.match-fetch.branch [
  | in-Some+in_ok-put_insn w ↦ rw (w.text-is, w.in_ok-put_insn.ensures.printed) (one_more _ c.args.program.now c.loop-place.place w.in-Some.insn (sym w.in-Some.ensures.value) w.in_ok-put_insn.ensures.numbers c.loop-place.invariant)
  | in_default w ↦ rw w.text-is (no_more _ c.args.program.now c.loop-place.place (sym c.fetch.ensures.value ∙ w.in_default.is) c.loop-place.invariant)
]

pub returns : goal.returns
returns c =
    let said = all_printed _ c.args.program.now c.loop-place.place (omega arith) c.len-place-end.ensures.program c.loop-place.invariant in
    record { printed = said.0; says = said.1 }
