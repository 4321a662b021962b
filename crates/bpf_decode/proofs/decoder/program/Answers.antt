use Rattle.std.proofs.Common.{arith, refl}
use Rattle.bpf_decode.proofs.Texts.{SpellsThen-push, one_more_spares, length-layout-push}
use Rattle.bpf_decode.proofs.decoder.program.Goals as goal

pub loop-slot-preserved : goal.loop-slot-preserved
loop-slot-preserved c = record {
  spelled = rw (c.in_ok-push-in-Ok.ensures.ok, c.split_at.ensures.back, c.slots-taken.ensures)
      (SpellsThen-push c.args.bytes.now c.loop-slot.builder c.loop-slot.rest.now c.in-Ok.insn c.loop-slot.invariant.spelled c.in-Ok.ensures.found);
  spares = rw c.in_ok-push-in-Ok.ensures.ok (one_more_spares c.loop-slot.builder c.in-Ok.insn c.loop-slot.invariant.spares c.in-Ok.ensures.spares);
  slots = rw (c.in_ok-push-in-Ok.ensures.ok, length-layout-push c.loop-slot.builder c.in-Ok.insn, c.loop-slot.invariant.slots, c.slots-taken.ensures) refl;
  left = omega (arith, c.split_at.ensures.back_len, c.loop-slot.invariant.left);
}

pub returns-in-Err-clause-fault : goal.returns-in-Err-clause-fault
returns-in-Err-clause-fault c =
    let whole = c.in_ok-slots.ensures.slots in (
      (omega (arith, whole), omega (arith, whole), omega (arith, whole)),
      record {
        insns = c.loop-slot.builder;
        rest = c.loop-slot.rest.now;
        before = c.loop-slot.invariant.spelled;
        spares = c.loop-slot.invariant.spares;
        slots = c.loop-slot.invariant.slots;
        here = omega arith;
        has = c.in-Err.ensures.fault;
      },
    )
