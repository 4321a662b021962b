use Rattle.std.proofs.Common.{◌≡◌, length, sym, ◌∙◌, arith}
use Rattle.std.proofs.lemmas.Bool.{eqb-true}
use Rattle.bpf_asm.specs.Labels.{label_at}
use Rattle.bpf_asm.proofs.Fronts.{said_go_on, said_fails, said_end, spares_go_on}
use Rattle.bpf_asm.proofs.assembler.insns_of.Goals as goal

pub loop-rest-preserved : goal.loop-rest-preserved
loop-rest-preserved c =
    let first = c.first_line.ensures in
    let before = c.loop-rest.invariant in
    record {
      line_fits = omega (arith, first.shorter, before.line_fits);
      slot_fits = omega (arith, first.fits, c.slots_of-slot.ensures.bound, before.slot_fits);
      spares = rw c.in_ok-push-in-Ok.ensures (spares_go_on c.loop-rest.builder c.in-Ok.insn before.spares c.in-Ok.ensures.spares);
      whole = said_go_on (label_at c.args.labels.now) c.in-Ok.insn c.loop-rest.builder _ c.loop-rest.line c.loop-rest.slot _ c.loop-rest.rest.now _ _ _ first.lines (sym c.in-Ok.ensures.said) c.slots_of-slot.ensures.slots c.in_ok-push-in-Ok.ensures before.whole;
    }

pub returns-in-Err-clause-said : goal.returns-in-Err-clause-said
returns-in-Err-clause-said c = said_fails (label_at c.args.labels.now) c.in-Err.fault c.loop-rest.builder c.loop-rest.line c.loop-rest.slot c.loop-rest.rest.now _ _ _ c.first_line.ensures.lines (sym c.in-Err.ensures.said) c.loop-rest.invariant.whole

pub returns-clause-said : goal.returns-clause-said
returns-clause-said c =
    let ended : length c.loop-rest.rest.now ≡ 0 = eqb-true _ _ (sym c.is_empty.ensures ∙ c.loop-rest-test.false) in
    sym c.loop-rest.invariant.whole ∙ said_end (label_at c.args.labels.now) c.loop-rest.builder c.loop-rest.line c.loop-rest.slot c.loop-rest.rest.now ended
