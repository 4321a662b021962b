use Rattle.std.proofs.Common.{◌<◌, ◌∙◌, length, ap, sym, arith}
use Rattle.engine_beginning.specs.Lines.{freeze_lines}
use Rattle.engine_carried.specs.TakenOver.{freezes_under}
use Rattle.engine_carried.proofs.Adding.{freeze_as, freeze_there, freezes_count, take_pushed, taken_all}
use Rattle.engine_carried.proofs.carried_freezes.add_freezes.Goals as goal

pub loop-place-preserved : goal.loop-place-preserved
loop-place-preserved c =
    let freezes = c.args.transport.now.freezes in
    let below : c.loop-place.place < length freezes = omega (arith, c.loop-place-test.true, c.frozen-place-end.ensures.value) in (
      take_pushed (freeze_lines (freezes_under c.args.numbering freezes)) c.loop-place.place _ _ _ _ c.loop-place.invariant.0 c.in_ok-add.ensures
          (omega (arith, below, freezes_count c.args.numbering freezes))
          (freeze_there c.args.numbering freezes c.loop-place.place c.freeze_after-freeze.result _ below c.freeze_after-freeze.ensures.freeze
          ∙ sym (c.freeze_line.ensures ∙ ap (freeze_as c.freeze_after-freeze.result) c.number_under-number.ensures)),
      c.freeze_after-freeze.ensures.number,
    )

pub returns : goal.returns
returns c =
    let freezes = c.args.transport.now.freezes in
    taken_all (freeze_lines (freezes_under c.args.numbering freezes)) c.loop-place.place _ _ c.loop-place.invariant.0 (omega (arith, c.loop-place-test.false, c.frozen-place-end.ensures.value, freezes_count c.args.numbering freezes))
