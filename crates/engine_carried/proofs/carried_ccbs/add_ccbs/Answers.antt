use Rattle.std.proofs.Common.{◌<◌, ◌∙◌, length, ap, sym, arith}
use Rattle.engine_beginning.specs.Lines.{ccb_lines}
use Rattle.engine_carried.specs.TakenOver.{ccbs_under}
use Rattle.ccb.specs.declared.ccb.Ccb.{Ccb}
use Rattle.engine_carried.specs.Left.{number_under}
use Rattle.engine_carried.proofs.Adding.{ccb_as, ccb_there, ccbs_count, take_pushed, taken_all}
use Rattle.engine_carried.proofs.carried_ccbs.add_ccbs.Goals as goal

pub loop-place-preserved : goal.loop-place-preserved
loop-place-preserved c =
    let live = c.args.transport.now.live in
    let below : c.loop-place.place < length live = omega (arith, c.loop-place-test.true, c.live_count-place-end.ensures) in
    take_pushed (ccb_lines (ccbs_under c.args.numbering live)) c.loop-place.place _ _ _ _ c.loop-place.invariant c.in_ok-add.ensures
    (omega (arith, below, ccbs_count c.args.numbering live))
    (ccb_there c.args.numbering live c.loop-place.place c.ccb_at-live.result _ below c.ccb_at-live.ensures
    ∙ sym (c.ccb_line.ensures ∙ ap (ccb_as c.ccb_at-live.result) (c.number_under-number.ensures ∙ ap (λ (ccb : Ccb). number_under c.args.numbering ccb.number.0 c.loop-place.place) c.ccb.ensures)))

pub returns : goal.returns
returns c =
    let live = c.args.transport.now.live in
    taken_all (ccb_lines (ccbs_under c.args.numbering live)) c.loop-place.place _ _ c.loop-place.invariant (omega (arith, c.loop-place-test.false, c.live_count-place-end.ensures, ccbs_count c.args.numbering live))
