use Rattle.std.proofs.Common.{◌<◌, ◌∙◌, arith, length, sym}
use Rattle.host_trial.specs.Submitted.{is_submission}
use Rattle.host_trial.proofs.Counted.{no_more, one_more}
use Rattle.host_trial.proofs.submissions.submissions.Goals as goal
use Rattle.host_trial.proofs.submissions.submissions.Goals.{then-is_submission, else-is_submission}

pub loop-place-preserved : goal.loop-place-preserved
loop-place-preserved c =
    let items = c.args.records.now.items in
    let within : c.loop-place.place < length items = omega (arith, c.loop-place-test.true, c.len-place-end.ensures) in
    elim c.if-is_submission.branch [
      | then-is_submission w ↦
          let total = one_more (is_submission c.args.queue) items c.loop-place.place c.index.result.now within c.index.ensures (sym c.is_submission.ensures ∙ w.if-is_submission.true) in
          (omega (arith, w.count-is, c.loop-place.invariant.0, total), omega (arith, w.count-is, c.loop-place.invariant.1))
      | else-is_submission w ↦
          let total = no_more (is_submission c.args.queue) items c.loop-place.place c.index.result.now within c.index.ensures (sym c.is_submission.ensures ∙ w.if-is_submission.false) in
          (omega (arith, w.count-is, c.loop-place.invariant.0, total), omega (arith, w.count-is, c.loop-place.invariant.1))
    ]
