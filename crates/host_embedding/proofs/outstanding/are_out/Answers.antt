use Rattle.std.proofs.Common.{◌∙◌, arith, sym}
use Rattle.host_embedding.proofs.Standing.{added, skipped, there}
use Rattle.host_embedding.proofs.outstanding.are_out.Goals as goal
use Rattle.host_embedding.proofs.outstanding.are_out.Goals.{then-is_out+else-not-is_next, else-is_out}

pub loop-place-preserved : goal.loop-place-preserved
loop-place-preserved c =
    let runs = c.args.runs.now.runs.list in
    let handles = c.args.handles.now in
    let place = c.loop-place.place in
    let count = c.loop-place.count in
    let at = there runs place (omega (arith, c.loop-place-test.true, c.loop-place.auto.place-end, c.len-place-end.ensures.runs)) in
    elim c.if-is_out.branch [
      | then-is_out+else-not-is_next w ↦ rw w.count-is (added runs handles place count at.0 c.loop-place.invariant at.1 (sym (c.is_out.ensures at.0 at.1) ∙ w.if-is_out.true) (w.is_next.ensures w.if-not-is_next.false))
      | else-is_out w ↦ rw w.count-is (skipped runs handles place count at.0 c.loop-place.invariant at.1 (sym (c.is_out.ensures at.0 at.1) ∙ w.if-is_out.false))
    ]
