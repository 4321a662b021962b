use Rattle.std.proofs.Common.{◌≡◌, ◌<◌, ◌∙◌, length, false, true, refl, sym, arith}
use Rattle.engine_carried.proofs.Free.{is_plain_here, plain_here, plain_more}
use Rattle.engine_carried.proofs.fitting.are_plain.Goals as goal

pub returns-then-not-has_no_words : goal.returns-then-not-has_no_words
returns-then-not-has_no_words c =
    let below : c.loop-place.place < length c.args.transport.now.live = omega (arith, c.loop-place-test.true, c.live_count-place-end.ensures) in (
      λ yes_. absurd (let bad : false ≡ true = yes_ in cc),
      λ all. sym c.if-not-has_no_words.true ∙ c.has_no_words.ensures.1 (is_plain_here c.args.transport.now.live c.loop-place.place c.ccb_at.result c.ccb.result c.ccb_at.ensures c.ccb.ensures (all c.loop-place.place c.ccb_at.result below)),
    )

pub loop-place-preserved : goal.loop-place-preserved
loop-place-preserved c =
    let below : c.loop-place.place < length c.args.transport.now.live = omega (arith, c.loop-place-test.true, c.live_count-place-end.ensures) in
    plain_more c.args.transport.now.live c.loop-place.place c.loop-place.invariant
    (plain_here c.args.transport.now.live c.loop-place.place c.ccb_at.result c.ccb.result below c.ccb_at.ensures c.ccb.ensures (c.has_no_words.ensures.0 c.if-not-has_no_words.false))

pub returns : goal.returns
returns c = (
  λ yes_ k d below. c.loop-place.invariant k d (omega (arith, below, c.loop-place-test.false, c.live_count-place-end.ensures)),
  λ all. refl,
)
