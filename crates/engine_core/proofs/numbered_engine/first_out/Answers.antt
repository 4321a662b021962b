use Rattle.std.proofs.Common.{◌<◌, length, refl, sym, ◌∙◌, arith}
use Rattle.engine_core.proofs.Numbered.{none_out, out_first, parked_first, run_there}
use Rattle.engine_core.proofs.numbered_engine.first_out.Goals as goal

pub loop-place-init : goal.loop-place-init
loop-place-init c = refl

pub is_out-requires : goal.is_out-requires
is_out-requires c =
    let within : c.loop-place.place < length c.args.runs.now.runs.list = omega (arith, c.loop-place-test.true, c.len-place-end.ensures.runs) in
    run_there c.args.runs.now.runs.list c.loop-place.place within

pub number-requires : goal.number-requires
number-requires c =
    let within : c.loop-place.place < length c.args.runs.now.runs.list = omega (arith, c.loop-place-test.true, c.len-place-end.ensures.runs) in
    run_there c.args.runs.now.runs.list c.loop-place.place within

pub loop-place-preserved : goal.loop-place-preserved
loop-place-preserved c =
    let list = c.args.runs.now.runs.list in
    let within : c.loop-place.place < length list = omega (arith, c.loop-place-test.true, c.len-place-end.ensures.runs) in
    let there = run_there list c.loop-place.place within in
    c.loop-place.invariant ∙ parked_first list c.loop-place.place there.0 there.1 (sym (c.is_out.ensures there.0 there.1) ∙ c.if-is_out.false)

pub returns-then-is_out : goal.returns-then-is_out
returns-then-is_out c =
    let list = c.args.runs.now.runs.list in
    let within : c.loop-place.place < length list = omega (arith, c.loop-place-test.true, c.len-place-end.ensures.runs) in
    let there = run_there list c.loop-place.place within in
    rw (c.number.ensures there.0 there.1) (sym (c.loop-place.invariant ∙ out_first list c.loop-place.place there.0 there.1 (sym (c.is_out.ensures there.0 there.1) ∙ c.if-is_out.true)))

pub returns : goal.returns
returns c =
    let list = c.args.runs.now.runs.list in
    sym (c.loop-place.invariant ∙ none_out list c.loop-place.place (omega (arith, c.loop-place-test.false, c.len-place-end.ensures.runs)))
