use Rattle.std.proofs.Common.{rules, arith, refl, []}
use Rattle.std.proofs.lemmas.Result.{err_from_is_err_and}
use Rattle.scenario.specs.Said.{lines_of}
use Rattle.scenario.proofs.SoFar.{cut, shorter, uncut, first_faulty, one_more, all_said}
use Rattle.scenario.proofs.reading.read.Goals as goal

pub returns-in_err-keep-clause-faulty : goal.returns-in_err-keep-clause-faulty
returns-in_err-keep-clause-faulty c =
    let first = cut c.loop-line.rest.now c.in-Some.line c.in-Some.behind c.in-Some.ensures.cases in
    let p = err_from_is_err_and c.from_residual.result c.from_residual.ensures.1 in
    rw (p.1, p.2) (first_faulty c.args.version c.args.text.now c.loop-line.calls.items c.loop-line.rest.now c.loop-line.number c.loop-line.invariant.so_far c.in-Some.line.now (lines_of c.in-Some.behind.now) first c.in_err-keep.field-0.0 c.in_err-keep.ensures)

pub loop-line-preserved : goal.loop-line-preserved
loop-line-preserved c =
    let first = cut c.loop-line.rest.now c.in-Some.line c.in-Some.behind c.in-Some.ensures.cases in
    record {
      so_far = one_more c.args.version c.args.text.now c.loop-line.calls.items c.loop-line.rest.now c.loop-line.number c.loop-line.invariant.so_far c.in-Some.line.now (lines_of c.in-Some.behind.now) first c.in_ok-keep.ensures.0 c.in_ok-keep.ensures.2 c.keep.new.calls.items c.in_ok-keep.ensures.1 c.in-Some.behind.now refl;
      fits = omega (arith, c.loop-line.invariant.fits, shorter c.loop-line.rest.now c.in-Some.line c.in-Some.behind c.in-Some.ensures.cases);
      text = search rules;
    }

pub returns-in_err-keep-2-clause-faulty : goal.returns-in_err-keep-2-clause-faulty
returns-in_err-keep-2-clause-faulty c =
    let first = uncut c.loop-line.rest.now c.in_default.ensures.cases in
    let p = err_from_is_err_and c.from_residual-in_err-keep-2.result c.from_residual-in_err-keep-2.ensures.1 in
    rw (p.1, p.2) (first_faulty c.args.version c.args.text.now c.loop-line.calls.items c.loop-line.rest.now c.loop-line.number c.loop-line.invariant.so_far c.loop-line.rest.now [] first c.in_err-keep-2.field-0.0 c.in_err-keep-2.ensures)

pub returns-clause-said : goal.returns-clause-said
returns-clause-said c =
    let first = uncut c.loop-line.rest.now c.in_default.ensures.cases in
    all_said c.args.version c.args.text.now c.loop-line.calls.items c.loop-line.rest.now c.loop-line.number c.loop-line.invariant.so_far c.loop-line.rest.now [] first c.in_ok-keep-2.ensures.0 c.in_ok-keep-2.ensures.2 c.keep-2.new.calls.items c.in_ok-keep-2.ensures.1 refl
