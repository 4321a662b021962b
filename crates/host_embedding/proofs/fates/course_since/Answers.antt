use Rattle.std.proofs.Common.{◌<◌, arith, length}
use Rattle.host_embedding.proofs.Courses.{all_of_them, one_more}
use Rattle.host_embedding.proofs.fates.course_since.Goals as goal

pub loop-number-preserved : goal.loop-number-preserved
loop-number-preserved c =
    let within : c.loop-number.number < length c.args.engine.now.history = omega (arith, c.loop-number-test.true, c.recorded-number-end.ensures) in
    record {
      onwards = omega (arith, c.loop-number.invariant.onwards);
      within = omega (arith, within);
      so = one_more c.args.run _ c.loop-number.course _ c.args.engine.now.history c.args.was c.loop-number.number c.entry.result.now c.loop-number.invariant.onwards within c.entry.ensures c.loop-number.invariant.so c.course_after-course.ensures;
    }

pub returns : goal.returns
returns c =
    all_of_them c.args.run _ c.args.engine.now.history c.args.was c.loop-number.number c.loop-number.course (omega (arith, c.loop-number-test.false, c.recorded-number-end.ensures)) c.loop-number.invariant.so
