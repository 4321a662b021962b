use Rattle.std.proofs.Common.{◌≡◌, ◌<◌, ◌≤◌, ◌∙◌, ap, arith, length}
use Rattle.std.specs.Prelude.{slice_index_or}
use Rattle.engine_core.specs.EngineState.{EngineState}
use Rattle.host_embedding.proofs.Counts.{counts_all, counts_one_more}
use Rattle.host_embedding.proofs.counting.count_more.Goals as goal

pub loop-number-preserved : goal.loop-number-preserved
loop-number-preserved c =
    let within : c.loop-number.number < length c.args.engine.now.history = omega (arith, c.loop-number-test.true, c.recorded-number-end.ensures, ap (λ (s : EngineState). length s.history) c.engine.view_is) in
    let is : c.entry.result.now ≡ slice_index_or c.args.engine.now.history c.loop-number.number c.entry.result.now =
    c.entry.ensures ∙ ap (λ (s : EngineState). slice_index_or s.history c.loop-number.number c.entry.result.now) c.engine.view_is in
    record {
      onwards = omega (arith, c.loop-number.invariant.onwards);
      within = omega (arith, within);
      counted = counts_one_more c.args.noted.now.before c.args.engine.now.history c.args.noted.now.was c.loop-number.number c.entry.result.now _ _ _
          c.loop-number.invariant.onwards within is c.loop-number.invariant.counted c.count.ensures;
    }

pub returns : goal.returns
returns c =
    let all : length c.args.engine.now.history ≤ c.loop-number.number = omega (arith, c.loop-number-test.false, c.recorded-number-end.ensures, ap (λ (s : EngineState). length s.history) c.engine.view_is) in
    counts_all c.args.noted.now.before c.args.engine.now.history c.args.noted.now.was c.loop-number.number _ _ all c.loop-number.invariant.counted
