use Rattle.std.proofs.Common.{◌≡◌, ◌<◌, ◌+◌, ◌-◌, ◌∙◌, ap, arith, length, subst}
use Rattle.trace.specs.TraceText.{line_of}
use Rattle.engine_core.specs.EngineState.{EngineState}
use Rattle.host_embedding.specs.Lines.{PutsLines, front_of}
use Rattle.host_embedding.proofs.Handing.{goes_within}
use Rattle.host_embedding.proofs.engine_handle.EngineHandle.take_lines.Goals as goal

pub hand_on-requires : goal.hand_on-requires
hand_on-requires c =
    let some : c.taken-from.result < length c.args.self.now.history = omega (arith, c.if-from-recorded.false, c.recorded.ensures, ap (λ (s : EngineState). length s.history) c.self.view_is) in
    let goes = goes_within line_of c.put_lines-result.result _ c.args.self.now.history _ c.taken-from.result _ _ _ _ c.put_lines-result.ensures.lines some in
    omega (arith, goes.0, goes.1, c.taken-from.ensures.count, ap (λ (s : EngineState). length s.history) c.self.view_is)

pub returns-clause-lines : goal.returns-clause-lines
returns-clause-lines c =
    let next = c.put_lines-result.new.put.next in
    let some : c.taken-from.result < length c.args.self.now.history = omega (arith, c.if-from-recorded.false, c.recorded.ensures, ap (λ (s : EngineState). length s.history) c.self.view_is) in
    let goes = goes_within line_of c.put_lines-result.result _ c.args.self.now.history _ c.taken-from.result _ _ _ _ c.put_lines-result.ensures.lines some in
    let from : c.taken-from.result ≡ c.args.self.now.taken = c.taken-from.ensures.count ∙ ap (λ (s : EngineState). s.taken) c.self.view_is in
    let count : c.self.inside.engine.taken + (next - c.taken-from.result) ≡ next = omega (arith, goes.0, c.taken-from.ensures.count) in
    record {
      handed = c.hand_on.ensures.handed ∙ ap (λ n. record c.self.inside.engine { taken = n }) count ∙ ap (λ (s : EngineState). record s { taken = next }) c.self.view_is;
      lines = λ left. subst (λ n. PutsLines line_of c.put_lines-result.result (front_of c.args.self.now.setup) c.args.self.now.history c.args.self.now.taken n c.args.place.now c.put_lines-result.new.place c.put_lines-result.new.put.written next) from c.put_lines-result.ensures.lines;
      none = λ all. absurd (omega (arith, all, some, from));
    }

pub returns-clause-some : goal.returns-clause-some
returns-clause-some c = c.put_lines-result.ensures.some
