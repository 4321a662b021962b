use Rattle.std.proofs.Common.{◌≡◌, ◌∙◌, ◌++◌, Some, List, ℕ, ap, subst, sym, arith}
use Rattle.std.proofs.lemmas.List.{take_all, take_more}
use Rattle.world_calls.specs.declared.carried_line.CarriedLine.{CarriedLine}
use Rattle.whole_trace.specs.Front.{front_text}
use Rattle.whole_trace.proofs.Lines.{front_first, front_push, untold_among}
use Rattle.whole_trace.proofs.front.print_front.Goals as goal

pub loop-line-init : goal.loop-line-init
loop-line-init c =
    front_first c.args.version ∙ ap Some (sym (c.in_ok-extend_from_slice.ensures.items ∙ (ap (λ (bytes : List ℕ). bytes ++ c.as_bytes.result.now) c.new-bytes.ensures.items ∙ (c.as_bytes.ensures.value ∙ c.continued_header.ensures))))

pub loop-line-preserved : goal.loop-line-preserved
loop-line-preserved c =
    let added = c.in-Ok.ensures.added in
    ap (front_text c.args.version) (take_more c.args.lines.now c.loop-line.line-index _ c.loop-line-test.true)
    ∙ (front_push c.args.version _ _ _ added.0 c.loop-line.invariant added.1 ∙ ap Some (sym added.2))

pub returns-clause-front : goal.returns-clause-front
returns-clause-front c =
    subst (λ (lines : List CarriedLine). front_text c.args.version lines ≡ Some c.loop-line.bytes.items) (take_all c.loop-line.line-index c.args.lines.now (omega (arith, c.loop-line-test.false))) c.loop-line.invariant

pub returns-in-Err-clause-refused : goal.returns-in-Err-clause-refused
returns-in-Err-clause-refused c = untold_among c.args.version c.args.lines.now c.loop-line.line-index _ c.in-Err.fault c.loop-line-test.true (take_more c.args.lines.now c.loop-line.line-index _ c.loop-line-test.true) c.in-Err.ensures.refused
