use Rattle.std.proofs.Common.{◌∙◌, List, ap, arith}
use Rattle.std.proofs.lemmas.List.{take_all, take_more}
use Rattle.world_calls.specs.declared.carried_line.CarriedLine.{CarriedLine}
use Rattle.show_counts.specs.Columns.{carried_queue}
use Rattle.show_counts.proofs.Steps.{carried_more, empty_at}
use Rattle.show_counts.proofs.first.queues_of.Goals as goal

pub loop-line-init : goal.loop-line-init
loop-line-init c = empty_at c.new-table.result c.new-table.ensures.empty

pub loop-line-preserved : goal.loop-line-preserved
loop-line-preserved c = λ number.
    carried_more number c.args.lines.now c.loop-line.line-index _ _ _ c.carried.result (take_more c.args.lines.now c.loop-line.line-index _ c.loop-line-test.true) (c.in_ok-keep.ensures number) (c.loop-line.invariant number) c.carried.ensures

pub returns : goal.returns
returns c = λ number.
    c.loop-line.invariant number
    ∙ ap (λ (ls : List CarriedLine). carried_queue number ls) (take_all c.loop-line.line-index c.args.lines.now (omega (arith, c.loop-line-test.false)))
