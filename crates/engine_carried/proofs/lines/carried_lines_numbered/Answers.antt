use Rattle.std.proofs.Common.{◌∙◌, ◌++◌, List, ap}
use Rattle.world_calls.specs.declared.carried_line.CarriedLine.{CarriedLine}
use Rattle.engine_beginning.specs.Lines.{lines_of}
use Rattle.engine_core.specs.ByNumber.{engine_of}
use Rattle.engine_carried.specs.Left.{world_left}
use Rattle.engine_carried.specs.TakenOver.{taken_over}
use Rattle.engine_carried.proofs.Adding.{lines_are, parts_left}
use Rattle.engine_carried.proofs.lines.carried_lines_numbered.Goals as goal

pub add_lines-requires-clause-left : goal.add_lines-requires-clause-left
add_lines-requires-clause-left c =
    (parts_left (engine_of c.args.engine.now c.transport-transport.ensures.run.0) c.config.result.now c.transport-transport.result.now c.runs-runs.result.now.runs c.transport-transport.ensures.run.1 c.requires c.config.ensures c.transport-transport.ensures.value c.runs-runs.ensures.value).0

pub add_lines-requires-clause-runs : goal.add_lines-requires-clause-runs
add_lines-requires-clause-runs c =
    (parts_left (engine_of c.args.engine.now c.transport-transport.ensures.run.0) c.config.result.now c.transport-transport.result.now c.runs-runs.result.now.runs c.transport-transport.ensures.run.1 c.requires c.config.ensures c.transport-transport.ensures.value c.runs-runs.ensures.value).1

pub returns : goal.returns
returns c =
    c.in_ok-add_lines.ensures
    ∙ (ap (λ (ls : List CarriedLine). ls ++ lines_of (taken_over c.args.numbering c.config.result.now c.args.config.now (world_left c.transport-transport.result.now c.runs-runs.result.now.runs))) c.new-lines.ensures.items
    ∙ lines_are c.args.numbering (engine_of c.args.engine.now c.transport-transport.ensures.run.0) c.config.result.now c.args.config.now c.transport-transport.result.now c.runs-runs.result.now.runs c.config.ensures c.transport-transport.ensures.value c.runs-runs.ensures.value)
