use Rattle.std.proofs.Common.{ap}
use Rattle.base_chunked_list.specs.ChunkedState.{ChunkedState}
use Rattle.world_calls.specs.declared.record.Record.{Record}
use Rattle.engine_core.proofs.Numbered.{behind_begun}
use Rattle.engine_core.specs.ByNumber.{opened_numbered}
use Rattle.host_trial.proofs.Behind.{none_more}
use Rattle.host_trial.proofs.recorded.Recorded.open.Goals as goal

pub invariant_of-result : goal.invariant_of-result
invariant_of-result c =
    none_more (opened_numbered c.args.config.now) c.in_ok-engine.engine _ c.in_ok-records.records.items (behind_begun c.args.config.now c.open.ensures.begins) c.in_ok-engine.ensures.opened
    (ap (λ (list : ChunkedState Record). list.items) c.in_ok-records.ensures)
