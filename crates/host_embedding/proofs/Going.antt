-- An engine that goes on: by no record, by one, and again.
use Rattle.std.proofs.Common.{◌≡◌, List, [], ◌∷◌, ◌++◌, sym, ap, ◌∙◌, append-nil, append_assoc}
use Rattle.world_calls.specs.declared.record.Record.{Record}
use Rattle.engine_core.specs.EngineState.{EngineState, Records}
use Rattle.host_embedding.specs.Calls.{HasMoreRecords}

pub goes_none : (old new : EngineState) → new ≡ old → HasMoreRecords old new
goes_none old new e = record {
  more = [];
  history = ap (λ (it : EngineState). it.history) e ∙ sym (append-nil old.history);
  setup = ap (λ (it : EngineState). it.setup) e;
}

pub goes_one : (old new : EngineState) (told : Record) → Records old new told → HasMoreRecords old new
goes_one old new told records = record { more = told ∷ []; history = records.history; setup = records.setup }

pub goes_then : (old mid new : EngineState) → HasMoreRecords old mid → HasMoreRecords mid new → HasMoreRecords old new
goes_then old mid new first second = record {
  more = first.more ++ second.more;
  history = second.history ∙ (ap (λ (it : List Record). it ++ second.more) first.history ∙ append_assoc old.history first.more second.more);
  setup = second.setup ∙ first.setup;
}
