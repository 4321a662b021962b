-- What contracts see of an engine with the records that led to it.
use Rattle.std.specs.Prelude.{◌≡◌, ◌++◌, ◌∷◌, [], List, Option, Some, None}
use Rattle.world_calls.specs.declared.call.Call.{Call}
use Rattle.world_calls.specs.declared.call_answer.CallAnswer.{CallAnswer}
use Rattle.world_calls.specs.declared.record.Record.{Record}
use Rattle.world_calls.specs.declared.record.Record.TheVariants.{Called}
use Rattle.engine_core.specs.ByNumber.{NumberedState}

-- its engine, and the records
pub record Recording : Type 0 where
  pub engine : NumberedState
  pub records : List Record

-- The engine was asked: one record more is there, of that call and that answer; or the call is no event, and nothing changed.
abbrev pub Asks : Recording → Call → Option CallAnswer → Recording → Type 0
Asks old call None new = new ≡ old
Asks old call (Some answer) new = (new.records ≡ old.records ++ Called answer call ∷ []) × (new.engine.setup ≡ old.engine.setup)
