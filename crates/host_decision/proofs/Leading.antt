-- Where the records of a run lead.
use Rattle.std.proofs.Common.{◌≡◌, List, [], ◌∷◌, ◌++◌, Some, refl, subst, sym, ◌∙◌}
use Rattle.world_calls.specs.declared.carried_line.CarriedLine.{CarriedLine}
use Rattle.world_calls.specs.declared.record.Record.{Record}
use Rattle.world.specs.World.{Setup}
use Rattle.engine_core.specs.ByNumber.{IsBehind, NumberedState, RecordFollows}
use Rattle.engine_core.specs.Settings.{setup_over}
use Rattle.engine_core.proofs.Numbered.{behind_begun}
use Rattle.world_laws.proofs.Over.{begins_over}
use Rattle.engine_succession.specs.FromLines.{BeginsNumbered}
use Rattle.host_decision.specs.Ran.{IsLedTo}

-- no record leads to an engine that begins with lines
pub led_begun : (config : Setup) (lines : List CarriedLine) (engine : NumberedState) → BeginsNumbered config lines engine → IsLedTo config lines [] engine
led_begun config lines engine it = record {
  world = it.world;
  has = it.has;
  setup_is = subst (λ (e : NumberedState). e.setup ≡ setup_over config (Some it.world)) (sym it.engine_is) refl;
  behind = subst (λ (e : NumberedState). IsBehind [] e) (sym it.engine_is) (behind_begun (setup_over config (Some it.world)) (begins_over config (Some it.world) it.world it.has.is));
}

-- records that lead from there lead on
pub led_on : (config : Setup) (lines : List CarriedLine) (records more : List Record) (old new : NumberedState) → IsLedTo config lines records old
    → ((rs : List Record) → IsBehind rs old → IsBehind (rs ++ more) new) → new.setup ≡ old.setup → IsLedTo config lines (records ++ more) new
led_on config lines records more old new it leads same = record { world = it.world; has = it.has; setup_is = same ∙ it.setup_is; behind = leads records it.behind }
