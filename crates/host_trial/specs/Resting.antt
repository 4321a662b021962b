-- An engine in which nothing happens by itself.
use Rattle.std.specs.Prelude.{◌≡◌, [], count_by, false}
use Rattle.freeze_ledger.specs.Deadlines.{some_timer}
use Rattle.world.specs.Lookups.{is_active}
use Rattle.engine_core.specs.ByNumber.{NumberedState}

-- no CCB is active, no run is live, and no timer has a freeze
pub record IsAtRest (engine : NumberedState) : Type 0 where
  pub active : count_by (λ live. is_active live.state) engine.transport.live ≡ 0
  pub runs : engine.runs.list ≡ []
  pub timers : some_timer engine.transport.freezes ≡ false
