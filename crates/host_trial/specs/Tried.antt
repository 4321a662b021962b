-- What a trial is: the history of an engine of a configuration, with its sums, and what its end says.
use Rattle.std.specs.Prelude.{◌≡◌, [], false, length}
use Rattle.freeze_ledger.specs.Deadlines.{some_timer}
use Rattle.world_calls.specs.declared.trace.Trace.{Trace}
use Rattle.world.specs.Flat.{flat}
use Rattle.world.specs.TotalsOf.{totals_in}
use Rattle.world.specs.World.{Runs, Setup, Transport, World, version_of}
use Rattle.world.specs.WorldRun.{WorldRun}
use Rattle.host_trial.specs.declared.ending.Ending.{Ending}
use Rattle.host_trial.specs.declared.ending.Ending.TheVariants.{Finished, Stopped}

-- What an end says of an engine's parts: each CCB is ended, no run is live, and no timer has a freeze; or so many CCBs are not ended.
abbrev pub EndsIn : Ending → Transport → Runs → Type 0
EndsIn Finished transport runs = (transport.live ≡ []) × (runs.list ≡ []) × (some_timer transport.freezes ≡ false)
EndsIn (Stopped count) transport runs = length transport.live ≡ count

-- The records are a run of the configuration's world from its opening, in its vocabulary and with its sums, and the end says what is left in
-- that world.
pub record IsTrial (config : Setup) (trace : Trace) (ending : Ending) : Type 0 where
  pub version_is : trace.version ≡ version_of config
  pub world : World
  pub run : WorldRun config (flat trace.records.items) world
  pub sums : trace.totals ≡ totals_in trace.records.items world
  pub ends : EndsIn ending world.transport world.runs
