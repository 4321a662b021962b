-- What the trace of a scenario is: a whole history of one engine, with its sums, of which the host made the scenario's calls, and
-- workers asked for its completions.
use Rattle.std.specs.Prelude.{◌≡◌, List, []}
use Rattle.world_calls.specs.declared.record.Record.{Record}
use Rattle.world_calls.specs.declared.totals.Totals.{Totals}
use Rattle.world_calls.specs.declared.trace.Version.{Version}
use Rattle.world.specs.World.{Setup, World, version_of}
use Rattle.world.specs.Lawful.{IsLawful}
use Rattle.world.specs.WorldRun.{WorldRun}
use Rattle.world.specs.Flat.{flat}
use Rattle.world.specs.TotalsOf.{TotalsOf}
use Rattle.monitor.specs.declared.knowledge.Pair.{Pair}
use Rattle.monitor.specs.LegalHistory.{made_by, records}
use Rattle.monitor.specs.Telling.{CallerState}
use Rattle.scenario.specs.Commands.{Step}
use Rattle.host_scenario.specs.Asked.{AreOf, by_host, calls_of}
use Rattle.host_scenario.specs.Served.{AreServed, completes_of}
use Rattle.host_scenario.specs.Turns.{AreInTurn}

-- the records are a run of a lawful setup from its opening, in its vocabulary, and these are its sums
pub record IsTraceOf (setup : Setup) (version : Version) (records : List Record) (totals : Totals) : Type 0 where
  pub version_is : version ≡ version_of setup
  pub lawful : IsLawful setup
  pub world : World
  pub run : WorldRun setup (flat records) world
  pub sums : TotalsOf setup records totals

-- in a history of which these are the records, these are the caller's
pub record HasMade (caller : CallerState) (told : List Record) : Type 0 where
  pub history : List Pair
  pub its : records history ≡ told
  pub own : made_by caller.number history ≡ caller.mine

-- What the host made is the scenario's calls, each once and in their order, as records of this version tell them; what workers asked for
-- is its completions, each once. A completion stands after the host put it, and before the host's first call after the drain that served
-- it; no run is live at a call of the host.
pub record IsOfScenario (version : Version) (steps : List Step) (told : List Record) : Type 0 where
  pub asked : AreOf (by_host told) (calls_of version steps)
  pub served : AreServed (completes_of steps) [] told
  pub turns : AreInTurn steps told
