-- An engine that another one follows: what each of them is then, and why one is not followed.
use Rattle.std.specs.Prelude.{◌≡◌, List, [], drop}
use Rattle.freeze_ledger.specs.declared.freeze.Freeze.{Freeze}
use Rattle.world_calls.specs.declared.carried_line.CarriedLine.{CarriedLine}
use Rattle.world_calls.specs.declared.trace.Trace.{Trace}
use Rattle.world.specs.TotalsOf.{TotalsOf}
use Rattle.world.specs.World.{Setup, World, version_of}
use Rattle.engine_beginning.specs.Lines.{lines_of}
use Rattle.engine_carried.specs.TakenOver.{Fits, taken_over}
use Rattle.engine_carried.specs.declared.numbering.Numbering.{Numbering}
use Rattle.engine_core.specs.ByNumber.{guests_of}
use Rattle.engine_core.specs.EngineState.{EngineState}
use Rattle.engine_core.specs.Settings.{begun_with}
use Rattle.engine_succession.specs.declared.succession.SuccessionFault.{SuccessionFault}
use Rattle.engine_succession.specs.declared.succession.SuccessionFault.TheVariants.{DoesNotFit, OutOfMemory, RunLive}

-- no run of it is live, and what it leaves fits
pub record MayBeFollowed (old : EngineState) (config : Setup) : Type 0 where
  pub no_run : old.world.runs.list ≡ []
  pub fits : Fits config old.world

-- The new engine takes over just what the old one leaves. It has the lines of that, and a token for each guest's freeze.
pub record TakesOver (world : World) (config : Setup) (new : EngineState) (guests : List Freeze) (lines : List CarriedLine) : Type 0 where
  pub engine_is : new ≡ begun_with config world
  pub guests_are : guests ≡ guests_of world.transport.freezes
  pub lines_are : lines ≡ lines_of world

-- what the old one leaves behind: its sums, and the records that were not handed on
pub record IsEndOf (old : EngineState) (ended : Trace) : Type 0 where
  pub version_is : ended.version ≡ version_of old.setup
  pub records_are : ended.records.items ≡ drop old.taken old.history
  pub totals_are : TotalsOf old.setup old.history ended.totals

pub record Follows (numbering : Numbering) (old : EngineState) (config : Setup) (new : EngineState) (guests : List Freeze) (lines : List CarriedLine) (ended : Trace) : Type 0 where
  pub may : MayBeFollowed old config
  pub takes : TakesOver (taken_over numbering old.setup config old.world) config new guests lines
  pub ends : IsEndOf old ended

-- the refusals, of which the first that holds is reported
abbrev pub IsNotFollowed : EngineState → Setup → SuccessionFault → Type 0
IsNotFollowed old config RunLive = old.world.runs.list ≡ [] → ⊥
IsNotFollowed old config DoesNotFit = (old.world.runs.list ≡ []) × (Fits config old.world → ⊥)
IsNotFollowed old config OutOfMemory = MayBeFollowed old config
