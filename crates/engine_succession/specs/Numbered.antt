-- An engine that keeps no history and follows another such engine: what it is, and why one is not followed.
use Rattle.std.specs.Prelude.{◌≡◌, List, [], Some}
use Rattle.world_calls.specs.declared.carried_line.CarriedLine.{CarriedLine}
use Rattle.world.specs.World.{Setup, World}
use Rattle.engine_carried.specs.Left.{world_left}
use Rattle.engine_carried.specs.TakenOver.{Fits, taken_over}
use Rattle.engine_carried.specs.declared.numbering.Numbering.{Numbering}
use Rattle.engine_core.specs.ByNumber.{NumberedState, opened_numbered}
use Rattle.engine_core.specs.Settings.{setup_over}
use Rattle.engine_succession.specs.FromLines.{IsWorldOf}
use Rattle.engine_succession.specs.declared.succession.SuccessionFault.{SuccessionFault}
use Rattle.engine_succession.specs.declared.succession.SuccessionFault.TheVariants.{DoesNotFit, OutOfMemory, RunLive}

-- what it leaves, if no run of it is live
abbrev pub left_behind : NumberedState → World
left_behind state = world_left state.transport state.runs

-- what an engine of the configuration takes over from it
abbrev pub taken_from : Numbering → NumberedState → Setup → World
taken_from numbering old config = taken_over numbering old.setup config (left_behind old)

-- no run of it is live, and what it leaves fits
pub record MayBeFollowedBy (old : NumberedState) (config : Setup) : Type 0 where
  pub no_run : old.runs.list ≡ []
  pub fits : Fits config (left_behind old)

-- The new engine takes over just what the old one leaves, and the lines are those of that alone.
pub record FollowsNumbered (numbering : Numbering) (old : NumberedState) (config : Setup) (new : NumberedState) (lines : List CarriedLine) : Type 0 where
  pub may : MayBeFollowedBy old config
  pub has : IsWorldOf config lines (taken_from numbering old config)
  pub engine_is : new ≡ opened_numbered (setup_over config (Some (taken_from numbering old config)))

-- the refusals, of which the first that holds is reported
abbrev pub IsNotFollowedNumbered : NumberedState → Setup → SuccessionFault → Type 0
IsNotFollowedNumbered old config RunLive = old.runs.list ≡ [] → ⊥
IsNotFollowedNumbered old config DoesNotFit = (old.runs.list ≡ []) × (Fits config (left_behind old) → ⊥)
IsNotFollowedNumbered old config OutOfMemory = MayBeFollowedBy old config
