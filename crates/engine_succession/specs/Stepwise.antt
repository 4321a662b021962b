-- An engine that begins with lines which come one at a time.
use Rattle.std.specs.Prelude.{◌≡◌, Bool, true, false, List, [], ◌∷◌, ◌++◌, length}
use Rattle.freeze_ledger.specs.declared.freeze.Freeze.{Freeze}
use Rattle.world_calls.specs.declared.carried_line.CarriedLine.{CarriedLine}
use Rattle.world.specs.Lawful.{IsLawful}
use Rattle.world.specs.World.{Setup}
use Rattle.engine_beginning.specs.Begun.{BegunState, begun}
use Rattle.engine_succession.specs.FromLines.{IsRefused}
use Rattle.engine_succession.specs.Taking.{AreTaken}
use Rattle.engine_succession.specs.declared.beginning.BeginFault.TheVariants.{DoesNotFit}

-- what the lines so far make of an engine, and the guests' freezes among them
pub record StepwiseState : Type 0 where
  pub begun : BegunState
  pub guests : List Freeze

-- These lines were taken, for an engine of this setup: some engine of it begins with them.
pub record HasBegun (setup : Setup) (lines : List CarriedLine) (state : StepwiseState) : Type 0 where
  pub lawful : IsLawful setup
  pub setup_is : state.begun.setup ≡ setup
  pub taken : AreTaken (begun setup) lines [] state.begun state.guests

-- The line was taken; or it is the first one at fault, whatever comes after it.
abbrev pub TakesLine : StepwiseState → CarriedLine → Bool → StepwiseState → Type 0
TakesLine old line true new = (setup : Setup) (lines : List CarriedLine) → HasBegun setup lines old → HasBegun setup (lines ++ line ∷ []) new
TakesLine old line false new = (setup : Setup) (lines more : List CarriedLine) → HasBegun setup lines old → IsRefused setup (lines ++ line ∷ more) (DoesNotFit (length lines))
