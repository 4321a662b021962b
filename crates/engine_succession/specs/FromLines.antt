-- An engine that begins with lines, and with which lines none does.
use Rattle.std.specs.Prelude.{◌≡◌, ℕ, ◌+◌, ◌<◌, ◌≤◌, List, ◌++◌, length, take, Some}
use Rattle.freeze_ledger.specs.declared.freeze.Freeze.{Freeze}
use Rattle.world_calls.specs.declared.carried_line.CarriedLine.{CarriedLine}
use Rattle.world.specs.Beginning.{IsBeginning}
use Rattle.world.specs.World.{Setup, World}
use Rattle.engine_beginning.specs.Lines.{IsFront, lines_of}
use Rattle.engine_core.specs.ByNumber.{NumberedState, guests_of, opened_numbered}
use Rattle.engine_core.specs.EngineState.{EngineState}
use Rattle.engine_core.specs.Settings.{begun_with, setup_over}
use Rattle.engine_succession.specs.declared.beginning.BeginFault.{BeginFault}
use Rattle.engine_succession.specs.declared.beginning.BeginFault.TheVariants.{DoesNotFit, OutOfMemory}

-- It is the only world with these lines that an engine of the setup may take over.
pub record IsWorldOf (setup : Setup) (lines : List CarriedLine) (world : World) : Type 0 where
  pub is : IsBeginning setup world
  pub lines_are : lines_of world ≡ lines
  pub only : (other : World) → IsBeginning setup other → lines_of other ≡ lines → other ≡ world

-- the engine takes over that world, and these are the guests' freezes in it
pub record BeginsWith (setup : Setup) (lines : List CarriedLine) (engine : EngineState) (guests : List Freeze) : Type 0 where
  pub world : World
  pub has : IsWorldOf setup lines world
  pub engine_is : engine ≡ begun_with setup world
  pub guests_are : guests ≡ guests_of world.transport.freezes

-- the same of an engine that keeps no history
pub record BeginsNumbered (setup : Setup) (lines : List CarriedLine) (engine : NumberedState) : Type 0 where
  pub world : World
  pub has : IsWorldOf setup lines world
  pub engine_is : engine ≡ opened_numbered (setup_over setup (Some world))

-- No world that an engine of the setup may take over has the first so many lines and one more as its first ones; or, after the last line,
-- none has just these lines.
abbrev pub NoneGoesOn : Setup → List CarriedLine → ℕ → Type 0
NoneGoesOn setup lines place =
    (world : World) → IsBeginning setup world →
    (place < length lines → (rest : List CarriedLine) → lines_of world ≡ take (place + 1) lines ++ rest → ⊥)
    × (place ≡ length lines → lines_of world ≡ lines → ⊥)

-- It is the place of the first line at fault, or, past the last one, the lines are too few: those before it are the first ones of some
-- world that an engine of the setup may take over, and none goes on with the line at that place.
pub record IsFirstFault (setup : Setup) (lines : List CarriedLine) (place : ℕ) : Type 0 where
  pub within : place ≤ length lines
  pub before : IsFront setup (take place lines)
  pub none : NoneGoesOn setup lines place

abbrev pub IsRefused : Setup → List CarriedLine → BeginFault → Type 0
IsRefused setup lines (DoesNotFit place) = IsFirstFault setup lines place
IsRefused setup lines OutOfMemory = Unit {0}

-- lines are refused at one place at most
abbrev pub OneRefusal : Type 0
OneRefusal = (setup : Setup) (lines : List CarriedLine) (one other : ℕ) → IsRefused setup lines (DoesNotFit one) → IsRefused setup lines (DoesNotFit other) → one ≡ other

-- and if they are, no world has just these lines
abbrev pub NoneIsRefused : Type 0
NoneIsRefused = (setup : Setup) (lines : List CarriedLine) (place : ℕ) → IsRefused setup lines (DoesNotFit place) → (world : World) → IsBeginning setup world → lines_of world ≡ lines → ⊥
