-- Lines that are taken one after the other, and the guests' freezes among them.
use Rattle.std.specs.Prelude.{◌≡◌, ℕ, ◌+◌, ◌<◌, List, [], ◌∷◌, ◌++◌, length, take, Option, Some, None}
use Rattle.freeze_ledger.specs.declared.freeze.Freeze.{Freeze}
use Rattle.world_calls.specs.declared.carried_line.CarriedLine.{CarriedLine}
use Rattle.world.specs.World.{Setup, Transport}
use Rattle.engine_runs.specs.RunsState.{RunsState}
use Rattle.engine_beginning.specs.Begun.{BegunState, IsComplete, MayFollow, begun, finished}
use Rattle.engine_beginning.specs.Lines.{Takes}
use Rattle.engine_core.specs.ByNumber.{guests_of}
use Rattle.engine_succession.specs.declared.beginning.BeginFault.{BeginFault}
use Rattle.engine_succession.specs.declared.beginning.BeginFault.TheVariants.{DoesNotFit, OutOfMemory}

-- the line at this place cannot be next after those before it
pub record StopsAt (from : BegunState) (lines : List CarriedLine) (place : ℕ) : Type 0 where
  pub below : place < length lines
  pub to : BegunState
  pub before : Takes from (take place lines) to
  pub line : CarriedLine
  pub with : take (place + 1) lines ≡ take place lines ++ line ∷ []
  pub cannot : MayFollow to line → ⊥

abbrev pub StopsFor : BegunState → List CarriedLine → BeginFault → Type 0
StopsFor from lines (DoesNotFit place) = StopsAt from lines place
StopsFor from lines OutOfMemory = Unit {0}

-- all lines were taken, and these are the guests' freezes
pub record AreTaken (from : BegunState) (lines : List CarriedLine) (held : List Freeze) (to : BegunState) (guests : List Freeze) : Type 0 where
  pub takes : Takes from lines to
  pub guests_are : held ≡ guests_of from.transport.freezes → guests ≡ guests_of to.transport.freezes

-- what an engine of this setup begins with that has just these lines
pub record IsEntered (setup : Setup) (lines : List CarriedLine) (transport : Transport) (runs : RunsState) (guests : List Freeze) : Type 0 where
  pub to : BegunState
  pub takes : Takes (begun setup) lines to
  pub complete : IsComplete to
  pub transport_is : transport ≡ (finished to).transport
  pub runs_are : runs ≡ record { runs = (finished to).runs; tokens = [] }
  pub guests_are : guests ≡ guests_of transport.freezes

abbrev pub listed : Option Freeze → List Freeze
listed None = []
listed (Some freeze) = freeze ∷ []
