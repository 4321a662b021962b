-- Of which line a fault is: that of a release whose freeze is not held then.
use Rattle.std.specs.Prelude.{◌≡◌, ℕ, false, List, ◌∷◌, ◌++◌, take, Option, Some, None}
use Rattle.world_calls.specs.declared.record.Record.{Record}
use Rattle.ccb.specs.Completion.{Outcome}
use Rattle.world_calls.specs.declared.trace.Version.{Version}
use Rattle.world.specs.World.{Setup, version_of}
use Rattle.monitor.specs.LegalHistory.{AreLegal}
use Rattle.world_calls.specs.declared.call.Call.TheVariants.{GuestRelease}
use Rattle.scenario.specs.Commands.{Step}
use Rattle.scenario.specs.declared.command.Command.TheVariants.{Call}
use Rattle.host_scenario.specs.Asked.{AreOf, by_host, calls_of, is_held}
use Rattle.host_scenario.specs.Served.{AreServed, completes_of}
use Rattle.host_scenario.specs.Turns.{AreInTurnSoFar}
use Rattle.host_scenario.specs.declared.host.RunFault.{RunFault}
use Rattle.host_scenario.specs.declared.host.RunFault.TheVariants.{OutOfMemory, NotHeld, InternalError}

-- the line that it names
abbrev pub line_of : RunFault → Option ℕ
line_of OutOfMemory = None
line_of (NotHeld line) = Some line
line_of InternalError = None

-- on this line stands a release of a freeze that is not held after these records, which are those of the steps before it
pub record IsUnheldAt (version : Version) (steps : List Step) (made : List Record) (line : ℕ) : Type 0 where
  pub before : List Step
  pub step : Step
  pub after : List Step
  pub steps_are : steps ≡ before ++ step ∷ after
  pub freeze : ℕ
  pub release : step.command ≡ Call (GuestRelease freeze)
  pub line_is : step.line ≡ line
  pub asked : AreOf made (calls_of version before)
  pub unheld : is_held freeze made ≡ false

-- a line that it names is such a one after so many steps, by the records that the host made, and these are the completions that it put
-- before
pub record StopsAt (version : Version) (steps : List Step) (count : ℕ) (made : List Record) (put : List Outcome) (line : ℕ) : Type 0 where
  pub unheld : IsUnheldAt version steps made line
  pub before_is : unheld.before ≡ take count steps
  pub put_is : put ≡ completes_of unheld.before

abbrev pub IsOfSteps : Version → List Step → ℕ → List Record → List Outcome → RunFault → Type 0
IsOfSteps version steps count made put fault = (line : ℕ) → line_of fault ≡ Some line → StopsAt version steps count made put line

-- The same in a legal history, which has beside those that the host made only what workers make: of the completions of the lines
-- before, each that is not left is recorded once, after the host put it and before its first call after the drain that served it. No run is
-- live at a call of the host, nor at the end.
pub record IsUnheldThen (setup : Setup) (steps : List Step) (line : ℕ) : Type 0 where
  pub history : List Record
  pub legal : AreLegal setup history
  pub unheld : IsUnheldAt (version_of setup) steps (by_host history) line
  pub left : List Outcome
  pub served : AreServed (completes_of unheld.before) left history
  pub turns : AreInTurnSoFar unheld.before history

abbrev pub IsOfRun : Setup → List Step → RunFault → Type 0
IsOfRun setup steps fault = (line : ℕ) → line_of fault ≡ Some line → IsUnheldThen setup steps line
