-- What the host has asked, and that it has the token of each freeze that its records hold.
use Rattle.std.specs.Prelude.{◌≡◌, ◌≢◌, ℕ, true, false, List, [], ◌∷◌, ◌++◌, All, MatchOption, Some}
use Rattle.freeze_ledger.specs.declared.freeze.Freeze.{Freeze}
use Rattle.world_calls.specs.declared.call.Call.{Call}
use Rattle.world_calls.specs.declared.call.Call.TheVariants.{GuestRelease}
use Rattle.world_calls.specs.declared.call_answer.CallAnswer.{CallAnswer}
use Rattle.world_calls.specs.declared.record.Record.{Record}
use Rattle.world_calls.specs.declared.record.Record.TheVariants.{Called}
use Rattle.world_calls.specs.declared.trace.Version.{Version}
use Rattle.host_handles.specs.declared.unanswered.Unanswered.{Unanswered}
use Rattle.host_handles.specs.declared.unanswered.Unanswered.TheVariants as unanswered
use Rattle.scenario.specs.Commands.{Step}
use Rattle.scenario.specs.declared.command.Command.TheVariants as commands
use Rattle.host_scenario.specs.Asked.{call_of, is_held}
use Rattle.host_scenario.specs.Faults.{line_of}
use Rattle.host_scenario.specs.declared.host.RunFault.{RunFault}
use Rattle.host_scenario.specs.declared.host.RunFault.TheVariants as faults

-- the token of this number is among these
abbrev pub HasToken : ℕ → List Freeze → Type 0
HasToken number tokens = All (λ token. token.number ≢ number) tokens → ⊥

-- each freeze that is held by these records has its token among these
abbrev pub HoldsAll : List Record → List Freeze → Type 0
HoldsAll made tokens = (number : ℕ) → is_held number made ≡ true → HasToken number tokens

-- the call was recorded
abbrev pub IsMade : Call → List Record → List Record → Type 0
IsMade call before after = (answer : CallAnswer) × (after ≡ before ++ Called answer call ∷ [])

-- the call of a step was, where it has one
abbrev pub Asks : Version → Step → List Record → List Record → Type 0
Asks version step before after = MatchOption (call_of version step.command) (after ≡ before) (λ call. IsMade call before after)

-- a line that it names is that of the call, which is a release of a freeze that is not held, and asked nothing
pub record IsUnheldCall (line : ℕ) (call : Call) (before after : List Record) (named : ℕ) : Type 0 where
  pub freeze : ℕ
  pub release : call ≡ GuestRelease freeze
  pub line_is : line ≡ named
  pub unheld : is_held freeze before ≡ false
  pub same : after ≡ before

abbrev pub IsOfLine : ℕ → Call → List Record → List Record → RunFault → Type 0
IsOfLine line call before after fault = (named : ℕ) → line_of fault ≡ Some named → IsUnheldCall line call before after named

-- why a call was not answered, as it is told of its line
abbrev pub fault_of : Unanswered → ℕ → RunFault
fault_of unanswered.NotHeld line = faults.NotHeld line
fault_of unanswered.NotAdmitted line = faults.InternalError
fault_of unanswered.OutOfMemory line = faults.OutOfMemory

-- a line that it names is the step's, which is a release of a freeze that is not held, and asked nothing
pub record IsRefused (step : Step) (before after : List Record) (line : ℕ) : Type 0 where
  pub freeze : ℕ
  pub release : step.command ≡ commands.Call (GuestRelease freeze)
  pub line_is : step.line ≡ line
  pub unheld : is_held freeze before ≡ false
  pub same : after ≡ before

abbrev pub IsOfStep : Step → List Record → List Record → RunFault → Type 0
IsOfStep step before after fault = (line : ℕ) → line_of fault ≡ Some line → IsRefused step before after line
