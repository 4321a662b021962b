-- How many calls of a scenario were refused, and on which line the first of them stands.
use Rattle.std.specs.Prelude.{◌≡◌, ℕ, ◌==◌, ◌&&◌, ◌++◌, Bool, true, false, List, Option, Some, bytes_eq, codes, decimal, filter, if◌then◌else◌, length, slice_get, take}
use Rattle.std.specs.Option.{option_map}
use Rattle.std.specs.Io.KnownBytes.{Appends}
use Rattle.ccb.specs.CallRefusalText.{call_refusal_text}
use Rattle.ccb.specs.Completion.{Outcome}
use Rattle.ccb.specs.Status.{code_of}
use Rattle.ccb.specs.declared.call_refusal.CallRefusal.{CallRefusal}
use Rattle.world_calls.specs.declared.call.Call.{Call}
use Rattle.world_calls.specs.declared.call.Call.TheVariants.{Complete}
use Rattle.world_calls.specs.declared.call_answer.CallAnswer.TheVariants.{Refused}
use Rattle.world_calls.specs.declared.record.Record.{Record}
use Rattle.world_calls.specs.declared.record.Record.TheVariants.{Called, Advance}
use Rattle.scenario.specs.Commands.{Step}
use Rattle.scenario.specs.declared.command.Command.{Command}
use Rattle.scenario.specs.declared.command.Command.TheVariants as commands
use Rattle.host_scenario.specs.Asked.{is_hosts}

-- the record tells a call that was refused
abbrev pub is_refused : Record → Bool
is_refused (Called (Refused refusal) call) = true
is_refused made = false

abbrev pub refused_count : List Record → ℕ
refused_count records = length (filter is_refused records)

-- both report the same
abbrev pub is_same_report : Outcome → Outcome → Bool
is_same_report one other = (one.ccb.0 == other.ccb.0) && ((code_of one.status == code_of other.status) && ((one.scsi == other.scsi) && bytes_eq one.sense other.sense))

-- The two calls are served in the order of their lines: the host makes both, or both complete a CCB and report the same.
abbrev pub are_alike : Call → Call → Bool
are_alike (Complete one) (Complete other) = is_same_report one other
are_alike one other = is_hosts one && is_hosts other

-- the record is of such a call, and the step asks for one
abbrev pub tells : Call → Record → Bool
tells call (Called answer its) = are_alike call its
tells call (Advance run instructions stop r0) = false

abbrev pub is_asked_by : Call → Command → Bool
is_asked_by call (commands.Call its) = are_alike call its
is_asked_by call commands.Drain = false

abbrev pub asks : Call → Step → Bool
asks call step = is_asked_by call step.command

-- the line of the step that asks for such a call after so many others
abbrev pub line_of : Call → ℕ → List Step → Option ℕ
line_of call turn steps = option_map (λ (step : Step). step.line) (slice_get (filter (asks call) steps) turn)

-- Of the records this is the first that tells a refusal, and it has the line that asked for its call: as many others ask for such a call
-- before that line as records tell one before this.
pub record IsFirstRefused (steps : List Step) (records : List Record) (line : ℕ) (refusal : CallRefusal) : Type 0 where
  pub place : ℕ
  pub call : Call
  pub record_is : slice_get records place ≡ Some (Called (Refused refusal) call)
  pub none_before : refused_count (take place records) ≡ 0
  pub line_is : line_of call (length (filter (tells call) (take place records))) steps ≡ Some line

abbrev pub refusals_text : ℕ → ℕ → CallRefusal → List ℕ
refusals_text count line first =
    if count == 1 then codes "1 call was refused, at line " ++ decimal line ++ codes ": " ++ call_refusal_text first
    else decimal count ++ codes " calls were refused, the first at line " ++ decimal line ++ codes ": " ++ call_refusal_text first

-- their count and the first of them were written out in one line
abbrev pub AreTold : List Step → List Record → Option (List ℕ) → Option (List ℕ) → Type 0
AreTold steps records old new = (line : ℕ) × (first : CallRefusal) × IsFirstRefused steps records line first
    × Appends old new (codes "camr: " ++ refusals_text (refused_count records) line first ++ codes "\n")
