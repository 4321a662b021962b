-- How a request is spelled: as the line of a call, or by a word of its own.
use Rattle.std.specs.Prelude.{◌≡◌, ℕ, Bool, true, false, Option, Some, None, List, codes, if◌then◌else◌}
use Rattle.std.specs.Fmt.{option_append}
use Rattle.std.specs.Option.{option_map}
use Rattle.trace_lines.specs.Calls.{values_of, word_of}
use Rattle.trace_lines.specs.Lines.{line_text}
use Rattle.trace_lines.specs.Texts.{number_text}
use Rattle.trace_lines.specs.Versions.{has_classes}
use Rattle.trace_lines.specs.Written.{Reads}
use Rattle.scenario.specs.Commands.{may_say}
use Rattle.world.specs.World.{class_in}
use Rattle.world_calls.specs.declared.call.Call.{Call as TheCall}
use Rattle.world_calls.specs.declared.call.Call.TheVariants as calls
use Rattle.world_calls.specs.declared.trace.Version.{Version}
use Rattle.host_live.specs.declared.request.Request.{Request}
use Rattle.host_live.specs.declared.request.Succession.{Succession}
use Rattle.host_live.specs.declared.request.Request.TheVariants.{Call, Step, Drive, Drain, Totals, Ccbs, Succeed, Quit, Help}

-- the line of a call
abbrev pub spelled_call : TheCall → Option (List ℕ)
spelled_call call = line_text (word_of call) (values_of call)

-- a submission may leave its class out, and says one only in a version in which CCBs have classes
abbrev pub call_text : Version → TheCall → Option (List ℕ)
call_text version call = if may_say version call then spelled_call call else None

-- the call, if a line of the version may say it
abbrev pub said_in : Version → TheCall → Option TheCall
said_in version call = if may_say version call then Some call else None

abbrev pub step_text : ℕ → Option (List ℕ)
step_text run = option_append (Some (codes "step ")) (number_text run)

abbrev pub drive_text : ℕ → Option (List ℕ)
drive_text run = option_append (Some (codes "drive ")) (number_text run)

-- another engine is to follow, with the manifest read again or not, and numbers anew or not
abbrev pub succession_words : (is_reloaded is_fresh : Bool) → Option (List ℕ)
succession_words false false = Some (codes "rotate")
succession_words false true = Some (codes "rotate fresh")
succession_words true false = Some (codes "reload")
succession_words true true = Some (codes "reload fresh")

abbrev pub succession_text : Succession → Option (List ℕ)
succession_text how = succession_words how.is_reloaded how.is_fresh

-- what is asked for that is no call, whether lines are answered or not
abbrev pub own_text : Request → Option (List ℕ)
own_text (Call call) = None
own_text (Step run) = step_text run
own_text (Drive run) = drive_text run
own_text Drain = Some (codes "drain")
own_text Totals = Some (codes "totals")
own_text Ccbs = Some (codes "ccbs")
own_text (Succeed how) = succession_text how
own_text Quit = None
own_text Help = None

-- what is asked for only where lines are answered
abbrev pub told_text : Bool → Request → Option (List ℕ)
told_text true Quit = Some (codes "quit")
told_text true Help = Some (codes "help")
told_text told request = None

-- what is asked for by a word of its own
abbrev pub named_text : Bool → Request → Option (List ℕ)
named_text told Quit = told_text told Quit
named_text told Help = told_text told Help
named_text told request = own_text request

abbrev pub request_text : Version → Bool → Request → Option (List ℕ)
request_text version told (Call call) = call_text version call
request_text version told request = named_text told request

-- The class that the record of a submission says: where CCBs have one it is that of the line, which is 0 if the line says none.
abbrev pub class_told : Version → Option ℕ → Option ℕ
class_told version class = if has_classes version then Some (class_in class) else None

-- a line's call, as a record of the version tells it
abbrev pub call_told : Version → TheCall → TheCall
call_told version (calls.Submit queue priority retries class) = calls.Submit queue priority retries (class_told version class)
call_told version call = call

-- what is asked for, with its call so
abbrev pub request_told : Version → Request → Request
request_told version (Call call) = Call (call_told version call)
request_told version request = request

-- what the line asks for, so
pub record AsksFor (version : Version) (told : Bool) (line : List ℕ) (asked : Option Request) : Type 0 where
  pub read : Option Request
  pub reads : Reads (request_text version told) line read
  pub is : asked ≡ option_map (request_told version) read
