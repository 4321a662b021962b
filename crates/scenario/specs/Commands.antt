-- What a line asks for, and how that is spelled: as the line of a call, or as `drain`.
use Rattle.std.specs.Prelude.{ℕ, Bool, true, false, not, ◌&&◌, Option, Some, None, List, bytes_eq, codes, if◌then◌else◌}
use Rattle.world_calls.specs.declared.call.Call.{Call}
use Rattle.world_calls.specs.declared.call.Call.TheVariants as calls
use Rattle.world_calls.specs.declared.trace.Version.{Version}
use Rattle.trace_lines.specs.Calls.{call_of, values_of, word_of}
use Rattle.trace_lines.specs.Lines.{line_text}
use Rattle.trace_lines.specs.Versions.{has_classes}
use Rattle.trace_lines.specs.declared.kind.Slots.{Slots}
use Rattle.trace_lines.specs.declared.value.Value.{Value}
use Rattle.trace_lines.specs.declared.word.Word.{Word}
use Rattle.trace_lines.specs.declared.word.Word.TheVariants as words
use Rattle.scenario.specs.declared.command.Command.{Command}
use Rattle.scenario.specs.declared.command.Command.TheVariants as commands

-- a command with its line, the first being 1
pub record Step : Type 0 where
  pub line : ℕ
  pub command : Command

-- a scenario has no line of a run
abbrev pub is_of_run : Word → Bool
is_of_run words.Advance = true
is_of_run words.Park = true
is_of_run words.Resume = true
is_of_run word = false

abbrev pub is_drain : List ℕ → Bool
is_drain line = bytes_eq line (codes "drain")

-- a submission may leave its class out, and says one only in a version in which CCBs have classes
abbrev pub may_say : Version → Call → Bool
may_say version (calls.Submit queue priority retries (Some class)) = has_classes version
may_say version call = true

-- a scenario of the version has the line of the call
abbrev pub is_said : Version → Call → Bool
is_said version call = not (is_of_run (word_of call)) && may_say version call

abbrev pub command_text : Version → Command → Option (List ℕ)
command_text version (commands.Call call) = if is_said version call then line_text (word_of call) (values_of call) else None
command_text version commands.Drain = Some (codes "drain")

-- the command of a word and its values

abbrev pub as_command : Version → Option Call → Option Command
as_command version None = None
as_command version (Some call) = if is_said version call then Some (commands.Call call) else None

abbrev pub command_made : Version → Word → Slots Value → Option Command
command_made version word held = as_command version (call_of word held)
