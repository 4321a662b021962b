-- What a scenario asks of the engine by its host: a call a line, but for completions, which workers ask for, and for drains. And of
-- which freezes the host holds the tokens then.
use Rattle.std.specs.Prelude.{◌≡◌, ℕ, ◌==◌, Bool, true, false, not, ◌&&◌, ◌||◌, if◌then◌else◌, List, [], ◌∷◌, map, Option, Some, None}
use Rattle.world_calls.specs.declared.call.Call.{Call}
use Rattle.world_calls.specs.declared.call.Call.TheVariants as its
use Rattle.world_calls.specs.declared.call_answer.CallAnswer.TheVariants.{Freeze, Left}
use Rattle.world_calls.specs.declared.record.Record.{Record}
use Rattle.world_calls.specs.declared.record.Record.TheVariants.{Called, Advance}
use Rattle.world_calls.specs.declared.trace.Version.{Version}
use Rattle.trace_lines.specs.Versions.{has_classes}
use Rattle.world.specs.World.{class_in}
use Rattle.scenario.specs.Commands.{Step}
use Rattle.scenario.specs.declared.command.Command.{Command}
use Rattle.scenario.specs.declared.command.Command.TheVariants as commands

-- whether the host makes such calls; workers make completions, parks and advances
abbrev pub is_hosts : Call → Bool
is_hosts (its.Complete completion) = false
is_hosts (its.Park run) = false
is_hosts call = true

-- The class that a record of a submission says: where CCBs have one it is that of the line, which is 0 if the line says none.
abbrev pub class_told : Version → Option ℕ → Option ℕ
class_told version class = if has_classes version then Some (class_in class) else None

-- a line's call, as a record of the version tells it
abbrev pub call_told : Version → Call → Call
call_told version (its.Submit queue priority retries class) = its.Submit queue priority retries (class_told version class)
call_told version call = call

-- the call that the host asks for
abbrev pub call_of : Version → Command → Option Call
call_of version (commands.Call call) = if is_hosts call then Some (call_told version call) else None
call_of version commands.Drain = None

abbrev pub with_call : Option Call → List Call → List Call
with_call None calls = calls
with_call (Some call) calls = call ∷ calls

-- the calls of these steps, in their order
abbrev pub calls_of : Version → List Step → List Call
calls_of version [] = []
calls_of version (step ∷ steps) = with_call (call_of version step.command) (calls_of version steps)

-- the call that a record tells; an advance is none
abbrev pub call_in : Record → Option Call
call_in (Called answer call) = Some call
call_in (Advance run instructions stop r0) = None

-- the records are those of these calls, in their order, each with its answer
abbrev pub AreOf : List Record → List Call → Type 0
AreOf records calls = map call_in records ≡ map Some calls

abbrev pub is_by_host : Record → Bool
is_by_host (Called answer call) = is_hosts call
is_by_host (Advance run instructions stop r0) = false

-- those that it makes, in their order
abbrev pub by_host : List Record → List Record
by_host [] = []
by_host (made ∷ rest) = if is_by_host made then made ∷ by_host rest else by_host rest

-- whether the freeze of this number is held after a record, where it was or was not before
abbrev pub held_behind : ℕ → Bool → Record → Bool
held_behind number was (Called (Freeze taken) call) = (taken == number) || was
held_behind number was (Called (Left count) (its.GuestRelease given)) = not (given == number) && was
held_behind number was other = was

abbrev pub held_after : ℕ → Bool → List Record → Bool
held_after number was [] = was
held_after number was (made ∷ rest) = held_after number (held_behind number was made) rest

-- a guest of whoever made these records holds the freeze of this number: it was taken, and not given back since
abbrev pub is_held : ℕ → List Record → Bool
is_held number records = held_after number false records
