-- The call of a helper: with which arguments it is made, and by which rule. The rule is what the helper needs of the
-- run, that each argument is as its row asks, and that there is such a helper.
use Rattle.std.specs.Prelude.{ℕ, Bool, true, not, ◌&&◌, ◌==◌, nat_le, nat_lt, List, [], length, Option, Some, None, if◌then◌else◌, slice_index_or}
use Rattle.std.specs.Option.{option_map, option_and_then}
use Rattle.std.specs.List.{list_any}
use Rattle.bpf_insn.specs.declared.reg.Reg.{Reg}
use Rattle.bpf_insn.specs.declared.reg.Reg.TheVariants.{R1, R2, R3}
use Rattle.helpers.specs.declared.limits.HelperLimits.{HelperLimits}
use Rattle.helpers.specs.declared.table.Helper.{Helper}
use Rattle.helpers.specs.declared.columns.ArgKind.{ArgKind}
use Rattle.helpers.specs.declared.columns.ArgKind.TheVariants.{Queue, HeldFreeze, Within, Table, Index, Word, Room, Bytes}
use Rattle.helpers.specs.declared.columns.Needs.{Needs}
use Rattle.helpers.specs.declared.columns.Needs.TheVariants as needs
use Rattle.helpers.specs.declared.columns.Tells.{Tells}
use Rattle.helpers.specs.declared.columns.Tells.TheVariants as tells
use Rattle.helpers.specs.declared.request.Arguments.{Arguments}
use Rattle.helpers.specs.declared.request.Request.{Request}
use Rattle.helpers.specs.Table.{asks, is_there, row_of}
use Rattle.bpf_semantics.specs.declared.bounds.TheConstants.{MAX_HELD}
use Rattle.bpf_semantics.specs.MachineState.{MachineState, register}
use Rattle.bpf_stack_frame.specs.Frame.{all_written as written_bytes}
use Rattle.bpf_semantics.specs.Frames.{frame_bytes, has_room, has_written}

-- what an argument is; a register that the helper does not read counts as 0
abbrev pub argument : MachineState → Option ArgKind → Reg → Option ℕ
argument m (Some asked) reg = register m reg
argument m None reg = Some 0

abbrev pub all_written : Option ℕ → Option ℕ → Option ℕ → Option Arguments
all_written (Some first) (Some second) (Some third) = Some (record { first = first; second = second; third = third })
all_written (Some first) (Some second) None = None
all_written (Some first) None third = None
all_written None second third = None

-- the arguments with which the machine calls a helper, where all are written
abbrev pub arguments_at : MachineState → Helper → Option Arguments
arguments_at m helper = all_written (argument m (asks helper).first R1) (argument m (asks helper).second R2) (argument m (asks helper).third R3)

-- so many bytes from an address on, which the history can be told: 1 to 64 that lie in one live frame and are all written
abbrev pub traced : MachineState → ℕ → ℕ → Option (List ℕ)
traced m address bytes =
    if nat_le 1 bytes && nat_le bytes 64 then option_and_then written_bytes (frame_bytes 0 m.frames address bytes) else None

-- the bytes that a call names, by what its helper tells
abbrev pub named_bytes : MachineState → Tells → Arguments → Option (List ℕ)
named_bytes m tells.Name arguments = Some []
named_bytes m tells.Bytes arguments = traced m arguments.first arguments.second
named_bytes m tells.Code arguments = Some []

-- the machine's call of a helper with these arguments
abbrev pub request_with : MachineState → Helper → Arguments → Option Request
request_with m helper arguments =
    option_map (λ bytes. record { helper = helper; arguments = arguments; bytes = bytes }) (named_bytes m (row_of helper).tells arguments)

-- the machine's call of a helper
abbrev pub request_by : MachineState → Helper → Option Request
request_by m helper = option_and_then (request_with m helper) (arguments_at m helper)

-- the freeze is among those held
abbrev pub is_held : List ℕ → ℕ → Bool
is_held held freeze = list_any (λ number. number == freeze) held

-- an argument is as asked
abbrev pub is_as_asked : HelperLimits → MachineState → Arguments → ArgKind → ℕ → Bool
is_as_asked limits m arguments Queue value = nat_lt value limits.queues
is_as_asked limits m arguments HeldFreeze value = is_held m.held value
is_as_asked limits m arguments (Within least most) value = nat_le least value && nat_le value most
is_as_asked limits m arguments Table value = nat_lt value (length limits.table_lengths)
is_as_asked limits m arguments Index value = nat_lt value (slice_index_or limits.table_lengths arguments.first 0)
is_as_asked limits m arguments Word value = true
is_as_asked limits m arguments (Room bytes) value = has_room 0 m.frames value bytes
is_as_asked limits m arguments Bytes value = has_written 0 m.frames value arguments.second

-- and one that the helper does not take may be anything
abbrev pub meets : HelperLimits → MachineState → Arguments → Option ArgKind → ℕ → Bool
meets limits m arguments (Some asked) value = is_as_asked limits m arguments asked value
meets limits m arguments None value = true

-- what a helper needs of the run: room for a further freeze, or a CCB that is not disposed of
abbrev pub meets_need : MachineState → Needs → Bool
meets_need m needs.Nothing = true
meets_need m needs.Room = nat_lt (length m.held) MAX_HELD
meets_need m needs.Undisposed = not m.disposed

-- the rule of a helper
abbrev pub obeys : HelperLimits → MachineState → Helper → Arguments → Bool
obeys limits m helper arguments =
    meets_need m (row_of helper).needs
    && (meets limits m arguments (asks helper).first arguments.first
    && (meets limits m arguments (asks helper).second arguments.second
    && (meets limits m arguments (asks helper).third arguments.third && is_there limits.helpers helper)))

-- the rule of a call
abbrev pub meets_rule : HelperLimits → MachineState → Request → Bool
meets_rule limits m request = obeys limits m request.helper request.arguments
