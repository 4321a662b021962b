-- Where the completions stand among the calls of the host: no completion is recorded before the host put it, and before each call of
-- the host those are recorded that a drain before it served, and each run that started has ended.
use Rattle.std.specs.Prelude.{◌≡◌, ℕ, ◌+◌, nat_le, Bool, true, false, not, ◌&&◌, ◌==◌, if◌then◌else◌, List, [], ◌∷◌, drop, length}
use Rattle.world_calls.specs.declared.call_answer.CallAnswer.TheVariants.{Started}
use Rattle.world_calls.specs.declared.record.Record.{Record}
use Rattle.world_calls.specs.declared.record.Record.TheVariants.{Called, Advance}
use Rattle.world_calls.specs.declared.record.StoppedAt.TheVariants.{Exit}
use Rattle.scenario.specs.Commands.{Step}
use Rattle.scenario.specs.declared.command.Command.{Command}
use Rattle.scenario.specs.declared.command.Command.TheVariants as commands
use Rattle.workers.specs.Recorded.{completion_in}
use Rattle.host_scenario.specs.Asked.{is_by_host, is_hosts}
use Rattle.host_scenario.specs.declared.turns.Doing.{Doing}
use Rattle.host_scenario.specs.declared.turns.Doing.TheVariants.{Puts, Drains, Calls}
use Rattle.host_scenario.specs.declared.turns.Reached.{Reached}

-- how many completions a record tells, how many runs start by it, and how many end
abbrev pub completions_in : Record → ℕ
completions_in made = length (completion_in made)

abbrev pub starts_in : Record → ℕ
starts_in (Called (Started run freeze) call) = 1
starts_in made = 0

abbrev pub ends_in : Record → ℕ
ends_in (Advance run instructions Exit r0) = 1
ends_in made = 0

-- how many of these there are before the first record that the host made
abbrev pub leading : (Record → ℕ) → List Record → ℕ
leading many [] = 0
leading many (made ∷ rest) = if is_by_host made then 0 else many made + leading many rest

-- the records from that one on
abbrev pub from_host : List Record → List Record
from_host [] = []
from_host (made ∷ rest) = if is_by_host made then made ∷ rest else from_host rest

abbrev pub is_no_record : List Record → Bool
is_no_record [] = true
is_no_record (made ∷ rest) = false

-- what the host does for a command
abbrev pub doing : Command → Doing
doing (commands.Call call) = if is_hosts call then Calls else Puts
doing commands.Drain = Drains

-- The place that some steps reach in a history. The host has put so many completions, and so many of these before its last drain. So
-- many completions are recorded before the records that are left, so many runs started, and so many ended.
pub record Turn : Type 0 where
  pub put : ℕ
  pub drained : ℕ
  pub served : ℕ
  pub started : ℕ
  pub ended : ℕ
  pub rest : List Record

abbrev pub first_turn : List Record → Turn
first_turn records = record { put = 0; drained = 0; served = 0; started = 0; ended = 0; rest = records }

-- the place that the walk over these records has reached
abbrev pub seen : Reached → List Record → Turn
seen reached records = record { put = reached.put; drained = reached.drained; served = reached.served; started = reached.started; ended = reached.ended; rest = drop reached.place records }

-- the place of the host's next record
abbrev pub at_host : Turn → Turn
at_host turn = record {
  put = turn.put;
  drained = turn.drained;
  served = turn.served + leading completions_in turn.rest;
  started = turn.started + leading starts_in turn.rest;
  ended = turn.ended + leading ends_in turn.rest;
  rest = from_host turn.rest;
}

-- the completions that were drained are recorded, and none that was not put; each run that started has ended
abbrev pub is_settled : (put drained served started ended : ℕ) → Bool
is_settled put drained served started ended = nat_le drained served && nat_le served put && (started == ended)

abbrev pub are_settled : Turn → Bool
are_settled turn = is_settled turn.put turn.drained turn.served turn.started turn.ended

-- a call of the host finds them so, and has a record
abbrev pub may_do : Doing → Turn → Bool
may_do Puts turn = true
may_do Drains turn = true
may_do Calls turn = are_settled (at_host turn) && not (is_no_record (at_host turn).rest)

abbrev pub after_first : Turn → Turn
after_first turn = record { put = turn.put; drained = turn.drained; served = turn.served; started = turn.started; ended = turn.ended; rest = drop 1 turn.rest }

abbrev pub turn_after : Doing → Turn → Turn
turn_after Puts turn = record { put = turn.put + 1; drained = turn.drained; served = turn.served; started = turn.started; ended = turn.ended; rest = turn.rest }
turn_after Drains turn = record { put = turn.put; drained = turn.put; served = turn.served; started = turn.started; ended = turn.ended; rest = turn.rest }
turn_after Calls turn = after_first (at_host turn)

-- the host made no more records, and all is settled
abbrev pub may_end : Turn → Bool
may_end turn = is_no_record (at_host turn).rest && are_settled (at_host turn)

-- These steps may follow from there on. Where they are all of a scenario, a last drain follows them.
abbrev pub are_in_turn : Bool → Turn → List Step → Bool
are_in_turn all turn [] = may_end (if all then turn_after Drains turn else turn)
are_in_turn all turn (step ∷ steps) = may_do (doing step.command) turn && are_in_turn all (turn_after (doing step.command) turn) steps

-- a whole scenario's steps, and those that were carried out before one that was not
abbrev pub AreInTurn : List Step → List Record → Type 0
AreInTurn steps records = are_in_turn true (first_turn records) steps ≡ true

abbrev pub AreInTurnSoFar : List Step → List Record → Type 0
AreInTurnSoFar steps records = are_in_turn false (first_turn records) steps ≡ true
