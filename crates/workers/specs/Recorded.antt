-- Which completions the records of a caller speak of: each that its seat took, once and in the order of the takes.
use Rattle.std.specs.Prelude.{◌≡◌, List, [], ◌∷◌, ◌++◌}
use Rattle.std.specs.List.{AllZip}
use Rattle.world_calls.specs.declared.call.Call.TheVariants.{Complete}
use Rattle.world_calls.specs.declared.record.Record.{Record}
use Rattle.world_calls.specs.declared.record.Record.TheVariants.{Called}
use Rattle.ccb.specs.Completion.{Outcome}
use Rattle.workers.specs.Serving.{SeatState, Took}

-- the completion that a record tells
abbrev pub completion_in : Record → List Outcome
completion_in (Called answer (Complete completion)) = completion ∷ []
completion_in made = []

-- those of these records, in their order
abbrev pub completions_of : List Record → List Outcome
completions_of [] = []
completions_of (made ∷ rest) = completion_in made ++ completions_of rest

-- The same seat, whose pass took these since, and whose caller recorded just these completions since.
pub record IsSeatRecorded (before after : SeatState) : Type 0 where
  pub taken : List Outcome
  pub pass : Took before.pass after.pass taken
  pub number : after.caller.number ≡ before.caller.number
  pub recorded : completions_of after.caller.mine ≡ completions_of before.caller.mine ++ taken

-- each of the seats did
abbrev pub AreRecorded : List SeatState → List SeatState → Type 0
AreRecorded before after = AllZip IsSeatRecorded before after
