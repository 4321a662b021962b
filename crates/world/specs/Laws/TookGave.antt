-- The freezes that a run got and gave up, read along a run of the world.
use Rattle.std.specs.Prelude.{ℕ, ◌==◌, ◌&&◌, not, if◌then◌else◌, List, [], ◌∷◌, ◌++◌, Option, Some, None}
use Rattle.helpers.specs.declared.columns.Gives.{Gives}
use Rattle.helpers.specs.declared.columns.Gives.TheVariants.{Number, NewFreeze}
use Rattle.helpers.specs.declared.columns.Change.{Change}
use Rattle.helpers.specs.declared.columns.Change.TheVariants as changes
use Rattle.helpers.specs.declared.request.Request.{Request}
use Rattle.helpers.specs.Table.{row_of}
use Rattle.bpf_semantics.specs.Step.{request_at}
use Rattle.world_calls.specs.declared.call.Call.TheVariants.{Complete}
use Rattle.world_calls.specs.declared.call_answer.CallAnswer.TheVariants as answers
use Rattle.world.specs.World.{Setup, LiveRun, World}
use Rattle.world.specs.Lookups.{run_of}
use Rattle.world.specs.Told.{helper_in}
use Rattle.world.specs.Event.{Instruction, private, call, exit, Event, called, executes, instruction_of, Reply, replies, result}
use Rattle.world.specs.WorldRun.{Leads}

-- a freeze of that number was given to that run, if it is this one; 0 is none
abbrev pub given_to : ℕ → ℕ → ℕ → List ℕ
given_to run number freeze = if number == run && not (freeze == 0) then freeze ∷ [] else []

-- the freeze that a call gives to this run by its answer: a new one, by what its helper gives
abbrev pub taken_as : Gives → ℕ → ℕ → ℕ → List ℕ
taken_as (Number least most) run number freeze = []
taken_as NewFreeze run number freeze = given_to run number freeze

-- the freeze that an event gives to this run by its reply: that of its start, and that which its call takes
abbrev pub taken_by : ℕ → Event → Reply → List ℕ
taken_by run (called (Complete outcome)) (replies (answers.Started number freeze)) = given_to run number freeze
taken_by run (executes number (call told)) (result r0) = taken_as (row_of (helper_in told)).gives run number r0
taken_by run event reply = []

-- the freeze that a call gives up, by what its helper changes: that which R1 names
abbrev pub asked_by : Change → Request → List ℕ
asked_by changes.Nothing request = []
asked_by changes.Holds request = []
asked_by changes.GivesUp request = request.arguments.first ∷ []
asked_by changes.Disposes request = []
asked_by (changes.Writes bytes) request = []

-- the freeze that a helper call asks to give back or to hand over
abbrev pub asked : Option Request → List ℕ
asked None = []
asked (Some request) = asked_by (row_of request.helper).machine request

-- the request at which the run stands
abbrev pub request_of_run : Option LiveRun → Option Request
request_of_run None = None
request_of_run (Some run) = request_at run.program run.machine

-- the freeze that an instruction gives up by this request: that which a helper is asked to give back
abbrev pub given_up : Option Instruction → Option Request → List ℕ
given_up None request = []
given_up (Some private) request = []
given_up (Some (call told)) request = asked request
given_up (Some exit) request = []

-- the freeze that an event takes from this run
abbrev pub given_by : ℕ → World → Event → List ℕ
given_by run world event = given_up (instruction_of run event) (request_of_run (run_of run world.runs.list))

-- all that a run got, in order
abbrev pub took : ℕ → List (Event × Reply) → List ℕ
took run [] = []
took run (x ∷ xs) = taken_by run x.0 x.1 ++ took run xs

-- all that it gave up, in order
abbrev pub gave : ℕ → (setup : Setup) (before : World) (xs : List (Event × Reply)) (after : World) → Leads setup before xs after → List ℕ
gave run setup before [] after leads = []
gave run setup before (x ∷ xs) after leads = given_by run before x.0 ++ gave run setup leads.0 xs after leads.2
