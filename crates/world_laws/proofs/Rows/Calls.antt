-- Worked rows of helpers 1, 3 and 5: a freeze that a run takes, one that it hands over to a timer, and a CCB that it
-- finishes with a code.
use Rattle.std.proofs.Common.{◌≡◌, ℕ, pos, Bool, true, false, List, [], ◌∷◌, map, Some, None, refl, replicate}
use Rattle.bpf_insn.specs.declared.insn.Insn.TheVariants.{Call}
use Rattle.bpf_insn.specs.declared.insn.Callee.TheVariants.{Helper}
use Rattle.bpf_insn.specs.declared.program.Slot.TheVariants.{First}
use Rattle.bpf_semantics.specs.MachineState.{unwritten_frame}
use Rattle.freeze_ledger.specs.declared.freeze.Holder.{Holder}
use Rattle.freeze_ledger.specs.declared.freeze.Holder.TheVariants.{Run, Timer, Guest}
use Rattle.freeze_ledger.specs.declared.freeze.Freeze.{Freeze}
use Rattle.helpers.specs.declared.table.Helper.TheVariants as helpers
use Rattle.helpers.specs.Table.{of_queues, row_of}
use Rattle.helpers.specs.declared.limits.HelperLimits.{HelperLimits}
use Rattle.world_calls.specs.declared.record.StoppedAt.TheVariants.{Helper as AtHelper, Finish}
use Rattle.world_calls.specs.declared.record.Record.TheVariants.{Advance}
use Rattle.world.specs.declared.ccb_state.CcbState.TheVariants.{InRecovery}
use Rattle.ccb.specs.Places.{device}
use Rattle.world.specs.World.{Setup, LiveRun, World}
use Rattle.world.specs.Told.{plain, traces, finishes}
use Rattle.world.specs.Event.{call, Event, executes, result}
use Rattle.world_laws.proofs.Rows.Words.{clock_reads, expired}
use Rattle.world.specs.Step.{step}
use Rattle.world.specs.Flat.{flat}
use Rattle.world_laws.proofs.Rows.Worked.{answer, ccb_in, next, running, transported, two_queues, with_freezes}

abbrev pub limits : HelperLimits
limits = of_queues 2 []

abbrev pub setup : Setup
setup = two_queues limits

-- run 1 of queue 0 stands at a call of this helper with these arguments, and holds these freezes
abbrev pub run_at : ℕ → ℕ → ℕ → List ℕ → Bool → LiveRun
run_at helper first second held disposed = record {
  number = 1;
  ccb = 1;
  queue = 0;
  controller = 0;
  program = First (Call (Helper (pos helper))) ∷ [];
  machine = record {
    pc = 0;
    registers = None ∷ Some first ∷ Some second ∷ None ∷ None ∷ None ∷ None ∷ None ∷ None ∷ None ∷ None ∷ [];
    frames = unwritten_frame ∷ [];
    open_calls = [];
    context = [];
    held = held;
    disposed = disposed;
  };
  out = true;
}

-- it recovers CCB 1, and the clock is at 1000
abbrev with_run : LiveRun → List Freeze → ℕ → World
with_run run freezes greatest = (transported (λ t. record t { live = ccb_in 1 5 InRecovery ∷ []; greatest_ccb = 1; clock = 1000 }) (running (λ r. record r { list = run ∷ []; greatest = 1 }) (with_freezes freezes greatest)))

abbrev freeze_by : ℕ → ℕ → Holder → Freeze
freeze_by number queue holder = record { number = number; place = device queue; holder = holder }

abbrev held_in : World → List (List ℕ)
held_in world = map (λ run. run.machine.held) world.runs.list

-- A freeze of any queue is taken under the next number, and comes last.

abbrev takes : Event
takes = executes 1 (call (plain helpers.Freeze))

abbrev one_held : List Freeze
one_held = freeze_by 3 0 (Run 1) ∷ freeze_by 7 1 (Guest 2) ∷ []

abbrev at_freeze : World
at_freeze = with_run (run_at 1 1 0 (3 ∷ []) false) one_held 9

taken : answer setup at_freeze takes ≡ Some (result 10)
unfolding row_of
taken = refl

its_freeze : (next setup at_freeze takes).transport.freezes ≡ freeze_by 3 0 (Run 1) ∷ freeze_by 7 1 (Guest 2) ∷ freeze_by 10 1 (Run 1) ∷ []
unfolding row_of
its_freeze = refl

both_held : held_in (next setup at_freeze takes) ≡ (3 ∷ 10 ∷ []) ∷ []
unfolding row_of
both_held = refl

-- where a further one meets a limit the answer is 0, and nothing is taken
abbrev full_queue : World
full_queue = with_run (run_at 1 1 0 (3 ∷ []) false) (freeze_by 3 0 (Run 1) ∷ replicate 255 (freeze_by 7 1 (Guest 2))) 9

not_taken : answer setup full_queue takes ≡ Some (result 0)
unfolding row_of
not_taken = refl

no_freeze_more : (next setup full_queue takes).transport.freezes ≡ full_queue.transport.freezes
unfolding row_of
no_freeze_more = refl

no_number_used : (next setup full_queue takes).transport.greatest_freeze ≡ 9
unfolding row_of
no_number_used = refl

one_still : held_in (next setup full_queue takes) ≡ (3 ∷ []) ∷ []
unfolding row_of
one_still = refl

-- that queue 1 is full is nothing to queue 0
another_queue : answer setup (with_run (run_at 1 0 0 (3 ∷ []) false) full_queue.transport.freezes 9) takes ≡ Some (result 10)
unfolding row_of
another_queue = refl

last_number : answer setup (with_run (run_at 1 1 0 (3 ∷ []) false) one_held 4294967294) takes ≡ Some (result 4294967295)
unfolding row_of
last_number = refl

numbers_used_up : answer setup (with_run (run_at 1 1 0 (3 ∷ []) false) one_held 4294967295) takes ≡ Some (result 0)
unfolding row_of
numbers_used_up = refl

-- there is no queue 2, and a run holds eight at most
no_such_queue : step setup (with_run (run_at 1 2 0 (3 ∷ []) false) one_held 9) takes ≡ None
unfolding row_of
no_such_queue = refl

no_ninth : step setup (with_run (run_at 1 1 0 (1 ∷ 2 ∷ 3 ∷ 4 ∷ 5 ∷ 6 ∷ 7 ∷ 8 ∷ []) false) one_held 9) takes ≡ None
unfolding row_of
no_ninth = refl

-- A freeze that is handed over has a timer, which is due so many milliseconds after the clock, and the run holds it no more.

abbrev hands_over : Event
hands_over = executes 1 (call (plain helpers.ReleaseAfter))

abbrev at_release_after : World
at_release_after = with_run (run_at 3 3 500 (3 ∷ 8 ∷ []) false) (freeze_by 3 1 (Run 1) ∷ freeze_by 7 1 (Guest 2) ∷ freeze_by 8 0 (Run 1) ∷ []) 9

handed_over : answer setup at_release_after hands_over ≡ Some (result 0)
unfolding row_of
handed_over = refl

its_timer : (next setup at_release_after hands_over).transport.freezes ≡ freeze_by 3 1 (Timer 1500) ∷ freeze_by 7 1 (Guest 2) ∷ freeze_by 8 0 (Run 1) ∷ []
unfolding row_of
its_timer = refl

one_left : held_in (next setup at_release_after hands_over) ≡ (8 ∷ []) ∷ []
unfolding row_of
one_left = refl

-- it goes at the first reading at or after its time
too_early : answer setup (next setup at_release_after hands_over) (clock_reads 1499) ≡ Some (expired 0)
unfolding row_of
too_early = refl

in_time : (next setup (next setup at_release_after hands_over) (clock_reads 1500)).transport.freezes ≡ freeze_by 7 1 (Guest 2) ∷ freeze_by 8 0 (Run 1) ∷ []
unfolding row_of
in_time = refl

-- what the run does not hold it does not hand over, nor with no time, nor with more than 600,000 milliseconds
not_held : step setup (with_run (run_at 3 7 500 (3 ∷ []) false) one_held 9) hands_over ≡ None
unfolding row_of
not_held = refl

not_its : step setup (with_run (run_at 3 7 500 (3 ∷ 7 ∷ []) false) one_held 9) hands_over ≡ None
unfolding row_of
not_its = refl

no_time : step setup (with_run (run_at 3 3 0 (3 ∷ []) false) one_held 9) hands_over ≡ None
unfolding row_of
no_time = refl

longest : answer setup (with_run (run_at 3 3 600000 (3 ∷ []) false) one_held 9) hands_over ≡ Some (result 0)
unfolding row_of
longest = refl

too_long : step setup (with_run (run_at 3 3 600001 (3 ∷ []) false) one_held 9) hands_over ≡ None
unfolding row_of
too_long = refl

-- A CCB that is finished is gone at once, with the code; its run goes on, and has disposed of it.

abbrev at_finish : World
at_finish = with_run (run_at 5 11 0 (3 ∷ []) false) one_held 9

abbrev pub ends : ℕ → Event
ends code = executes 1 (call (finishes helpers.Finish code))

finished : answer setup at_finish (ends 11) ≡ Some (result 0)
unfolding row_of
finished = refl

gone : (next setup at_finish (ends 11)).transport.live ≡ []
unfolding row_of
gone = refl

its_code : (next setup at_finish (ends 11)).ended ≡ record { number = 1; code = 11 } ∷ []
unfolding row_of
its_code = refl

disposed_of : map (λ run. run.machine.disposed) (next setup at_finish (ends 11)).runs.list ≡ true ∷ []
unfolding row_of
disposed_of = refl

its_freezes_stay : (next setup at_finish (ends 11)).transport.freezes ≡ one_held
unfolding row_of
its_freezes_stay = refl

-- a code is 63 at most, and no CCB is finished twice
last_code : answer setup (with_run (run_at 5 63 0 [] false) [] 0) (ends 63) ≡ Some (result 0)
unfolding row_of
last_code = refl

no_code : step setup (with_run (run_at 5 64 0 [] false) [] 0) (ends 64) ≡ None
unfolding row_of
no_code = refl

no_second_time : step setup (with_run (run_at 5 11 0 [] true) [] 0) (ends 11) ≡ None
unfolding row_of
no_second_time = refl

-- A record tells the helper and the code, and one that tells another code, or none, or another helper, or a trace, stands for
-- no step.

its_record : flat (Advance 1 1 (Finish helpers.Finish 11) 0 ∷ []) ≡ (ends 11, result 0) ∷ []
its_record = refl

other_code : step setup at_finish (ends 12) ≡ None
unfolding row_of
other_code = refl

untold : flat (Advance 1 1 (AtHelper helpers.Finish) 0 ∷ []) ≡ (executes 1 (call (plain helpers.Finish)), result 0) ∷ []
untold = refl

without_code : step setup at_finish (executes 1 (call (plain helpers.Finish))) ≡ None
unfolding row_of
without_code = refl

of_another_helper : step setup at_finish (executes 1 (call (finishes helpers.Requeue 11))) ≡ None
unfolding row_of
of_another_helper = refl

as_trace : step setup at_finish (executes 1 (call (traces helpers.Finish (11 ∷ [])))) ≡ None
unfolding row_of
as_trace = refl

as_trace_helper : step setup at_finish (executes 1 (call (traces helpers.Trace (11 ∷ [])))) ≡ None
unfolding row_of
as_trace_helper = refl
