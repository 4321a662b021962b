-- A worked run: a CCB times out, its queue is frozen, and the queue's program freezes queue 1, hands that freeze over to a
-- timer, gives its own back and finishes the CCB.
use Rattle.std.proofs.Common.{◌≡◌, ℕ, pos, List, [], ◌∷◌, Some, Ok, refl, None}
use Rattle.ccb.specs.declared.cam_status.CamStatus.TheVariants.{CommandTimeout}
use Rattle.bpf_insn.specs.declared.insn.Insn.{Insn}
use Rattle.bpf_insn.specs.declared.insn.Insn.TheVariants.{Alu, Call, Exit}
use Rattle.bpf_insn.specs.declared.insn.Operand.TheVariants.{Immediate, Register}
use Rattle.bpf_insn.specs.declared.insn.Callee.TheVariants.{Helper}
use Rattle.bpf_insn.specs.declared.insn.Width.TheVariants.{Bits64}
use Rattle.bpf_insn.specs.declared.insn.AluOp.TheVariants.{Mov}
use Rattle.bpf_insn.specs.declared.reg.Reg.{Reg}
use Rattle.bpf_insn.specs.declared.reg.Reg.TheVariants.{R0, R1, R2, R6}
use Rattle.bpf_insn.specs.Program.{layout}
use Rattle.freeze_ledger.specs.declared.freeze.Holder.TheVariants.{Timer}
use Rattle.helpers.specs.declared.table.Helper.TheVariants as helpers
use Rattle.helpers.specs.Table.{of_queues, row_of}
use Rattle.world_calls.specs.declared.record.StoppedAt.TheVariants.{Helper as AtHelper, Finish, Exit as AtExit}
use Rattle.world_calls.specs.declared.record.Record.{Record}
use Rattle.world_calls.specs.declared.call.Call.TheVariants.{Submit, Dispatch, Complete, Clock}
use Rattle.world_calls.specs.declared.call_answer.CallAnswer.TheVariants as answers
use Rattle.world_calls.specs.declared.record.Record.TheVariants.{Called, Advance}
use Rattle.ccb.specs.Places.{device}
use Rattle.world.specs.World.{QueueSetup, Setup, World, opening}
use Rattle.world.specs.Told.{plain, finishes}
use Rattle.world.specs.Event.{private, call, exit, Event, executes, Reply, went_on, result}
use Rattle.world_laws.proofs.Rows.Words.{submit, dispatch, complete, clock_reads, ccb_given, run_started, expired}
use Rattle.world.specs.WorldRun.{WorldRun}
use Rattle.world.specs.Laws.TookGave.{took, gave}
use Rattle.world.specs.Laws.CcbLaws.{finished_in}
use Rattle.world.specs.Laws.Headline.{steps_of, disposals_of, exits_of}
use Rattle.world.specs.Flat.{flat}
use Rattle.world_laws.proofs.Rows.Worked.{outcome_of, answer}

abbrev copy : Reg → Reg → Insn
copy dst src = Alu Bits64 Mov dst (Register src)

abbrev mov : Reg → ℕ → Insn
mov dst value = Alu Bits64 Mov dst (Immediate (pos value))

abbrev queue : QueueSetup
queue = record {
  openings = 1;
  controller = 0;
  program = layout (
      copy R6 R2
      ∷ mov R1 1
      ∷ Call (Helper (pos 1))
      ∷ copy R1 R0
      ∷ mov R2 500
      ∷ Call (Helper (pos 3))
      ∷ copy R1 R6
      ∷ Call (Helper (pos 2))
      ∷ mov R1 11
      ∷ Call (Helper (pos 5))
      ∷ Exit ∷ []);
  budget = 11;
}

abbrev setup : Setup
setup = record { limits = of_queues 2 []; controllers = 0; tables = []; queues = queue ∷ queue ∷ []; carried = None }

-- the records that a transport makes of it
abbrev records : List Record
records =
    Called (answers.Removed 0) (Clock 1000)
    ∷ Called (answers.Ccb (record { 0 = 1 })) (Submit (record { 0 = 0 }) 10 3 None)
    ∷ Called (answers.Ccb (record { 0 = 1 })) (Dispatch (record { 0 = 0 }))
    ∷ Called (answers.Started 1 1) (Complete (outcome_of 1 CommandTimeout))
    ∷ Advance 1 3 (AtHelper helpers.Freeze) 2
    ∷ Advance 1 3 (AtHelper helpers.ReleaseAfter) 0
    ∷ Advance 1 2 (AtHelper helpers.Release) 0
    ∷ Advance 1 2 (Finish helpers.Finish 11) 0
    ∷ Advance 1 1 AtExit 0 ∷ []

abbrev events : List (Event × Reply)
events =
    (clock_reads 1000, expired 0)
    ∷ (submit 0 10 3, ccb_given 1)
    ∷ (dispatch 0, ccb_given 1)
    ∷ (complete (outcome_of 1 CommandTimeout), run_started 1 1)
    ∷ (executes 1 private, went_on) ∷ (executes 1 private, went_on) ∷ (executes 1 (call (plain helpers.Freeze)), result 2)
    ∷ (executes 1 private, went_on) ∷ (executes 1 private, went_on) ∷ (executes 1 (call (plain helpers.ReleaseAfter)), result 0)
    ∷ (executes 1 private, went_on) ∷ (executes 1 (call (plain helpers.Release)), result 0)
    ∷ (executes 1 private, went_on) ∷ (executes 1 (call (finishes helpers.Finish 11)), result 0)
    ∷ (executes 1 exit, result 0) ∷ []

what_they_stand_for : flat records ≡ events
what_they_stand_for = refl

-- at the end there is neither a CCB nor a run, and a timer freezes queue 1
abbrev at_end : World
at_end = record { transport = record { live = []; freezes = record { number = 2; place = device 1; holder = Timer 1500 } ∷ []; openings = 1 ∷ 1 ∷ []; greatest_ccb = 1; greatest_freeze = 2; clock = 1000 }; runs = record { list = []; tables = []; greatest = 1 }; ended = record { number = 1; code = 11 } ∷ [] }

it_runs : WorldRun setup events at_end
unfolding row_of
it_runs = (tt, (_, refl, (_, refl, (_, refl, (_, refl, (_, refl, (_, refl, (_, refl, (_, refl, (_, refl, (_, refl, (_, refl, (_, refl, (_, refl, (_, refl, (_, refl, refl))))))))))))))))

-- it got freeze 1 at its start and took freeze 2, and gave up both
it_took : took 1 events ≡ 1 ∷ 2 ∷ []
unfolding row_of
it_took = refl

it_gave : gave 1 setup (opening setup) events at_end it_runs.1 ≡ 2 ∷ 1 ∷ []
unfolding it_runs
it_gave = refl

-- its eleven steps are its budget; it disposed of its CCB once, and exited
its_steps : (steps_of 1 events ≡ 11) × (disposals_of 1 events ≡ 1) × (exits_of 1 events ≡ 1)
unfolding row_of
its_steps = (refl, refl, refl)

-- the CCB ended with the code that the program named
its_code : finished_in setup (opening setup) events at_end it_runs.1 ≡ record { number = 1; code = 11 } ∷ []
unfolding it_runs
its_code = refl

-- the timer's freeze goes at its time
then_it_goes : answer setup at_end (clock_reads 1500) ≡ Some (expired 1)
then_it_goes = refl
