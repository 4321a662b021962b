-- A worked run: a CCB of class 40 times out, its program advises a word and then another one, gives the freeze back and makes the CCB wait
-- again. Its next start tells the last advice, and the one after that none.
use Rattle.std.proofs.Common.{◌≡◌, ℕ, pos, List, [], ◌∷◌, map, Some, refl, None}
use Rattle.ccb.specs.declared.cam_status.CamStatus.TheVariants.{CommandTimeout, RequestCompleted}
use Rattle.bpf_insn.specs.declared.insn.Insn.{Insn}
use Rattle.bpf_insn.specs.declared.insn.Insn.TheVariants.{Alu, Call, Exit}
use Rattle.bpf_insn.specs.declared.insn.Operand.TheVariants.{Immediate, Register}
use Rattle.bpf_insn.specs.declared.insn.Callee.TheVariants.{Helper}
use Rattle.bpf_insn.specs.declared.insn.Width.TheVariants.{Bits64}
use Rattle.bpf_insn.specs.declared.insn.AluOp.TheVariants.{Mov}
use Rattle.bpf_insn.specs.declared.reg.Reg.{Reg}
use Rattle.bpf_insn.specs.declared.reg.Reg.TheVariants.{R1, R2, R6}
use Rattle.bpf_insn.specs.Program.{layout}
use Rattle.helpers.specs.declared.limits.HelperSet.TheVariants.{Classes}
use Rattle.helpers.specs.declared.table.Helper.TheVariants as helpers
use Rattle.helpers.specs.Table.{of_queues, row_of}
use Rattle.world_calls.specs.declared.record.StoppedAt.TheVariants.{Helper as AtHelper, Exit as AtExit}
use Rattle.world_calls.specs.declared.record.Record.{Record}
use Rattle.world_calls.specs.declared.call.Call.TheVariants.{Submit, Dispatch, Complete}
use Rattle.world_calls.specs.declared.call_answer.CallAnswer.TheVariants as answers
use Rattle.world_calls.specs.declared.record.Record.TheVariants.{Called, Advance}
use Rattle.world.specs.World.{QueueSetup, Setup, World, opening}
use Rattle.world.specs.Told.{plain}
use Rattle.world.specs.Event.{private, call, exit, Event, executes, Reply, went_on, result}
use Rattle.world.specs.WorldRun.{WorldRun, world_after}
use Rattle.world.specs.Laws.Headline.{steps_of, disposals_of, exits_of}
use Rattle.world.specs.Flat.{flat}
use Rattle.world_laws.proofs.Rows.Words.{submit_as, dispatch, complete, ccb_given, ccb_advised, run_started, done}
use Rattle.world_laws.proofs.Rows.Worked.{outcome_of, next}

abbrev copy : Reg → Reg → Insn
copy dst src = Alu Bits64 Mov dst (Register src)

abbrev mov : Reg → ℕ → Insn
mov dst value = Alu Bits64 Mov dst (Immediate (pos value))

abbrev queue : QueueSetup
queue = record {
  openings = 1;
  controller = 0;
  program = layout (
      copy R6 R2
      ∷ mov R1 2
      ∷ Call (Helper (pos 15))
      ∷ mov R1 65536
      ∷ Call (Helper (pos 15))
      ∷ copy R1 R6
      ∷ Call (Helper (pos 2))
      ∷ mov R1 1
      ∷ Call (Helper (pos 4))
      ∷ Exit ∷ []);
  budget = 10;
}

abbrev setup : Setup
setup = record { limits = record (of_queues 1 []) { helpers = Classes }; controllers = 1; tables = []; queues = queue ∷ []; carried = None }

-- the records that a transport makes of it
abbrev records : List Record
records =
    Called (answers.Ccb (record { 0 = 1 })) (Submit (record { 0 = 0 }) 10 3 (Some 40))
    ∷ Called (answers.Advised (record { 0 = 1 }) 0) (Dispatch (record { 0 = 0 }))
    ∷ Called (answers.Started 1 1) (Complete (outcome_of 1 CommandTimeout))
    ∷ Advance 1 3 (AtHelper helpers.Advise) 0
    ∷ Advance 1 2 (AtHelper helpers.Advise) 0
    ∷ Advance 1 2 (AtHelper helpers.Release) 0
    ∷ Advance 1 2 (AtHelper helpers.Requeue) 0
    ∷ Advance 1 1 AtExit 0
    ∷ Called (answers.Advised (record { 0 = 1 }) 65536) (Dispatch (record { 0 = 0 }))
    ∷ Called answers.Done (Complete (outcome_of 1 RequestCompleted)) ∷ []

-- until the CCB waits again
abbrev recovery : List (Event × Reply)
recovery =
    (submit_as 0 10 3 40, ccb_given 1)
    ∷ (dispatch 0, ccb_advised 1 0)
    ∷ (complete (outcome_of 1 CommandTimeout), run_started 1 1)
    ∷ (executes 1 private, went_on) ∷ (executes 1 private, went_on) ∷ (executes 1 (call (plain helpers.Advise)), result 0)
    ∷ (executes 1 private, went_on) ∷ (executes 1 (call (plain helpers.Advise)), result 0)
    ∷ (executes 1 private, went_on) ∷ (executes 1 (call (plain helpers.Release)), result 0)
    ∷ (executes 1 private, went_on) ∷ (executes 1 (call (plain helpers.Requeue)), result 0)
    ∷ (executes 1 exit, result 0) ∷ []

abbrev events : List (Event × Reply)
events =
    (submit_as 0 10 3 40, ccb_given 1)
    ∷ (dispatch 0, ccb_advised 1 0)
    ∷ (complete (outcome_of 1 CommandTimeout), run_started 1 1)
    ∷ (executes 1 private, went_on) ∷ (executes 1 private, went_on) ∷ (executes 1 (call (plain helpers.Advise)), result 0)
    ∷ (executes 1 private, went_on) ∷ (executes 1 (call (plain helpers.Advise)), result 0)
    ∷ (executes 1 private, went_on) ∷ (executes 1 (call (plain helpers.Release)), result 0)
    ∷ (executes 1 private, went_on) ∷ (executes 1 (call (plain helpers.Requeue)), result 0)
    ∷ (executes 1 exit, result 0)
    ∷ (dispatch 0, ccb_advised 1 65536)
    ∷ (complete (outcome_of 1 RequestCompleted), done) ∷ []

what_they_stand_for : flat records ≡ events
what_they_stand_for = refl

-- at the end there is neither a CCB nor a run nor a freeze
abbrev at_end : World
at_end = record { transport = record { live = []; freezes = []; openings = 1 ∷ []; greatest_ccb = 1; greatest_freeze = 1; clock = 0 }; runs = record { list = []; tables = []; greatest = 1 }; ended = record { number = 1; code = 1 } ∷ [] }

it_runs : WorldRun setup events at_end
unfolding row_of
it_runs = (tt, (_, refl, (_, refl, (_, refl, (_, refl, (_, refl, (_, refl, (_, refl, (_, refl, (_, refl, (_, refl, (_, refl, (_, refl, (_, refl, (_, refl, (_, refl, refl))))))))))))))))

-- its ten steps are its budget; it disposed of its CCB once, by no advice, and exited
its_steps : (steps_of 1 events ≡ 10) × (disposals_of 1 events ≡ 1) × (exits_of 1 events ≡ 1)
unfolding row_of
its_steps = (refl, refl, refl)

-- while the CCB waits it has the last advice and its class
abbrev waits_again : World
waits_again = world_after setup (opening setup) recovery

last_counts : map (λ live. live.ccb.advice) waits_again.transport.live ≡ 65536 ∷ []
unfolding row_of
last_counts = refl

same_class : map (λ live. live.ccb.class) waits_again.transport.live ≡ 40 ∷ []
unfolding row_of
same_class = refl

-- after the start that told it there is none
told_once : map (λ live. live.ccb.advice) (next setup waits_again (dispatch 0)).transport.live ≡ 0 ∷ []
unfolding row_of
told_once = refl
