-- What becomes of a CCB that is submitted, started, completed and withdrawn.
use Rattle.std.specs.Prelude.{ℕ, ◌+◌, Bool, true, false, not, ◌&&◌, ◌||◌, ◌==◌, if◌then◌else◌, nat_lt, nat_le, [], ◌∷◌, ◌++◌, length, filter}
use Rattle.std.specs.List.{list_all}
use Rattle.ccb.specs.declared.QueueId.{QueueId}
use Rattle.ccb.specs.declared.ccb.Ccb.{Ccb}
use Rattle.ccb.specs.declared.cam_status.CamStatus.{CamStatus}
use Rattle.ccb.specs.declared.cam_status.CamStatus.TheVariants.{RequestAborted, RequestInProgress, RequestCompleted}
use Rattle.ccb.specs.Status.{code_of}
use Rattle.base.specs.ShortBytes.{most_bytes}
use Rattle.ccb.specs.Completion.{Outcome}
use Rattle.ccb.specs.Ccb.{submitted, started, completed}
use Rattle.ccb.specs.Context.{context_of}
use Rattle.freeze_ledger.specs.declared.freeze.Holder.TheVariants.{Run}
use Rattle.ccb.specs.declared.place.Place.TheVariants.{Device}
use Rattle.freeze_ledger.specs.Freezes.{meets_limit}
use Rattle.bpf_semantics.specs.MachineState.{entry}
use Rattle.world_calls.specs.declared.call_answer.CallAnswer.TheVariants as answers
use Rattle.world_calls.specs.Answered.{started_answer}
use Rattle.world.specs.declared.ccb_state.CcbState.TheVariants.{Waiting, Active, InRecovery}
use Rattle.world.specs.Capacities.{most_ccbs, most_ccbs_of_queue, most_runs, last_number}
use Rattle.world.specs.World.{Setup, queue_setup, version_of, LiveCcb, World}
use Rattle.world.specs.Lookups.{live_count, with_ccb}
use Rattle.world.specs.Event.{Reply, replies}
use Rattle.world.specs.FreezeSteps.{froze}

-- a further CCB of the queue meets a limit: the queue has as many as it may, so have all together, or the
-- numbers are used up
abbrev pub ccb_meets_limit : ℕ → World → Bool
ccb_meets_limit queue world =
    nat_le most_ccbs_of_queue (live_count queue world.transport.live) || nat_le most_ccbs (length world.transport.live)
    || nat_le last_number world.transport.greatest_ccb

-- a CCB waits under a new number
abbrev pub submits : World → QueueId → (priority retries class : ℕ) → Reply × World
submits world queue priority retries class =
    let number = world.transport.greatest_ccb + 1 in
    let ccb = submitted (record { 0 = number }) queue priority retries class in (
      replies (answers.Ccb (record { 0 = number })),
      record world {
        transport = record world.transport {
          live = world.transport.live ++ record { ccb = ccb; state = Waiting } ∷ [];
          greatest_ccb = number;
        };
      },
    )

-- A CCB that waits is active, and was started once more. Where CCBs have an advice, what was advised for this start is reported.
abbrev pub starts : Setup → World → LiveCcb → Reply × World
starts setup world next = (
  replies (started_answer (version_of setup) (record { ccb = next.ccb.number; advice = next.ccb.advice })),
  record world {
    transport = record world.transport {
      live = with_ccb (record { ccb = started next.ccb; state = Active }) world.transport.live;
    };
  },
)

-- the status needs no recovery
abbrev pub is_success : CamStatus → Bool
is_success status = code_of status == code_of RequestCompleted

-- a further run meets a limit: there are as many as may be, or the numbers are used up
abbrev pub run_meets_limit : World → Bool
run_meets_limit world = nat_le most_runs (length world.runs.list) || nat_le last_number world.runs.greatest

-- the CCB is gone, and its final code is kept
abbrev pub ended_with : World → Ccb → ℕ → World
ended_with world ccb code = record world {
  transport = record world.transport {
    live = filter (λ live. not (live.ccb.number.0 == ccb.number.0)) world.transport.live;
  };
  ended = world.ended ++ record { number = ccb.number.0; code = code } ∷ [];
}

-- it is gone with the code of its status
abbrev pub finishes : World → Ccb → CamStatus → World
finishes world ccb status = ended_with world ccb (code_of status)

-- a CCB that waits is gone, as the host wants it
abbrev pub withdraws : World → LiveCcb → Reply × World
withdraws world live = (replies answers.Ok, finishes world live.ccb RequestAborted)

-- The CCB is in recovery by a new run, which is out: it begins at the entry of its queue's program, over the context
-- of the CCB, and is told the number of its freeze.
abbrev pub run_starts : Setup → World → Ccb → ℕ → Reply × World
run_starts setup world ccb freeze =
    let number = world.runs.greatest + 1 in (
      replies (answers.Started number freeze),
      record world {
        transport = record world.transport { live = with_ccb (record { ccb = ccb; state = InRecovery }) world.transport.live };
        runs = record world.runs {
          list = world.runs.list ++ record {
            number = number;
            ccb = ccb.number.0;
            queue = ccb.queue.0;
            controller = (queue_setup setup ccb.queue.0).controller;
            program = (queue_setup setup ccb.queue.0).program;
            machine = entry (context_of ccb) freeze;
            out = true;
          } ∷ [];
          greatest = number;
        };
      },
    )

-- a run starts with a new freeze of the queue, which it holds, or with none as number 0 where that meets a limit
abbrev pub recovers : Setup → World → Ccb → Outcome → Reply × World
recovers setup world ccb outcome =
    if meets_limit (Device ccb.queue) world.transport.freezes world.transport.greatest_freeze
    then run_starts setup world (completed ccb outcome false) 0
    else
    run_starts setup (froze world (Device ccb.queue) (Run (world.runs.greatest + 1))) (completed ccb outcome true)
    (world.transport.greatest_freeze + 1)

-- an active CCB is finished, or a run starts for it
abbrev pub completes : Setup → World → Outcome → LiveCcb → Reply × World
completes setup world outcome live =
    if is_success outcome.status then (replies answers.Done, finishes world live.ccb outcome.status)
    else recovers setup world live.ccb outcome

-- A completion that a device can report: it says more than that the CCB is in progress, its SCSI status is a byte, and
-- it brings at most 64 sense bytes.
abbrev pub is_completion : Outcome → Bool
is_completion outcome =
    not (code_of outcome.status == code_of RequestInProgress) && nat_lt outcome.scsi 256
    && nat_le (length outcome.sense) most_bytes && list_all (λ byte. nat_lt byte 256) outcome.sense
