-- A CCB as it is submitted, what each step of its life makes of it, and its status word.
use Rattle.std.specs.Prelude.{ℕ, ◌+◌, ◌-◌, ◌^◌, ◌==◌, if◌then◌else◌, Bool, false, [], length, min}
use Rattle.ccb.specs.declared.CcbId.{CcbId}
use Rattle.ccb.specs.declared.QueueId.{QueueId}
use Rattle.ccb.specs.declared.ccb.Ccb.{Ccb}
use Rattle.ccb.specs.declared.cam_status.CamStatus.TheVariants.{RequestInProgress}
use Rattle.ccb.specs.Completion.{Outcome}
use Rattle.ccb.specs.Flags.{autosns_valid, dev_qfrzn}
use Rattle.ccb.specs.Status.{code_of}

-- a CCB that waits for its first start
abbrev pub submitted : CcbId → QueueId → (priority retries class : ℕ) → Ccb
submitted number queue priority retries class = record {
  number = number;
  queue = queue;
  priority = priority;
  retries = retries;
  class = class;
  attempts = 0;
  advice = 0;
  status = RequestInProgress;
  scsi = 0;
  sense = [];
  freeze_taken = false;
}

-- started once more: the count of starts grows, up to the largest u32, and what was advised for this start is advised no more
abbrev pub started : Ccb → Ccb
started ccb = record ccb { attempts = min (ccb.attempts + 1) (2 ^ 32 - 1); advice = 0 }

-- with this as what its policy advises the host to do before its next start
abbrev pub advised : Ccb → ℕ → Ccb
advised ccb word = record ccb { advice = word }

-- with what a completion brought, and whether a freeze of the queue was taken for it
abbrev pub completed : Ccb → Outcome → Bool → Ccb
completed ccb outcome freeze_taken = record ccb {
  status = outcome.status;
  scsi = outcome.scsi;
  sense = outcome.sense;
  freeze_taken = freeze_taken;
}

-- waiting again: so many retries are used up, as far as there are that many, and what the completion brought is gone
abbrev pub requeued : Ccb → ℕ → Ccb
requeued ccb used =
    record (submitted ccb.number ccb.queue ccb.priority (ccb.retries - used) ccb.class) { attempts = ccb.attempts; advice = ccb.advice }

-- the flags: that a freeze was taken, and that sense bytes came
abbrev pub flags_of : Ccb → ℕ
flags_of ccb = (if ccb.freeze_taken then dev_qfrzn else 0) + (if length ccb.sense == 0 then 0 else autosns_valid)

-- the code, plus the flags
abbrev pub status_word_of : Ccb → ℕ
status_word_of ccb = code_of ccb.status + flags_of ccb
