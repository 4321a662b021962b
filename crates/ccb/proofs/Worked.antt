-- Worked values of the definitions: a context, byte for byte, and status words.
use Rattle.std.proofs.Common.{◌≡◌, ℕ, List, [], ◌∷◌, ◌++◌, Bool, true, false, refl}
use Rattle.std.proofs.Math.ListN.{replicate}
use Rattle.ccb.specs.declared.CcbId.{CcbId}
use Rattle.ccb.specs.declared.QueueId.{QueueId}
use Rattle.ccb.specs.declared.ccb.Ccb.{Ccb}
use Rattle.ccb.specs.declared.cam_status.CamStatus.{CamStatus}
use Rattle.ccb.specs.declared.cam_status.CamStatus.TheVariants.{Busy, CommandTimeout, RequeueRequest, ScsiStatusError}
use Rattle.ccb.specs.Completion.{Outcome}
use Rattle.ccb.specs.Context.{context_of}
use Rattle.ccb.specs.Ccb.{advised, submitted, started, completed, requeued, status_word_of}

abbrev number : ℕ → CcbId
number n = record { 0 = n }

abbrev queue : ℕ → QueueId
queue n = record { 0 = n }

abbrev outcome : CamStatus → ℕ → List ℕ → Outcome
outcome status scsi sense = record { ccb = number 1; status = status; scsi = scsi; sense = sense }

-- a unit attention: 18 bytes of sense data in the fixed format
abbrev sense : List ℕ
sense = 0x70 ∷ 0x00 ∷ 0x06 ∷ 0x00 ∷ 0x00 ∷ 0x00 ∷ 0x00 ∷ 0x0a ∷ 0x00 ∷ 0x00 ∷ 0x00 ∷ 0x00 ∷ 0x29 ∷ 0x00 ∷ 0x00 ∷ 0x00 ∷ 0x00 ∷ 0x00 ∷ []

abbrev first_half : List ℕ
first_half = 0x01 ∷ 0x00 ∷ 0x00 ∷ 0x00 ∷ 0x00 ∷ 0x00 ∷ 0x00 ∷ 0x00 ∷ 0xcc ∷ 0x00 ∷ 0x00 ∷ 0x00 ∷ 0x02 ∷ 0x06 ∷ 0x29 ∷ 0x00 ∷ []

abbrev second_half : List ℕ
second_half = 0x03 ∷ 0x00 ∷ 0x00 ∷ 0x00 ∷ 0x12 ∷ 0x00 ∷ 0x00 ∷ 0x00 ∷ 0x01 ∷ 0x00 ∷ 0x00 ∷ 0x00 ∷ 0x00 ∷ 0x00 ∷ 0x00 ∷ 0x00 ∷ []

-- A CCB was submitted with priority 10 and 3 retries, started, and completed with these while a freeze was taken.
unit_attention : context_of (completed (started (submitted (number 1) (queue 0) 10 3 0)) (outcome ScsiStatusError 0x02 sense) true) ≡ first_half ++ second_half ++ sense ++ replicate 46 0
unit_attention = refl

-- the status word of a CCB that was completed so
abbrev word : CamStatus → List ℕ → Bool → ℕ
word status sense freeze_taken = status_word_of (completed (submitted (number 1) (queue 0) 0 1 0) (outcome status 0x08 sense) freeze_taken)

freeze_and_sense : word ScsiStatusError sense true ≡ 0xcc
freeze_and_sense = refl

freeze_alone : word CommandTimeout [] true ≡ 0x4b
freeze_alone = refl

sense_alone : word RequeueRequest (0 ∷ []) false ≡ 0x9b
sense_alone = refl

-- the freeze met a limit
neither : word Busy [] false ≡ 0x05
neither = refl

-- a requeue takes a retry, as far as there is one, and the attempts stay
abbrev again : ℕ → ℕ → Ccb
again retries used = requeued (completed (started (submitted (number 9) (queue 2) 5 retries 0x28)) (outcome Busy 0x08 sense) true) used

two_left : again 3 1 ≡ record (submitted (number 9) (queue 2) 5 2 0x28) { attempts = 1 }
two_left = refl

none_left : again 0 1 ≡ record (submitted (number 9) (queue 2) 5 0 0x28) { attempts = 1 }
none_left = refl

-- a class stands at offset 28, and changes nothing else
abbrev read_half : List ℕ
read_half = 0x03 ∷ 0x00 ∷ 0x00 ∷ 0x00 ∷ 0x12 ∷ 0x00 ∷ 0x00 ∷ 0x00 ∷ 0x01 ∷ 0x00 ∷ 0x00 ∷ 0x00 ∷ 0x28 ∷ 0x00 ∷ 0x00 ∷ 0x00 ∷ []

read_10 : context_of (completed (started (submitted (number 1) (queue 0) 10 3 0x28)) (outcome ScsiStatusError 0x02 sense) true) ≡ first_half ++ read_half ++ sense ++ replicate 46 0
read_10 = refl

-- the last of two advices counts, a requeue keeps it, and the next start forgets it
abbrev twice : Ccb
twice = requeued (advised (advised (completed (started (submitted (number 9) (queue 2) 5 3 0)) (outcome Busy 0x08 sense) true) 2) 65536) 1

last_counts : twice ≡ record (submitted (number 9) (queue 2) 5 2 0) { attempts = 1; advice = 65536 }
last_counts = refl

told_once : started twice ≡ record (submitted (number 9) (queue 2) 5 2 0) { attempts = 2 }
told_once = refl
