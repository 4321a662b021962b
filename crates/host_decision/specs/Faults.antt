-- What of a question an engine cannot take.
use Rattle.std.specs.Prelude.{◌≡◌, ◌<◌, ◌≤◌, ◌⊎◌, ◌==◌, ℕ, Bool, true, false, List, Some, length, slice_get, slice_index, slice_index_or, take}
use Rattle.base.specs.declared.or_memory.OrMemory.{OrMemory}
use Rattle.base.specs.declared.or_memory.OrMemory.TheVariants.{OutOfMemory, Fault}
use Rattle.ccb.specs.declared.cam_status.CamStatus.{CamStatus}
use Rattle.ccb.specs.declared.cam_status.CamStatus.TheVariants.{RequestCompleted, RequestInProgress}
use Rattle.world.specs.World.{Setup, has_classes, queue_count}
use Rattle.show_question.specs.declared.Question.{Question}
use Rattle.show_question.specs.declared.TableWord.{TableWord}
use Rattle.host_decision.specs.declared.undecided.TheConstants.{LAST_READING}
use Rattle.host_decision.specs.declared.undecided.Undecided.{Undecided}
use Rattle.host_decision.specs.declared.undecided.Undecided.TheVariants.{Queue, Status, Clock, Class, Word}

-- a CCB with that status has failed
abbrev pub has_failed : CamStatus → Bool
has_failed RequestCompleted = false
has_failed RequestInProgress = false
has_failed status = true

-- a CCB may have that class: any, if CCBs have one, and else none, which is 0
abbrev pub may_have : Bool → ℕ → Bool
may_have true class = true
may_have false class = class == 0

-- a table has such a word
abbrev pub HasPlace : Setup → TableWord → Type 0
HasPlace config word = word.index < slice_index config.limits.table_lengths word.table

-- both are words of one place
abbrev pub IsSame : TableWord → TableWord → Type 0
IsSame other word = (other.table ≡ word.table) × (other.index ≡ word.index)

-- one of these is the same word of the same table
abbrev pub IsAmong : List TableWord → TableWord → Type 0
IsAmong words word = (place : ℕ) × (place < length words) × IsSame (slice_index_or words place word) word

-- it cannot be, after these: no table has it, or it is given twice
abbrev pub IsFaulty : Setup → List TableWord → TableWord → Type 0
IsFaulty config before word = (HasPlace config word → ⊥) ⊎ IsAmong before word

-- the word at that place cannot be
abbrev pub IsFaultAt : Setup → List TableWord → ℕ → Type 0
IsFaultAt config words place = (word : TableWord) × (slice_get words place ≡ Some word) × IsFaulty config (take place words) word

-- and it is the first of them
abbrev pub IsFirstFaultAt : Setup → List TableWord → ℕ → Type 0
IsFirstFaultAt config words place = IsFaultAt config words place × ((earlier : ℕ) → earlier < place → IsFaultAt config words earlier → ⊥)

-- all of them can be
abbrev pub AreFaultless : Setup → List TableWord → Type 0
AreFaultless config words = (place : ℕ) → IsFaultAt config words place → ⊥

-- it is the first of these words that cannot be
abbrev pub IsFaultAmong : Setup → List TableWord → Undecided → Type 0
IsFaultAmong config words (Word place) = IsFirstFaultAt config words place
IsFaultAmong config words fault = ⊥

-- there is such a queue; and the CCB has failed; and the clock can read so; and the CCB may have such a class
abbrev pub HasQueue : Setup → Question → Type 0
HasQueue config question = question.failure.queue.0 < queue_count config

abbrev pub MayFail : Setup → Question → Type 0
MayFail config question = HasQueue config question × (has_failed question.failure.status ≡ true)

abbrev pub MayRead : Setup → Question → Type 0
MayRead config question = MayFail config question × (question.failure.clock ≤ LAST_READING)

abbrev pub MayBe : Setup → Question → Type 0
MayBe config question = MayRead config question × (may_have (has_classes config) question.failure.class ≡ true)

-- the first fault of the question, in the order in which faults are judged
abbrev pub IsFault : Setup → Question → Undecided → Type 0
IsFault config question Queue = queue_count config ≤ question.failure.queue.0
IsFault config question Status = HasQueue config question × (has_failed question.failure.status ≡ false)
IsFault config question Clock = MayFail config question × (LAST_READING < question.failure.clock)
IsFault config question Class = MayRead config question × (may_have (has_classes config) question.failure.class ≡ false)
IsFault config question (Word place) = MayBe config question × IsFirstFaultAt config question.words.items place
IsFault config question fault = ⊥

-- there is no such fault
pub record IsPossible (config : Setup) (question : Question) : Type 0 where
  pub queue : question.failure.queue.0 < queue_count config
  pub status : has_failed question.failure.status ≡ true
  pub clock : question.failure.clock ≤ LAST_READING
  pub class_may : may_have (has_classes config) question.failure.class ≡ true
  pub words : AreFaultless config question.words.items

-- memory was refused, or the question has that fault
abbrev pub IsRefused : Setup → Question → OrMemory Undecided → Type 0
IsRefused config question OutOfMemory = Unit {0}
IsRefused config question (Fault fault) = IsFault config question fault
