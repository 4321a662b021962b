-- Words that can be, one after the other.
use Rattle.std.proofs.Common.{◌≡◌, ◌∙◌, ◌+◌, ◌<◌, ◌≤◌, ℕ, List, Option, Some, ap, below_more, length, slice_get, subst, sym, take, unwrap_or, arith}
use Rattle.std.proofs.lemmas.Option.{slice_get_within}
use Rattle.std.specs.Prelude.{IfNone, IfSome, None, true}
use Rattle.world.specs.World.{Setup, has_classes, queue_count}
use Rattle.show_question.specs.declared.TableWord.{TableWord}
use Rattle.show_question.specs.declared.Question.{Question}
use Rattle.host_decision.specs.Faults.{AreFaultless, IsFault, IsFaultAmong, IsFaultAt, IsFaulty, IsPossible, has_failed, may_have}
use Rattle.host_decision.specs.declared.undecided.TheConstants.{LAST_READING}
use Rattle.host_decision.specs.declared.undecided.Undecided.{Undecided}
use Rattle.host_decision.specs.declared.undecided.Undecided.TheVariants.{Queue, Status, Clock, Class, Word, Lines, Sense}

-- the word at a place is the one that is read there
word_there : (words : List TableWord) (place : ℕ) (one other : TableWord) → slice_get words place ≡ Some one → slice_get words place ≡ Some other → other ≡ one
word_there words place one other first second = ap (λ (o : Option TableWord). unwrap_or o one) (sym second ∙ first)

-- one word more
pub fault_more : (config : Setup) (words : List TableWord) (k : ℕ) (word : TableWord) → slice_get words k ≡ Some word → (IsFaulty config (take k words) word → ⊥)
    → ((place : ℕ) → place < k → IsFaultAt config words place → ⊥) → (place : ℕ) → place < k + 1 → IsFaultAt config words place → ⊥
fault_more config words k word at fine before =
    below_more (λ (place : ℕ). IsFaultAt config words place → ⊥) k before
    (λ found. fine (subst (λ (it : TableWord). IsFaulty config (take k words) it) (word_there words k word found.0 at found.1) found.2))

-- all of them
pub faultless : (config : Setup) (words : List TableWord) (k : ℕ) → length words ≤ k → ((place : ℕ) → place < k → IsFaultAt config words place → ⊥) → AreFaultless config words
faultless config words k all before = λ place found. before place (omega (arith, all, slice_get_within words place found.0 found.1)) found

-- and so nothing of the question is at fault
pub possible : (config : Setup) (question : Question) (found : Option Undecided) → question.failure.queue.0 < queue_count config → has_failed question.failure.status ≡ true
    → question.failure.clock ≤ LAST_READING → may_have (has_classes config) question.failure.class ≡ true → IfNone found (AreFaultless config question.words.items) → IfNone found (IsPossible config question)
possible config question None queue status clock class words = record { queue = queue; status = status; clock = clock; class_may = class; words = words }
possible config question (Some fault) queue status clock class words = tt

-- and so the first word that cannot be is the first fault
pub first : (config : Setup) (question : Question) (found : Option Undecided) → question.failure.queue.0 < queue_count config → has_failed question.failure.status ≡ true
    → question.failure.clock ≤ LAST_READING → may_have (has_classes config) question.failure.class ≡ true → IfSome found (IsFaultAmong config question.words.items) → IfSome found (IsFault config question)
first config question None queue status clock class fault = tt
first config question (Some (Word place)) queue status clock class fault = ((((queue, status), clock), class), fault)
first config question (Some Queue) queue status clock class fault = absurd fault
first config question (Some Status) queue status clock class fault = absurd fault
first config question (Some Clock) queue status clock class fault = absurd fault
first config question (Some Class) queue status clock class fault = absurd fault
first config question (Some Lines) queue status clock class fault = absurd fault
first config question (Some Sense) queue status clock class fault = absurd fault
