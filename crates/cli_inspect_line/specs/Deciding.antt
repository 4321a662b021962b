-- What the words after `decide` say.
use Rattle.std.specs.Prelude.{◌≡◌, ◌<◌, ◌==◌, ◌∷◌, [], ℕ, Bool, List, Option, Some, codes, length, unwrap_or}
use Rattle.std.specs.List.{after_first, before_first, position_or_len}
use Rattle.clap.specs.Words.{Row, Text, all_of, first_of}
use Rattle.trace_lines.specs.Texts.{byte_text, long_number_text, number_text, sense_text, status_text}
use Rattle.show_question.specs.declared.Failure.{Failure}
use Rattle.show_question.specs.declared.Question.{Question}
use Rattle.show_question.specs.declared.TableWord.{TableWord}
use Rattle.cli_inspect_line.specs.declared.plans.Extent.{Extent}
use Rattle.cli_inspect_line.specs.declared.plans.Extent.TheVariants.{One, AllSense}

-- the word that `clap` found under that name is the text of the value
abbrev pub IsSpelled : {T : Type 0} → (T → Option Text) → Text → List Row → T → Type 0
IsSpelled text_of name rows value = (word : Text) × (first_of name rows ≡ Some word) × (text_of value ≡ Some word)

-- each word that `clap` found says its part of the failure
pub record HasFailure (rows : List Row) (failure : Failure) : Type 0 where
  pub queue : IsSpelled number_text (codes "QUEUE") rows failure.queue.0
  pub status : IsSpelled status_text (codes "STATUS") rows failure.status
  pub scsi : IsSpelled byte_text (codes "SCSI") rows failure.scsi
  pub sense : IsSpelled sense_text (codes "SENSE") rows failure.sense
  pub retries : IsSpelled number_text (codes "retries") rows failure.retries
  pub class : IsSpelled number_text (codes "class") rows failure.class
  pub attempts : IsSpelled number_text (codes "attempts") rows failure.attempts
  pub clock : IsSpelled long_number_text (codes "clock") rows failure.clock

-- the bytes that part a table, an index and a word
abbrev pub is_colon : ℕ → Bool
is_colon byte = byte == 58

abbrev pub is_equals : ℕ → Bool
is_equals byte = byte == 61

-- the text says a word of a table: the table stands before its first colon, the index before the first `=` after it, and the word after that
pub record IsWordText (text : Text) (it : TableWord) : Type 0 where
  pub colon : position_or_len is_colon text < length text
  pub equals : position_or_len is_equals (after_first is_colon text) < length (after_first is_colon text)
  pub table : number_text it.table ≡ Some (before_first is_colon text)
  pub index : number_text it.index ≡ Some (before_first is_equals (after_first is_colon text))
  pub word : long_number_text it.word ≡ Some (after_first is_equals (after_first is_colon text))

-- the texts say these words, in their order
abbrev pub AreWords : List Text → List TableWord → Type 0
AreWords [] [] = Unit {0}
AreWords [] (it ∷ more) = ⊥
AreWords (text ∷ texts) [] = ⊥
AreWords (text ∷ texts) (it ∷ more) = IsWordText text it × AreWords texts more

-- what `clap` found of words of tables
abbrev pub texts_given : List Row → List Text
texts_given rows = unwrap_or (all_of (codes "word") rows) []

-- it found that all sense data is asked for: a flag is found as the word `true`
abbrev pub AsksAll : List Row → Type 0
AsksAll rows = first_of (codes "all-sense") rows ≡ Some (codes "true")

-- the extent is that which is asked for
abbrev pub HasExtent : List Row → Extent → Type 0
HasExtent rows One = AsksAll rows → ⊥
HasExtent rows AllSense = AsksAll rows

-- the question is what `clap` found
pub record HasQuestion (rows : List Row) (question : Question) : Type 0 where
  pub failure : HasFailure rows question.failure
  pub words : AreWords (texts_given rows) question.words.items
