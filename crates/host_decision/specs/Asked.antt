-- The lines of an engine in which one CCB is active as a question says.
use Rattle.std.specs.Prelude.{◌≡◌, ◌++◌, ℕ, List, [], ◌∷◌, map, true}
use Rattle.ccb.specs.Completion.{Outcome}
use Rattle.table_store.specs.Tables.{with_word}
use Rattle.world_calls.specs.declared.carried_line.CarriedLine.{CarriedLine}
use Rattle.world_calls.specs.declared.carried_line.CarriedLine.TheVariants as lines
use Rattle.world.specs.World.{QueueSetup, Setup}
use Rattle.engine_beginning.specs.Lines.{openings_from, tables_from}
use Rattle.show_question.specs.declared.Failure.{Failure}
use Rattle.show_question.specs.declared.Question.{Question}
use Rattle.show_question.specs.declared.TableWord.{TableWord}

-- the tables after these words are written into them, one after the other
abbrev pub written : List (List ℕ) → List TableWord → List (List ℕ)
written tables [] = tables
written tables (it ∷ more) = written (with_word tables it.table it.index it.word) more

-- the openings of each queue, as the manifest has them
abbrev pub openings_in : Setup → List ℕ
openings_in setup = map (λ (queue : QueueSetup). queue.openings) setup.queues

-- the line of the CCB that fails, which is number 1
abbrev pub ccb_line : Failure → CarriedLine
ccb_line it = lines.Ccb (record {
  number = record { 0 = 1 };
  queue = it.queue;
  priority = 0;
  retries = it.retries;
  class = it.class;
  attempts = it.attempts;
  advice = 0;
  is_active = true;
})

-- Nothing but that CCB is there, the clock reads so, each queue has the openings of the manifest, and these are the tables: there is a line for
-- each of their words that is not 0.
abbrev pub lines_with : Setup → Failure → List (List ℕ) → List CarriedLine
lines_with setup it tables =
    lines.Numbers 1 0 0 ∷ lines.Clock it.clock ∷ (openings_from 0 (openings_in setup) ++ (tables_from 0 tables ++ ccb_line it ∷ []))

-- The lines say what the question says: its words are written over those with which the manifest has the tables begin.
abbrev pub AreLinesOf : Setup → Question → List CarriedLine → Type 0
AreLinesOf setup question its = its ≡ lines_with setup question.failure (written setup.tables question.words.items)

-- how the CCB fails
abbrev pub outcome_of : Failure → Outcome
outcome_of it = record { ccb = record { 0 = 1 }; status = it.status; scsi = it.scsi; sense = it.sense }
