-- What calls are answered from: the openings, the tables and the clock. What a step does to them, and that it keeps their
-- limits.
use Rattle.std.proofs.Common.{◌≡◌, ℕ, ◌<◌, ◌≤◌, ◌^◌, ◌⊎◌, List, [], ◌∷◌, map, length, get_or, leb, inl, inr, refl, sym, subst, ◌∙◌, arith, slice_index, slice_set, All}
use Rattle.std.proofs.Math.Seq.{map-set_same}
use Rattle.std.proofs.lemmas.Bool.{cases_Bool, leb-true, leb-false}
use Rattle.std.proofs.lemmas.List.{length-set, length-map, get_or_past}
use Rattle.std.proofs.lemmas.List.Elements.{All-nil, All-map, All-set}
use Rattle.table_store.specs.Tables.{table_at, word_at, with_word}
use Rattle.world.specs.Capacities.{most_openings, last_reading}
use Rattle.world.specs.World.{Setup, queue_count, QueueSetup, World, opening}
use Rattle.world.specs.Lawful.{IsLawful}
use Rattle.world.specs.Limits.{AnswerLimits}

-- the openings stay, or one queue's are set
pub data OpeningsMove (before after : List ℕ) : Type 0 where
  openings_stay : after ≡ before → OpeningsMove before after
  openings_change : (queue openings : ℕ) → 1 ≤ openings → openings ≤ most_openings → after ≡ slice_set before queue openings → OpeningsMove before after

-- the tables stay, or one word is written
pub data TablesMove (before after : List (List ℕ)) : Type 0 where
  tables_stay : after ≡ before → TablesMove before after
  word_changes : (table index word : ℕ) → word < 2 ^ 64 → after ≡ with_word before table index word → TablesMove before after

-- the clock stays, or it reads what is neither before it nor after the last reading
abbrev pub ClockMove : World → World → Type 0
ClockMove before after = (after.transport.clock ≡ before.transport.clock) ⊎ ((before.transport.clock ≤ after.transport.clock) × (after.transport.clock ≤ last_reading))

pub record AnswerMove (before after : World) : Type 0 where
  pub openings : OpeningsMove before.transport.openings after.transport.openings
  pub tables : TablesMove before.runs.tables after.runs.tables
  pub clock : ClockMove before after

-- all three stay
pub answers_stay : (before after : World) → after.transport.openings ≡ before.transport.openings → after.runs.tables ≡ before.runs.tables → after.transport.clock ≡ before.transport.clock → AnswerMove before after
answers_stay before after openings tables clock = record { openings = openings_stay openings; tables = tables_stay tables; clock = inl clock }

-- What is read is within the limits, whatever is asked for.

-- what holds of each element and of the default holds of what is read
all_read : {X : Type 0} (P : X → Type 0) (xs : List X) (i : ℕ) (d : X) → P d → All P xs → P (get_or xs i d)
all_read P xs i d default all =
    elim (cases_Bool (leb (length xs) i)) [
      | inl past ↦ subst P (sym (get_or_past xs i d (leb-true _ _ past))) default
      | inr within ↦ all i d (leb-false _ _ within)
    ]

abbrev IsWord : ℕ → Type 0
IsWord word = word < 2 ^ 64

words_of : (tables : List (List ℕ)) (table : ℕ) → All (All IsWord) tables → All IsWord (table_at tables table)
words_of tables table words = all_read (All IsWord) tables table [] (All-nil IsWord) words

pub word_below : (tables : List (List ℕ)) (table index : ℕ) → All (λ table. All (λ word. word < 2 ^ 64) table) tables → word_at tables table index < 2 ^ 64
word_below tables table index words = all_read IsWord (table_at tables table) index 0 (omega arith) (words_of tables table words)

-- of a queue that there is
pub openings_within : (setup : Setup) (world : World) (queue : ℕ) → AnswerLimits setup world → queue < queue_count setup → (1 ≤ slice_index world.transport.openings queue) × (slice_index world.transport.openings queue ≤ most_openings)
openings_within setup world queue kept known = kept.openings queue 0 (omega (arith, kept.queues, known))

-- A step keeps the limits.

record OpeningsWithin (setup : Setup) (openings : List ℕ) : Type 0 where
  queues : length openings ≡ queue_count setup
  each : All (λ openings. (1 ≤ openings) × (openings ≤ most_openings)) openings

openings_kept : (setup : Setup) (before after : List ℕ) → OpeningsMove before after → OpeningsWithin setup before → OpeningsWithin setup after
openings_kept setup before after (openings_stay e) kept = subst (OpeningsWithin setup) (sym e) kept
openings_kept setup before after (openings_change queue openings least most e) kept =
    subst (OpeningsWithin setup) (sym e) (record {
      queues = length-set before queue openings ∙ kept.queues;
      each = All-set (λ (n : ℕ). (1 ≤ n) × (n ≤ most_openings)) before queue openings (least, most) kept.each;
    })

record TablesWithin (setup : Setup) (tables : List (List ℕ)) : Type 0 where
  lengths : map (λ table. length table) tables ≡ setup.limits.table_lengths
  words : All (λ table. All (λ word. word < 2 ^ 64) table) tables

tables_kept : (setup : Setup) (before after : List (List ℕ)) → TablesMove before after → TablesWithin setup before → TablesWithin setup after
tables_kept setup before after (tables_stay e) kept = subst (TablesWithin setup) (sym e) kept
tables_kept setup before after (word_changes table index word below e) kept =
    let changed : List ℕ = slice_set (table_at before table) index word in
    subst (TablesWithin setup) (sym e) (record {
      lengths = map-set_same (λ (t : List ℕ). length t) before table changed [] (length-set (table_at before table) index word) ∙ kept.lengths;
      words = All-set (All IsWord) before table changed (All-set IsWord (table_at before table) index word below (words_of before table kept.words)) kept.words;
    })

pub moved_on : (before after : World) → ClockMove before after → before.transport.clock ≤ last_reading → (before.transport.clock ≤ after.transport.clock) × (after.transport.clock ≤ last_reading)
moved_on before after (inl same) within = (omega (arith, same), rw same within)
moved_on before after (inr moved) within = moved

pub answers_kept : (setup : Setup) (before after : World) → AnswerMove before after → AnswerLimits setup before → AnswerLimits setup after
answers_kept setup before after move kept =
    let openings = openings_kept setup before.transport.openings after.transport.openings move.openings (record { queues = kept.queues; each = kept.openings }) in
    let tables = tables_kept setup before.runs.tables after.runs.tables move.tables (record { lengths = kept.lengths; words = kept.words }) in
    record {
      queues = openings.queues;
      openings = openings.each;
      lengths = tables.lengths;
      words = tables.words;
      clock = (moved_on before after move.clock kept.clock).1;
    }

-- And the opening world keeps them.

pub opening_answers : (setup : Setup) → IsLawful setup → AnswerLimits setup (opening setup)
opening_answers setup lawful =
    record {
      queues = length-map setup.queues (λ (queue : QueueSetup). queue.openings);
      openings = All-map (λ (n : ℕ). (1 ≤ n) × (n ≤ most_openings)) (λ (queue : QueueSetup). queue.openings) setup.queues (λ k d below. (lawful.queues k d below).openings);
      lengths = lawful.tables.lengths;
      words = lawful.tables.words;
      clock = omega arith;
    }
