-- How counters grow.
use Rattle.std.proofs.Common.{◌≡◌, ◌∙◌, ◌<◌, ◌≤◌, ℕ, ◌+◌, ◌-◌, ◌^◌, Bool, true, false, List, [], ◌∷◌, ◌++◌, Option, Some, None, length, get_or, refl, ap, sym, subst, arith, length-append}
use Rattle.std.specs.Prelude.{count_by, slice_index_or, if◌then◌else◌}
use Rattle.std.specs.List.{sum_by}
use Rattle.std.proofs.lemmas.List.Sums.{sum_by-append}
use Rattle.std.proofs.lemmas.Bool.{cases_Bool}
use Rattle.world_calls.specs.declared.record.Record.{Record}
use Rattle.host_metrics.specs.Notes.{Note, cell_of, elapsed, elapsed_told, instructions_told, queue_of, row_if, completion_at, controller_frozen_of, finish_at, instructions_of, is_at, queue_frozen_of, recovery_at, refusal_at, requeue_at, start_at, submission_at}
use Rattle.host_metrics.specs.Counted.{AreCounted, AreSummed, CountsOn, GrowsTo, MetricsState}

-- ---- a counter

pub grows_none : (count : ℕ) → GrowsTo count 0 count
grows_none count = record { exact = λ small. omega arith; within = omega arith }

pub grows_both : (old more mid some new : ℕ) → GrowsTo old more mid → GrowsTo mid some new → GrowsTo old (more + some) new
grows_both old more mid some new first second = record {
  exact = λ small.
      let later : new ≡ mid + some = second.exact small in
      let earlier : mid ≡ old + more = first.exact (omega (arith, later, small)) in
      omega (arith, later, earlier);
  within = omega (arith, first.within, second.within);
}

-- by as much
pub grows_same : (old more other new : ℕ) → more ≡ other → GrowsTo old more new → GrowsTo old other new
grows_same old more other new same grows = subst (λ (n : ℕ). GrowsTo old n new) same grows

-- ---- a table

pub counted_none : (cell : Note → Option ℕ) (counts : List ℕ) → AreCounted cell [] counts counts
counted_none cell counts = record { many = refl; each = λ place within. grows_none (slice_index_or counts place 0) }

pub counted_both : (cell : Note → Option ℕ) (notes others : List Note) (old mid new : List ℕ) → AreCounted cell notes old mid → AreCounted cell others mid new → AreCounted cell (notes ++ others) old new
counted_both cell notes others old mid new first second = record {
  many = second.many ∙ first.many;
  each = λ place within.
      grows_same (slice_index_or old place 0) _ _ (slice_index_or new place 0) (sym (sum_by-append (λ note. if is_at place (cell note) then 1 else 0) notes others))
      (grows_both (slice_index_or old place 0) (count_by (λ note. is_at place (cell note)) notes) (slice_index_or mid place 0) (count_by (λ note. is_at place (cell note)) others) (slice_index_or new place 0)
      (first.each place within) (second.each place (subst (λ (n : ℕ). place < n) (sym first.many) within)));
}

pub summed_none : (adds : ℕ → Note → ℕ) (counts : List ℕ) → AreSummed adds [] counts counts
summed_none adds counts = record { many = refl; each = λ place within. grows_none (slice_index_or counts place 0) }

pub summed_both : (adds : ℕ → Note → ℕ) (notes others : List Note) (old mid new : List ℕ) → AreSummed adds notes old mid → AreSummed adds others mid new → AreSummed adds (notes ++ others) old new
summed_both adds notes others old mid new first second = record {
  many = second.many ∙ first.many;
  each = λ place within.
      grows_same (slice_index_or old place 0) _ _ (slice_index_or new place 0) (sym (sum_by-append (adds place) notes others))
      (grows_both (slice_index_or old place 0) (sum_by (adds place) notes) (slice_index_or mid place 0) (sum_by (adds place) others) (slice_index_or new place 0)
      (first.each place within) (second.each place (subst (λ (n : ℕ). place < n) (sym first.many) within)));
}

-- ---- all of them

pub counts_none : (state : MetricsState) → CountsOn [] state state
counts_none state = record {
  records = grows_none state.records;
  refusals = counted_none refusal_at state.refusals;
  submissions = counted_none submission_at state.submissions;
  starts = counted_none start_at state.starts;
  completions = counted_none completion_at state.completions;
  recoveries = counted_none recovery_at state.recoveries;
  requeues = counted_none requeue_at state.requeues;
  finishes = counted_none finish_at state.finishes;
  instructions = summed_none instructions_of state.instructions;
  queues_frozen = summed_none queue_frozen_of state.queues_frozen;
  controllers_frozen = summed_none controller_frozen_of state.controllers_frozen;
}

pub counts_both : (notes others : List Note) (old mid new : MetricsState) → CountsOn notes old mid → CountsOn others mid new → CountsOn (notes ++ others) old new
counts_both notes others old mid new first second = record {
  records = grows_same old.records (length notes + length others) (length (notes ++ others)) new.records (sym (length-append notes others)) (grows_both old.records (length notes) mid.records (length others) new.records first.records second.records);
  refusals = counted_both refusal_at notes others old.refusals mid.refusals new.refusals first.refusals second.refusals;
  submissions = counted_both submission_at notes others old.submissions mid.submissions new.submissions first.submissions second.submissions;
  starts = counted_both start_at notes others old.starts mid.starts new.starts first.starts second.starts;
  completions = counted_both completion_at notes others old.completions mid.completions new.completions first.completions second.completions;
  recoveries = counted_both recovery_at notes others old.recoveries mid.recoveries new.recoveries first.recoveries second.recoveries;
  requeues = counted_both requeue_at notes others old.requeues mid.requeues new.requeues first.requeues second.requeues;
  finishes = counted_both finish_at notes others old.finishes mid.finishes new.finishes first.finishes second.finishes;
  instructions = summed_both instructions_of notes others old.instructions mid.instructions new.instructions first.instructions second.instructions;
  queues_frozen = summed_both queue_frozen_of notes others old.queues_frozen mid.queues_frozen new.queues_frozen first.queues_frozen second.queues_frozen;
  controllers_frozen = summed_both controller_frozen_of notes others old.controllers_frozen mid.controllers_frozen new.controllers_frozen first.controllers_frozen second.controllers_frozen;
}

-- ---- one note

-- a table in which that cell was counted
pub counted_one : (cell : Note → Option ℕ) (note : Note) (at : Option ℕ) (old new : List ℕ) → at ≡ cell note → length new ≡ length old
    → ((place : ℕ) → place < length old → GrowsTo (slice_index_or old place 0) (if is_at place at then 1 else 0) (slice_index_or new place 0)) → AreCounted cell (note ∷ []) old new
counted_one cell note at old new same many each = record {
  many = many;
  each = λ place within. subst (λ (c : Option ℕ). GrowsTo (slice_index_or old place 0) (0 + (if is_at place c then 1 else 0)) (slice_index_or new place 0)) same (grows_same (slice_index_or old place 0) _ _ (slice_index_or new place 0) (omega arith) (each place within));
}

-- a table in which each cell grew by that
pub summed_one : (adds : ℕ → Note → ℕ) (note : Note) (more : ℕ → ℕ) (old new : List ℕ) → ((place : ℕ) → place < length old → more place ≡ adds place note) → length new ≡ length old
    → ((place : ℕ) → place < length old → GrowsTo (slice_index_or old place 0) (more place) (slice_index_or new place 0)) → AreSummed adds (note ∷ []) old new
summed_one adds note more old new same many each = record {
  many = many;
  each = λ place within. grows_same (slice_index_or old place 0) (more place) (0 + adds place note) (slice_index_or new place 0) (omega (arith, same place within)) (each place within);
}

-- a table that stayed, where nothing is added
pub summed_still : (adds : ℕ → Note → ℕ) (note : Note) (table : List ℕ) → ((place : ℕ) → adds place note ≡ 0) → AreSummed adds (note ∷ []) table table
summed_still adds note table none = summed_one adds note (λ place. 0) table table (λ place within. sym (none place)) refl (λ place within. grows_none (slice_index_or table place 0))

-- nothing, if it is not so or adds nothing
pub none_either : (is_so : Bool) (more : ℕ) → more ≡ 0 → (if is_so then more else 0) ≡ 0
none_either true more none = none
none_either false more none = refl

-- ---- where one note is counted

pub row_is : (is_so : Record → Bool) (told : Record) (queue : Option ℕ) (note : Note) (so : Bool) (row : Option ℕ) → row ≡ row_if so queue → so ≡ is_so told → note.told ≡ told → queue ≡ queue_of note → row ≡ row_if (is_so note.told) (queue_of note)
row_is is_so told queue note so row its is same of = its ∙ (ap (λ (b : Bool). row_if b queue) (is ∙ ap is_so (sym same)) ∙ ap (row_if (is_so note.told)) of)

pub cell_is : (code_in : Record → Option ℕ) (told : Record) (queue : Option ℕ) (note : Note) (code cell : Option ℕ) → cell ≡ cell_of queue code → code ≡ code_in told → note.told ≡ told → queue ≡ queue_of note → cell ≡ cell_of (queue_of note) (code_in note.told)
cell_is code_in told queue note code cell its is same of = its ∙ (ap (cell_of queue) (is ∙ ap code_in (sym same)) ∙ ap (λ (q : Option ℕ). cell_of q (code_in note.told)) of)

pub instructions_are : (told : Record) (queue : Option ℕ) (note : Note) (row : Option ℕ) (count place : ℕ) → row ≡ row_if true queue → count ≡ instructions_told told → note.told ≡ told → queue ≡ queue_of note → (if is_at place row then count else 0) ≡ instructions_of place note
instructions_are told queue note row count place its is same of =
    ap (λ (r : Option ℕ). if is_at place r then count else 0) (its ∙ of) ∙ ap (λ (n : ℕ). if is_at place (queue_of note) then n else 0) (is ∙ ap instructions_told (sym same))

-- what was frozen is told as so many milliseconds
pub frozen_are : (marked is_frozen : Bool) (clock more : ℕ) (told : Record) (note : Note) → marked ≡ is_frozen → more ≡ elapsed_told clock told → clock ≡ note.transport.clock → note.told ≡ told → (if marked then more else 0) ≡ (if is_frozen then elapsed note else 0)
frozen_are marked is_frozen clock more told note is its read same =
    ap (λ (b : Bool). if b then more else 0) is
    ∙ ap (λ (n : ℕ). if is_frozen then n else 0) (its ∙ (ap (λ (c : ℕ). elapsed_told c told) read ∙ ap (elapsed_told note.transport.clock) (sym same)))
