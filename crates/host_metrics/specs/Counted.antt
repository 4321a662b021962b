-- What is counted: how many records are so, by cell, and sums of what records tell.
use Rattle.std.specs.Prelude.{◌≡◌, ◌<◌, ◌≤◌, ℕ, ◌+◌, ◌-◌, ◌*◌, ◌^◌, List, [], ◌∷◌, length, Option, Some, None, replicate, slice_index_or, count_by}
use Rattle.std.specs.List.{sum_by}
use Rattle.host_metrics.specs.Notes.{Note, controller_frozen_of, completion_at, finish_at, instructions_of, is_at, queue_frozen_of, recovery_at, refusal_at, requeue_at, start_at, submission_at}
use Rattle.host_metrics.specs.declared.told.TheConstants.{CODES, CONTROLLERS, QUEUES, REFUSED}

-- the counters: by queue, and those of codes by queue and code; refusals by their numbers; times in milliseconds
pub record MetricsState : Type 0 where
  pub records : ℕ
  pub refusals : List ℕ
  pub submissions : List ℕ
  pub starts : List ℕ
  pub completions : List ℕ
  pub recoveries : List ℕ
  pub requeues : List ℕ
  pub finishes : List ℕ
  pub instructions : List ℕ
  pub queues_frozen : List ℕ
  pub controllers_frozen : List ℕ

-- A counter grew by so much: exactly, as long as it is not at its most, where it stays.
pub record GrowsTo (old more new : ℕ) : Type 0 where
  pub exact : new < 2 ^ 64 - 1 → new ≡ old + more
  pub within : new ≤ old + more

-- as many cells, and each grew by the number of notes that stand in it
pub record AreCounted (cell : Note → Option ℕ) (notes : List Note) (old new : List ℕ) : Type 0 where
  pub many : length new ≡ length old
  pub each : (place : ℕ) → place < length old → GrowsTo (slice_index_or old place 0) (count_by (λ note. is_at place (cell note)) notes) (slice_index_or new place 0)

-- as many cells, and each grew by what the notes add up to for it
pub record AreSummed (adds : ℕ → Note → ℕ) (notes : List Note) (old new : List ℕ) : Type 0 where
  pub many : length new ≡ length old
  pub each : (place : ℕ) → place < length old → GrowsTo (slice_index_or old place 0) (sum_by (adds place) notes) (slice_index_or new place 0)

-- These notes were counted.
pub record CountsOn (notes : List Note) (old new : MetricsState) : Type 0 where
  pub records : GrowsTo old.records (length notes) new.records
  pub refusals : AreCounted refusal_at notes old.refusals new.refusals
  pub submissions : AreCounted submission_at notes old.submissions new.submissions
  pub starts : AreCounted start_at notes old.starts new.starts
  pub completions : AreCounted completion_at notes old.completions new.completions
  pub recoveries : AreCounted recovery_at notes old.recoveries new.recoveries
  pub requeues : AreCounted requeue_at notes old.requeues new.requeues
  pub finishes : AreCounted finish_at notes old.finishes new.finishes
  pub instructions : AreSummed instructions_of notes old.instructions new.instructions
  pub queues_frozen : AreSummed queue_frozen_of notes old.queues_frozen new.queues_frozen
  pub controllers_frozen : AreSummed controller_frozen_of notes old.controllers_frozen new.controllers_frozen

-- there are no more rows than queues and controllers that may be
pub record HaveRoom (by_queue by_controller : List ℕ) : Type 0 where
  pub queues : length by_queue ≤ QUEUES
  pub controllers : length by_controller ≤ CONTROLLERS

-- no tables: nothing but records is counted
abbrev pub no_metrics : MetricsState
no_metrics = record { records = 0; refusals = []; submissions = []; starts = []; completions = []; recoveries = []; requeues = []; finishes = []; instructions = []; queues_frozen = []; controllers_frozen = [] }

-- what these counters come to, if there are any
abbrev pub counts_in : Option MetricsState → MetricsState
counts_in None = no_metrics
counts_in (Some metrics) = metrics

-- nothing was counted yet
abbrev pub zero_metrics : MetricsState
zero_metrics = record {
  records = 0;
  refusals = replicate REFUSED 0;
  submissions = replicate QUEUES 0;
  starts = replicate QUEUES 0;
  completions = replicate (QUEUES * CODES) 0;
  recoveries = replicate QUEUES 0;
  requeues = replicate QUEUES 0;
  finishes = replicate (QUEUES * CODES) 0;
  instructions = replicate QUEUES 0;
  queues_frozen = replicate QUEUES 0;
  controllers_frozen = replicate CONTROLLERS 0;
}
