use Rattle.std.proofs.Common.{◌≡◌, ◌+◌, ◌*◌, ◌≤◌, All, vec_len}
use Rattle.std.specs.Prelude.{vec_capacity}
use Rattle.workers.specs.Serving.{all_of, nothing_served}
use Rattle.workers.specs.declared.driving.TheConstants.{MOST_STARTED}
use Rattle.workers.specs.declared.serving.TheConstants.{MAX_WORKERS}
use Rattle.workers.proofs.serving.give_back.Given as goal

abbrev pub invariant-loop-workers : goal.invariant-loop-workers
invariant-loop-workers g l = (all_of l.workers.items (record { seats = l.seats.items; started = l.started; ended = l.ended; completions = l.completions.items; runs = l.runs.items; out_of_memory = l.out_of_memory }) ≡ all_of l.fn.workers.items nothing_served)
    × All (λ worker. (worker.started ≤ MOST_STARTED) × (worker.ended ≤ worker.started)) l.workers.items
    × (l.started + MOST_STARTED * vec_len l.workers ≤ MOST_STARTED * MAX_WORKERS)
    × (l.ended ≤ l.started)
    × (vec_len l.seats + vec_len l.workers ≤ vec_capacity l.seats)
    × (vec_len l.completions + vec_len l.workers ≤ vec_capacity l.completions)
    × (vec_len l.runs + vec_len l.workers ≤ vec_capacity l.runs)

abbrev pub decreases-loop-workers : goal.decreases-loop-workers
decreases-loop-workers g l = vec_len l.workers
