-- Counters of which each is 0.
use Rattle.std.proofs.Common.{◌≡◌, Result, Ok, Err}
use Rattle.std.specs.Prelude.{IfOk}
use Rattle.std.specs.declared.alloc.AllocError.{AllocError}
use Rattle.host_metrics.specs.Counted.{MetricsState, zero_metrics}
use Rattle.host_opening.specs.Opened.{none_counted}

pub none_is : (result : Result MetricsState AllocError) → IfOk result (λ metrics. metrics ≡ zero_metrics) → IfOk result (λ metrics. metrics ≡ none_counted)
unfolding none_counted
none_is result is = is
