-- How one engine is to follow another.
use Rattle.std.specs.Prelude.{Option, Some, None, IfSome}
use Rattle.engine_core.specs.ByNumber.{NumberedState}
use Rattle.host_live.specs.declared.served.Served.{Served}
use Rattle.host_live.specs.declared.served.Served.TheVariants as served
use Rattle.host_live.specs.declared.reports.LineFault.{LineFault}
use Rattle.host_live.specs.declared.reports.LineFault.TheVariants as faults
use Rattle.host_live.specs.declared.reports.Unfollowed.{Unfollowed}
use Rattle.host_live.specs.declared.reports.Unfollowed.TheVariants as unfollowed
use Rattle.host_live.specs.declared.request.Succession.{Succession}

-- why the line that asked for it is not carried out
abbrev pub fault_of_unfollowed : Unfollowed → LineFault
fault_of_unfollowed unfollowed.NoManifest = faults.Form
fault_of_unfollowed unfollowed.Manifest = faults.Manifest
fault_of_unfollowed unfollowed.DoesNotFit = faults.DoesNotFit

-- how another engine was asked for
abbrev pub asked_of : Served → Option Succession
asked_of (served.Asked how) = Some how
asked_of became = None

-- if another engine was asked for, it was decided that it follows this one
abbrev pub IsDecided : (Succession → NumberedState → Type 0) → NumberedState → Served → Type 0
IsDecided Decided now became = IfSome (asked_of became) (λ how. Decided how now)
