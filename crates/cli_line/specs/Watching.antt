-- When a plan tells its sums.
use Rattle.cli_line.specs.declared.plans.Plan.{Plan}
use Rattle.cli_line.specs.declared.plans.Plan.TheVariants.{Run, Strict}
use Rattle.cli_line.specs.declared.plans.Watch.{Watch}
use Rattle.cli_line.specs.declared.plans.Watch.TheVariants.{Never}

-- a run as it was asked, anything else never
abbrev pub watch_of : Plan → Watch
watch_of (Run workers watch manifest scenario) = watch
watch_of (Strict workers watch manifest scenario) = watch
watch_of plan = Never
