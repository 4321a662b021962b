use Rattle.world_laws.proofs.Runs.NeverStuck.{never_stuck}
use Rattle.world_laws.proofs.Headline.{within_budget, disposed_once, exact_freezes, others_leave_it, gone_run_stays_gone}
use Rattle.world_laws.proofs.Runs.Parking.{parked_stays_as_it_is}
use Rattle.world_laws.proofs.Runs.Sizes.{runs_keep_limits}
use Rattle.world_laws.proofs.Freezes.Counts.{counts_are_entries}
use Rattle.world_laws.proofs.Sound.{held_are_entries, machines_are_reached}
use Rattle.world_laws.proofs.Leads.{limits_are_kept}
use Rattle.world_laws.proofs.Starting.{starts_keep_openings}
use Rattle.world_laws.proofs.Empty.{empty_advance_is_none}
use Rattle.world_laws.proofs.Freezes.Clocks.{clock_goes_on, timers_keep_time}
use Rattle.world_laws.proofs.Accounts.{each_is_live_or_ended}
use Rattle.world_laws.proofs.Freezes.Gone.{given_up_stays_given_up, given_up_by_run_stays_given_up, handed_over_stays_handed_over, gone_stays_gone}
use Rattle.engine_core.proofs.laws.headline.Goals as goal

pub returns : goal.returns
returns c = record {
  never_stuck = never_stuck;
  reached = machines_are_reached;
  within_budget = within_budget;
  disposed_once = disposed_once;
  exact_freezes = exact_freezes;
  exact_counts = counts_are_entries;
  held = held_are_entries;
  limits = limits_are_kept;
  run_limits = runs_keep_limits;
  transport = each_is_live_or_ended;
  starts = starts_keep_openings;
  others = others_leave_it;
  parked = parked_stays_as_it_is;
  given_up = given_up_stays_given_up;
  given_up_by_run = given_up_by_run_stays_given_up;
  handed_over = handed_over_stays_handed_over;
  gone = gone_stays_gone;
  gone_run = gone_run_stays_gone;
  clock = clock_goes_on;
  timers = timers_keep_time;
  empty_advance = empty_advance_is_none;
}
