-- What is so of an engine that another one follows.
use Rattle.std.proofs.Common.{◌≡◌, ℕ, Bool, true, false, Option, Some, List, Result, Ok, Err, refl, sym, subst}
use Rattle.std.specs.Prelude.{⊤}
use Rattle.base.specs.declared.or_memory.OrMemory.{OrMemory}
use Rattle.engine_core.specs.ByNumber.{NumberedState}
use Rattle.world_calls.specs.declared.record.Record.{Record}
use Rattle.host_metrics.specs.Counted.{MetricsState}
use Rattle.host_journal.specs.Disks.{Step, kept_so_far}
use Rattle.host_journal.specs.Journals.{ServesInOrder, stood_behind}
use Rattle.host_journal.specs.declared.fault.JournalFault.{JournalFault}
use Rattle.host_live.specs.Inputs.{CameState}
use Rattle.host_live.specs.Metering.{CountsTo}
use Rattle.host_live.specs.Turns.{Point}
use Rattle.host_live.specs.declared.lines.Lines.{Lines}
use Rattle.host_live.specs.declared.manner.Manner.{Manner}
use Rattle.host_live.specs.declared.reports.Unfollowed.{Unfollowed}
use Rattle.host_live.specs.declared.request.Succession.{Succession}
use Rattle.host_live.specs.declared.serving.LiveFault.{LiveFault}
use Rattle.host_live.proofs.Metering.{counts_to}
use Rattle.host_live.proofs.Told.{counted_as}
use Rattle.cli_commands.specs.Alone.{IsOutcomeAlone}
use Rattle.cli_commands.specs.Journaling.{IfFollowed, IsCountedFrom, IsOutcome}
use Rattle.cli_commands.specs.declared.following.Next.{Next}
use Rattle.cli_commands.specs.declared.serving.Outcome.{Outcome}
use Rattle.cli_commands.specs.declared.serving.Outcome.TheVariants.{Ended, Followed}

none_follows : (It : Type 0) (status : ℕ) (outcome : Outcome) → outcome ≡ Ended status → IfFollowed outcome It
none_follows It status outcome is = subst (λ (o : Outcome). IfFollowed o It) (sym is) tt

whatever : (It : Type 0) (outcome : Outcome) → It → IfFollowed outcome It
whatever It (Ended status) it = tt
whatever It (Followed next) it = it

pub followed_alone : (It : Type 0) (number : ℕ) (result : Result Bool LiveFault) (next : Option Next) (outcome : Outcome) → (result ≡ Ok true → It) → IsOutcomeAlone number result next outcome → IfFollowed outcome It
followed_alone It number (Ok false) next outcome it is = none_follows It 0 outcome is
followed_alone It number (Ok true) next outcome it is = whatever It outcome (it refl)
followed_alone It number (Err fault) next outcome it is = none_follows It 2 outcome is

pub followed_on : (It : Type 0) (number : ℕ) (result : Result Bool (OrMemory JournalFault)) (next : Option Next) (outcome : Outcome) → (result ≡ Ok true → It) → IsOutcome number result next outcome → IfFollowed outcome It
followed_on It number (Ok false) next outcome it is = none_follows It 0 outcome is
followed_on It number (Ok true) next outcome it is = whatever It outcome (it refl)
followed_on It number (Err error) next outcome it is = none_follows It is.0 outcome is.1

-- ---- the counters

-- those that were there were taken, and what they came to is there again
pub kept_counts : (engine : NumberedState) (before taken left after : MetricsState) → taken ≡ before → after ≡ left → (more : List Record) → CountsTo engine taken (λ metrics now. ⊤) left more → IsCountedFrom engine before after more
kept_counts engine before taken left after took kept more it = counts_to engine it.now before taken left after (λ metrics now. ⊤) more took kept it.counted tt

pub kept_order : {E : Type 0} (engine : NumberedState) (count : ℕ) (manner : Manner) (Refuses : Succession → NumberedState → Unfollowed → Type 0) (owed : Option ℕ) (point : Point) (came : Option CameState) (lines : Lines) (Decided : Succession → NumberedState → Type 0) (before taken left after : MetricsState) (is_synced : Bool) (first : List ℕ) (old new : Option (List Step)) (result : Result Bool E)
    → taken ≡ before → after ≡ left → ServesInOrder engine count manner Refuses owed point came lines Decided (CountsTo engine taken (λ metrics now. ⊤) left) is_synced first old new result → ServesInOrder engine count manner Refuses owed point came lines Decided (IsCountedFrom engine before after) is_synced first old new result
kept_order engine count manner Refuses owed point came lines Decided before taken left after is_synced first old new result took kept it = record {
  answers = it.answers;
  in_order = it.in_order;
  given = it.given;
  owed_is = it.owed_is;
  turned = λ records behind are.
      counted_as engine manner Refuses point came lines Decided (CountsTo engine taken (λ metrics now. ⊤) left) (IsCountedFrom engine before after) (kept_counts engine before taken left after took kept) records (kept_so_far old) (kept_so_far new) (Some it.given)
      (Some (stood_behind (kept_so_far old) it.answers)) result (it.turned records behind are);
}
