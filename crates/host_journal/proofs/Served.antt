-- An engine that was served: the order in which it was, and what was appended.
use Rattle.std.proofs.Common.{◌≡◌, ◌∙◌, Bool, true, false, Option, Some, None, Result, Ok, Err, List, [], ◌++◌, length, ℕ, refl, sym, ap, subst, append-nil}
use Rattle.std.specs.Prelude.{IfOk, IfSome, IsOk, OnOk}
use Rattle.world_calls.specs.declared.record.Record.{Record}
use Rattle.world_calls.specs.declared.totals.Totals.{Totals}
use Rattle.world.specs.World.{Setup, version_of}
use Rattle.engine_core.specs.ByNumber.{NumberedState, IsBehind}
use Rattle.host_live.specs.Answering.{Answer}
use Rattle.host_live.specs.Inputs.{CameState}
use Rattle.host_live.specs.Served.{ContinuesTurns, IsGoneOnInPart, IsOwed, IsServedOn, IsServedOnInPart}
use Rattle.host_live.specs.Telling.{Continues, HasSums, IsContinued, IsContinuedInPart, IsLast, IsOutBehind}
use Rattle.host_live.specs.Turns.{Point}
use Rattle.host_live.specs.declared.lines.Lines.{Lines}
use Rattle.host_live.specs.declared.manner.Manner.{Manner}
use Rattle.host_live.specs.declared.reports.Unfollowed.{Unfollowed}
use Rattle.host_live.specs.declared.request.Succession.{Succession}
use Rattle.host_live.proofs.Finishing.{gone_on_wholly}
use Rattle.host_live.proofs.Told.{if_any, is_owed}
use Rattle.host_journal.specs.Disks.{AllDone, Step, kept_so_far}
use Rattle.host_journal.specs.Order.{Told}
use Rattle.host_journal.specs.Journals.{AllWaits, InOrder, JournaledState, Leaves, ServesInOrder, Stands, stood_behind, is_of_write}
use Rattle.host_journal.proofs.Ordering.{at_first, none_out}
use Rattle.host_journal.proofs.Standing.{waits_of}

-- what a sink holds, of what it is seen as
pub leaves_so : (is_synced : Bool) (first : List ℕ) (before : Option (List Step)) (state : JournaledState) (is_at_line : Bool) → Stands is_synced first before state.steps state.pending state.answers state.place state.lost state.is_behind is_at_line
    → Leaves is_synced first before state.steps state
leaves_so is_synced first before state is_at_line stands =
    let waits : state.lost ≡ None → AllWaits first stands.kept stands.synced stands.out state.pending state.answers state.place state.is_behind is_at_line =
    λ unlost. waits_of state.lost first stands.kept stands.synced stands.out state.pending state.answers state.place state.is_behind is_at_line unlost stands.whole in
    record {
      kept = stands.kept;
      synced = stands.synced;
      out = stands.out;
      at = stands.at;
      answered = stands.answered;
      told = λ unlost empty. subst (λ (t : List ℕ). Told first (first ++ stands.kept) t state.answers) (ap (λ (t : List ℕ). stands.out ++ t) empty ∙ append-nil stands.out) (waits unlost).told;
      level = λ unlost level. (waits unlost).level level;
    }

-- nothing was written
pub unserved : {T E : Type 0} (is_synced : Bool) (first : List ℕ) (steps : Option (List Step)) (answers : List Answer) (e : E) → InOrder {T = T} is_synced first steps steps answers (Err e)
unserved is_synced first steps answers e = record { kept = []; synced = []; out = []; is_lost = false; at = at_first is_synced first steps; answered = none_out answers first (first ++ []); whole = tt; unlost = tt }

pub none_failed : (steps : Option (List Step)) → AllDone steps steps
none_failed None = tt
none_failed (Some steps) = ([], ap Some (sym (append-nil steps)), refl)

-- the order in which a sink was left, by what was told of it at last
pub served_in_order : {T E A B C D : Type 0} (is_synced : Bool) (first : List ℕ) (before now : Option (List Step)) (state : JournaledState) (result : Result T E) (served : Result A B) (flushed : Result C D)
    → Leaves is_synced first before now state → OnOk result (IsOk served × IsOk flushed) → OnOk flushed ((state.pending ≡ []) × (state.lost ≡ None)) → OnOk flushed (is_synced ≡ true → state.is_behind ≡ false)
    → InOrder is_synced first before now state.answers result
served_in_order is_synced first before now state (Ok done) served (Ok f) leaves both all sure =
    record { kept = leaves.kept; synced = leaves.synced; out = leaves.out; is_lost = is_of_write state.lost; at = leaves.at; answered = leaves.answered; whole = (leaves.told all.1 all.0, λ asked. leaves.level all.1 (sure asked)); unlost = ap is_of_write all.1 }
served_in_order is_synced first before now state (Ok done) served (Err f) leaves both all sure = absurd (let bad : false ≡ true = both.1 in cc)
served_in_order is_synced first before now state (Err e) served flushed leaves both all sure = record { kept = leaves.kept; synced = leaves.synced; out = leaves.out; is_lost = is_of_write state.lost; at = leaves.at; answered = leaves.answered; whole = tt; unlost = tt }

sums_of : (setup : Setup) (manner : Manner) (records : List Record) (last : Option Totals) → IsLast setup manner records last → IfSome last (HasSums setup manner records)
sums_of setup manner records None is = tt
sums_of setup manner records (Some totals) is = is

-- all of what goes on is a front of it
in_part : (setup : Setup) (manner : Manner) (records : List Record) (base at : Option (List ℕ)) → IsContinued setup manner records base at → IsContinuedInPart setup manner records base at
in_part setup manner records base at all = record {
  more = all.more;
  last = all.last;
  history = all.history;
  sums = sums_of setup manner (records ++ all.more) all.last all.is_last;
  bytes = all.bytes;
  is = all.is;
  front = record { handed = all.bytes; rest = []; whole = sym (append-nil all.bytes); told = all.told };
}

-- what was served goes on, whatever is told at last
pub continues_so : {E B C D : Type 0} (setup : Setup) (manner : Manner) (records : List Record) (base at to : Option (List ℕ)) (result : Result Bool E) (served : Result Bool B) (flushed : Result C D) → to ≡ at
    → IfOk result (λ is_followed. (served ≡ Ok is_followed) × IsOk flushed) → Continues setup manner records base served at → Continues setup manner records base result to
continues_so setup manner records base at to (Ok done) (Ok s) flushed same both its = subst (λ (o : Option (List ℕ)). IsContinued setup manner records base o) (sym same) its
continues_so setup manner records base at to (Ok done) (Err s) flushed same both its = absurd (let bad = both.0 in cc)
continues_so setup manner records base at to (Err e) (Ok s) flushed same both its = subst (λ (o : Option (List ℕ)). IsContinuedInPart setup manner records base o) (sym same) (in_part setup manner records base at its)
continues_so setup manner records base at to (Err e) (Err s) flushed same both its = subst (λ (o : Option (List ℕ)). IsContinuedInPart setup manner records base o) (sym same) its

-- ---- the turns

module _ (start : NumberedState) (manner : Manner) (Refuses : Succession → NumberedState → Unfollowed → Type 0) (point : Point) (came : Option CameState) (lines : Lines) (Decided : Succession → NumberedState → Type 0) (Counted : List Record → Type 0) (records : List Record) (base at to : Option (List ℕ)) (given answered : Option (List Answer)) where
  -- all turns are a part of them
  turns_in_part : (is_followed : Bool) → IsServedOn start manner Refuses point came lines Decided Counted is_followed records base at given answered → IsServedOnInPart start manner Refuses point came lines Decided Counted records base at given answered
  unfolding in_part
  turns_in_part is_followed all = record {
    out = in_part start.setup manner records base at all.out;
    rest = [];
    answers = all.answers;
    are_answers = all.are_answers;
    turned = subst (λ (more : List Record). IsGoneOnInPart manner Refuses start (IsOutBehind (version_of start.setup) [] base) point came more all.answers) (sym (append-nil all.out.more))
        (gone_on_wholly manner Refuses point came (IsOutBehind (version_of start.setup) [] base) (IsOutBehind (version_of start.setup) [] base) (λ rs behind is. is) start lines Decided is_followed all.out.more all.answers all.turned);
    closed = if_any all.out.last (refl, (is_followed, all.turned));
    counted = subst Counted (sym (append-nil all.out.more)) all.counted;
  }

  -- what was turned stays so, whatever is told at last
  pub turns_so : {E B C D : Type 0} (result : Result Bool E) (served : Result Bool B) (flushed : Result C D) → to ≡ at → IfOk result (λ is_followed. (served ≡ Ok is_followed) × IsOk flushed)
      → ContinuesTurns start manner Refuses point came lines Decided Counted records base given served at answered → ContinuesTurns start manner Refuses point came lines Decided Counted records base given result to answered
  turns_so (Ok done) (Ok s) flushed same both its =
      let one : s ≡ done = (let is = both.0 in cc) in
      subst (λ (o : Option (List ℕ)). IsServedOn start manner Refuses point came lines Decided Counted done records base o given answered) (sym same) (subst (λ (b : Bool). IsServedOn start manner Refuses point came lines Decided Counted b records base at given answered) one its)
  turns_so (Ok done) (Err s) flushed same both its = absurd (let bad = both.0 in cc)
  turns_so (Err e) (Ok s) flushed same both its = subst (λ (o : Option (List ℕ)). IsServedOnInPart start manner Refuses point came lines Decided Counted records base o given answered) (sym same) (turns_in_part s its)
  turns_so (Err e) (Err s) flushed same both its = subst (λ (o : Option (List ℕ)). IsServedOnInPart start manner Refuses point came lines Decided Counted records base o given answered) (sym same) its

-- what was owed too
pub owed_so : {E B C D : Type 0} (manner : Manner) (owed : Option ℕ) (base : Option (List ℕ)) (first : List Answer) (result : Result Bool E) (served : Result Bool B) (flushed : Result C D) → IfOk result (λ is_followed. (served ≡ Ok is_followed) × IsOk flushed) → IsOwed manner owed served base first → IsOwed manner owed result base first
owed_so {B} manner owed base first result (Ok s) flushed both its = is_owed B manner owed s result base first its
owed_so manner None base first (Ok done) (Err s) flushed both its = its
owed_so manner None base first (Err e) (Err s) flushed both its = its
owed_so manner (Some line) base first (Ok done) (Err s) flushed both its = absurd (let bad = both.0 in cc)
owed_so manner (Some line) base first (Err e) (Err s) flushed both its = its

-- ---- with the order

both_ok : {E B C D : Type 0} (result : Result Bool E) (served : Result Bool B) (flushed : Result C D) → IfOk result (λ is_followed. (served ≡ Ok is_followed) × IsOk flushed) → OnOk result (IsOk served × IsOk flushed)
both_ok (Ok done) (Ok s) flushed both = (refl, both.1)
both_ok (Ok done) (Err s) flushed both = absurd (let bad = both.0 in cc)
both_ok (Err e) served flushed both = tt

module _ {E : Type 0} (engine : NumberedState) (count : ℕ) (manner : Manner) (Refuses : Succession → NumberedState → Unfollowed → Type 0) (owed : Option ℕ) (point : Point) (came : Option CameState) (lines : Lines) (Decided : Succession → NumberedState → Type 0) (Counted : List Record → Type 0) (is_synced : Bool) (first : List ℕ) where
  pub in_order_turned : {B C D : Type 0} (before first_steps served_steps now : Option (List Step)) (state : JournaledState) (told : List Answer) (result : Result Bool E) (served : Result Bool B) (flushed : Result C D)
      → Leaves is_synced first before now state → IfOk result (λ is_followed. (served ≡ Ok is_followed) × IsOk flushed) → OnOk flushed ((state.pending ≡ []) × (state.lost ≡ None)) → OnOk flushed (is_synced ≡ true → state.is_behind ≡ false)
      → first_steps ≡ before → kept_so_far now ≡ kept_so_far served_steps → state.answers ≡ told
      → (given : List Answer) → IsOwed manner owed served (kept_so_far first_steps) given
      → ((records : List Record) → IsBehind records engine → count ≡ length records → ContinuesTurns engine manner Refuses point came lines Decided Counted records (kept_so_far first_steps) (Some given) served (kept_so_far served_steps) (Some (stood_behind (kept_so_far before) told)))
      → ServesInOrder engine count manner Refuses owed point came lines Decided Counted is_synced first before now result
  in_order_turned before first_steps served_steps now state told result served flushed leaves both all sure begins kept answers given is_so turned = record {
    answers = state.answers;
    in_order = served_in_order is_synced first before now state result served flushed leaves (both_ok result served flushed both) all sure;
    given = given;
    owed_is = subst (λ (o : Option (List Step)). IsOwed manner owed result (kept_so_far o) given) begins (owed_so manner owed (kept_so_far first_steps) given result served flushed both is_so);
    turned = λ records behind are.
        subst (λ (a : List Answer). ContinuesTurns engine manner Refuses point came lines Decided Counted records (kept_so_far before) (Some given) result (kept_so_far now) (Some (stood_behind (kept_so_far before) a))) (sym answers)
        (subst (λ (o : Option (List Step)). ContinuesTurns engine manner Refuses point came lines Decided Counted records (kept_so_far o) (Some given) result (kept_so_far now) (Some (stood_behind (kept_so_far before) told))) begins
        (turns_so engine manner Refuses point came lines Decided Counted records (kept_so_far first_steps) (kept_so_far served_steps) (kept_so_far now) (Some given) (Some (stood_behind (kept_so_far before) told)) result served flushed kept both (turned records behind are)));
  }
