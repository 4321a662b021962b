-- How an engine goes on whose records are printed as they come.
use Rattle.std.proofs.Common.{◌≡◌, ◌∙◌, ℕ, ◌+◌, Bool, true, false, Option, Some, None, List, [], ◌∷◌, ◌++◌, length, refl, sym, ap, subst, append_assoc, append-nil, length-append, arith, inl, inr}
use Rattle.std.specs.Prelude.{IfSome}
use Rattle.std.specs.Fmt.{option_append}
use Rattle.std.specs.Io.KnownBytes.{Appends}
use Rattle.std.proofs.KnownBytes.{Appends-nil}
use Rattle.std.proofs.lemmas.Bool.{cases_Bool}
use Rattle.world_calls.specs.declared.record.Record.{Record}
use Rattle.world_calls.specs.declared.trace.Version.{Version}
use Rattle.engine_core.specs.ByNumber.{NumberedState, IsBehind, RecordFollows}
use Rattle.trace.specs.Growing.{Goes, IsFront, StopsIn}
use Rattle.trace.specs.Sinks.{HasFailed}
use Rattle.trace.specs.TraceText.{record_text, records_text}
use Rattle.trace.proofs.Grown.{Fronts, goes_both, goes_none, stops_at, stops_on}
use Rattle.trace.proofs.Printing.{no_records, nothing_append, records_both, records_push}
use Rattle.host_live.specs.declared.printed.Printed.{Printed}
use Rattle.host_live.specs.Answering.{IsLong}
use Rattle.host_live.specs.Served.{IsNow, IsPrintedBehind}
use Rattle.host_metrics.specs.Counted.{CountsOn, MetricsState}
use Rattle.host_live.specs.Growth.{GrowsAs, GrowsBy, PrintedState, Prints, PrintsAll, went, stopped, stayed}
use Rattle.host_live.specs.Metering.{HasCounted, IsCounted, note_at}
use Rattle.host_live.proofs.Metering.{counted_both, counted_none, counted_one}

-- ---- what is printed

no_more : (version : Version) (waiting : List ℕ) (at : Option (List ℕ)) → Goes (records_text version []) waiting at waiting at
no_more version waiting at = subst (λ (t : Option (List ℕ)). Goes t waiting at waiting at) (sym (no_records version)) (goes_none waiting at)

prints_none : (printed : Printed) (at : Option (List ℕ)) (failed : ℕ) → Prints printed at failed [] printed at failed
prints_none printed at failed = elim (cases_Bool printed.has_failed) [
  | inl yes_failed ↦ stayed yes_failed yes_failed refl refl
  | inr not_failed ↦ went not_failed not_failed (no_more printed.lines.version printed.lines.waiting at) refl
]

clash : {A : Type 0} (b : Bool) → b ≡ false → b ≡ true → A
clash b is other = absurd (let bad : false ≡ true = sym is ∙ other in cc)

prints_both : (old mid new : Printed) (at between to : Option (List ℕ)) (failed some fails : ℕ) (more others : List Record) → mid.lines.version ≡ old.lines.version
    → Prints old at failed more mid between some → Prints mid between some others new to fails → Prints old at failed (more ++ others) new to fails
prints_both old mid new at between to failed some fails more others version (went a b goes none) (went c d on same) =
    went a d
    (subst (λ (t : Option (List ℕ)). Goes t old.lines.waiting at new.lines.waiting to) (sym (records_both old.lines.version more others))
    (goes_both (records_text old.lines.version more) (records_text old.lines.version others) old.lines.waiting mid.lines.waiting new.lines.waiting at between to goes
    (subst (λ (v : Version). Goes (records_text v others) mid.lines.waiting between new.lines.waiting to) version on)))
    (same ∙ none)
prints_both old mid new at between to failed some fails more others version (went a b goes none) (stopped c d shown rest whole stops fault) =
    stopped a d (more ++ shown) rest
    (ap (λ (t : List Record). more ++ t) whole ∙ sym (append_assoc more shown rest))
    (subst (λ (t : Option (List ℕ)). StopsIn t old.lines.waiting at to) (sym (records_both old.lines.version more shown))
    (stops_on (records_text old.lines.version more) (records_text old.lines.version shown) old.lines.waiting mid.lines.waiting at between to goes
    (subst (λ (v : Version). StopsIn (records_text v shown) mid.lines.waiting between to) version stops)))
    (subst (λ (n : ℕ). HasFailed n fails) none fault)
prints_both old mid new at between to failed some fails more others version (went a b goes none) (stayed c d same still) = clash mid.has_failed b c
prints_both old mid new at between to failed some fails more others version (stopped a b shown rest whole stops fault) (went c d on same) = clash mid.has_failed c b
prints_both old mid new at between to failed some fails more others version (stopped a b shown rest whole stops fault) (stopped c d again left all stop faults) = clash mid.has_failed c b
prints_both old mid new at between to failed some fails more others version (stopped a b shown rest whole stops fault) (stayed c d same still) =
    stopped a d shown (rest ++ others)
    (ap (λ (t : List Record). t ++ others) whole ∙ append_assoc shown rest others)
    (subst (λ (t : Option (List ℕ)). StopsIn (records_text old.lines.version shown) old.lines.waiting at t) (sym same) stops)
    (subst (λ (n : ℕ). HasFailed failed n) (sym still) fault)
prints_both old mid new at between to failed some fails more others version (stayed a b same still) (went c d on none) = clash mid.has_failed c b
prints_both old mid new at between to failed some fails more others version (stayed a b same still) (stopped c d shown rest whole stops fault) = clash mid.has_failed c b
prints_both old mid new at between to failed some fails more others version (stayed a b same still) (stayed c d again more_still) = stayed a d (again ∙ same) (more_still ∙ still)

pub all_both : (old mid new : Printed) (at between to : Option (List ℕ)) (failed some fails : ℕ) (more others : List Record)
    → PrintsAll old at failed more mid between some → PrintsAll mid between some others new to fails → PrintsAll old at failed (more ++ others) new to fails
all_both old mid new at between to failed some fails more others first second = record {
  version = second.version ∙ first.version;
  count = omega (arith, first.count, second.count, length-append more others);
  prints = prints_both old mid new at between to failed some fails more others first.version first.prints second.prints;
}

pub all_none : (printed : Printed) (at : Option (List ℕ)) (failed : ℕ) → PrintsAll printed at failed [] printed at failed
all_none printed at failed = record { version = refl; count = omega arith; prints = prints_none printed at failed }

-- the line of one record
one_text : (version : Version) (told : Record) → records_text version (told ∷ []) ≡ record_text version told
one_text version told = records_push version [] told ∙ (ap (λ (t : Option (List ℕ)). option_append t (record_text version told)) (no_records version) ∙ nothing_append (record_text version told))

pub one_went : (old new : Printed) (at to : Option (List ℕ)) (failed fails : ℕ) (told : Record) → old.has_failed ≡ false → new.has_failed ≡ false → new.lines.version ≡ old.lines.version → new.count ≡ old.count + 1
    → Goes (record_text old.lines.version told) old.lines.waiting at new.lines.waiting to → fails ≡ failed → PrintsAll old at failed (told ∷ []) new to fails
one_went old new at to failed fails told whole still version count goes none = record {
  version = version;
  count = count;
  prints = went whole still (subst (λ (t : Option (List ℕ)). Goes t old.lines.waiting at new.lines.waiting to) (sym (one_text old.lines.version told)) goes) none;
}

pub one_stopped : (old new : Printed) (at to : Option (List ℕ)) (failed fails : ℕ) (told : Record) → old.has_failed ≡ false → new.has_failed ≡ true → new.lines.version ≡ old.lines.version → new.count ≡ old.count + 1
    → StopsIn (Some []) old.lines.waiting at to → HasFailed failed fails → PrintsAll old at failed (told ∷ []) new to fails
one_stopped old new at to failed fails told whole faulty version count stops fault = record {
  version = version;
  count = count;
  prints = stopped whole faulty [] (told ∷ []) refl (subst (λ (t : Option (List ℕ)). StopsIn t old.lines.waiting at to) (sym (no_records old.lines.version)) stops) fault;
}

pub one_stayed : (old new : Printed) (at : Option (List ℕ)) (failed : ℕ) (told : Record) → old.has_failed ≡ true → new.has_failed ≡ true → new.lines.version ≡ old.lines.version → new.count ≡ old.count + 1 → PrintsAll old at failed (told ∷ []) new at failed
one_stayed old new at failed told faulty still version count = record { version = version; count = count; prints = stayed faulty still refl refl }

-- what waits is handed on
pub handed_went : (old new : Printed) (at to : Option (List ℕ)) (failed fails : ℕ) → old.has_failed ≡ false → new.has_failed ≡ false → new.lines.version ≡ old.lines.version → new.count ≡ old.count
    → Goes (Some []) old.lines.waiting at new.lines.waiting to → fails ≡ failed → PrintsAll old at failed [] new to fails
handed_went old new at to failed fails whole still version count goes none = record {
  version = version;
  count = omega (arith, count);
  prints = went whole still (subst (λ (t : Option (List ℕ)). Goes t old.lines.waiting at new.lines.waiting to) (sym (no_records old.lines.version)) goes) none;
}

pub handed_stopped : (old new : Printed) (at to : Option (List ℕ)) (failed fails : ℕ) → old.has_failed ≡ false → new.has_failed ≡ true → new.lines.version ≡ old.lines.version → new.count ≡ old.count
    → Fronts (Some []) old.lines.waiting at to → HasFailed failed fails → PrintsAll old at failed [] new to fails
handed_stopped old new at to failed fails whole faulty version count fronts fault = record {
  version = version;
  count = omega (arith, count);
  prints = stopped whole faulty [] [] refl (subst (λ (t : Option (List ℕ)). StopsIn t old.lines.waiting at to) (sym (no_records old.lines.version)) (stops_at [] old.lines.waiting at to fronts)) fault;
}

-- an outlet was told something, and took nothing
pub all_same : (printed : Printed) (at to : Option (List ℕ)) (failed fails : ℕ) → to ≡ at → fails ≡ failed → PrintsAll printed at failed [] printed to fails
all_same printed at to failed fails same none =
    subst (λ (n : ℕ). PrintsAll printed at failed [] printed to n) (sym none) (subst (λ (t : Option (List ℕ)). PrintsAll printed at failed [] printed t failed) (sym same) (all_none printed at failed))

-- or could not be told
pub all_stopped : (old new : Printed) (at to : Option (List ℕ)) (failed fails : ℕ) → old.has_failed ≡ false → new.has_failed ≡ true → new.lines.version ≡ old.lines.version → new.count ≡ old.count
    → to ≡ at → HasFailed failed fails → PrintsAll old at failed [] new to fails
all_stopped old new at to failed fails whole faulty version count same fault =
    let front : (more : List ℕ) → IsFront (old.lines.waiting ++ more) at to = λ more.
    subst (λ (t : Option (List ℕ)). IsFront (old.lines.waiting ++ more) at t) (sym same) (record { handed = []; rest = old.lines.waiting ++ more; whole = refl; told = Appends-nil at }) in
    handed_stopped old new at to failed fails whole faulty version count (λ more is. front more) fault

-- ---- what the engine makes

pub by_none : (old : PrintedState) (at : Option (List ℕ)) (failed : ℕ) → GrowsBy [] old at failed old at failed
by_none old at failed = record {
  setup = refl;
  follows = λ records behind. subst (λ (rs : List Record). IsBehind rs old.engine) (sym (append-nil records)) behind;
  printed = all_none old.printed at failed;
  counted = counted_none old.engine old.metrics;
}

-- the trace went on, and the engine stayed
pub by_printed : (engine : NumberedState) (metrics : MetricsState) (old new : Printed) (at to : Option (List ℕ)) (failed fails : ℕ) → PrintsAll old at failed [] new to fails
    → GrowsBy [] (record { engine = engine; printed = old; metrics = metrics }) at failed (record { engine = engine; printed = new; metrics = metrics }) to fails
by_printed engine metrics old new at to failed fails all = record {
  setup = refl;
  follows = λ records behind. subst (λ (rs : List Record). IsBehind rs engine) (sym (append-nil records)) behind;
  printed = all;
  counted = counted_none engine metrics;
}

-- nothing was made
pub by_still : (engine after : NumberedState) (metrics : MetricsState) (printed : Printed) (at : Option (List ℕ)) (failed : ℕ) → after ≡ engine
    → GrowsBy [] (record { engine = engine; printed = printed; metrics = metrics }) at failed (record { engine = after; printed = printed; metrics = metrics }) at failed
by_still engine after metrics printed at failed same =
    subst (λ (e : NumberedState). GrowsBy [] (record { engine = engine; printed = printed; metrics = metrics }) at failed (record { engine = e; printed = printed; metrics = metrics }) at failed) (sym same)
    (by_none (record { engine = engine; printed = printed; metrics = metrics }) at failed)

-- one record was made, printed and counted
pub by_one : (engine after : NumberedState) (metrics counts : MetricsState) (old new : Printed) (at to : Option (List ℕ)) (failed fails : ℕ) (told : Record) → RecordFollows engine told after → after.setup ≡ engine.setup → PrintsAll old at failed (told ∷ []) new to fails → CountsOn (note_at engine told ∷ []) metrics counts
    → GrowsBy (told ∷ []) (record { engine = engine; printed = old; metrics = metrics }) at failed (record { engine = after; printed = new; metrics = counts }) to fails
by_one engine after metrics counts old new at to failed fails told follows setup all counted = record { setup = setup; follows = follows; printed = all; counted = counted_one engine after metrics counts told follows setup counted }

pub both_by : (old mid new : PrintedState) (at between to : Option (List ℕ)) (failed some fails : ℕ) (more others : List Record)
    → GrowsBy more old at failed mid between some → GrowsBy others mid between some new to fails → GrowsBy (more ++ others) old at failed new to fails
both_by old mid new at between to failed some fails more others first second = record {
  setup = second.setup ∙ first.setup;
  follows = λ records behind. subst (λ (rs : List Record). IsBehind rs new.engine) (append_assoc records more others) (second.follows (records ++ more) (first.follows records behind));
  printed = all_both old.printed mid.printed new.printed at between to failed some fails more others first.printed second.printed;
  counted = counted_both old.engine mid.engine new.engine old.metrics mid.metrics new.metrics more others first.counted second.counted;
}

-- nothing more was made
pub by_then : (more : List Record) (old mid new : PrintedState) (at between to : Option (List ℕ)) (failed some fails : ℕ) → GrowsBy more old at failed mid between some → GrowsBy [] mid between some new to fails → GrowsBy more old at failed new to fails
by_then more old mid new at between to failed some fails first second =
    subst (λ (rs : List Record). GrowsBy rs old at failed new to fails) (append-nil more) (both_by old mid new at between to failed some fails more [] first second)

-- ---- what is counted of them

pub has_by : (more : List Record) (old new : PrintedState) (at to : Option (List ℕ)) (failed fails : ℕ) → GrowsBy more old at failed new to fails → HasCounted old.engine old.metrics new.engine new.metrics
has_by more old new at to failed fails by = (more, by.counted)

pub has_as : {P : List Record → Type 0} (old new : PrintedState) (at to : Option (List ℕ)) (failed fails : ℕ) → GrowsAs P old at failed new to fails → HasCounted old.engine old.metrics new.engine new.metrics
has_as old new at to failed fails grows = (grows.more, grows.by.counted)

-- ---- what is said of the records that it makes

pub as_by : {P : List Record → Type 0} (more : List Record) (old new : PrintedState) (at to : Option (List ℕ)) (failed fails : ℕ) → P more → GrowsBy more old at failed new to fails → GrowsAs P old at failed new to fails
as_by more old new at to failed fails these by = record { more = more; these = these; by = by }

pub as_none : {P : List Record → Type 0} (old : PrintedState) (at : Option (List ℕ)) (failed : ℕ) → P [] → GrowsAs P old at failed old at failed
as_none old at failed these = record { more = []; these = these; by = by_none old at failed }

pub as_these : {P Q : List Record → Type 0} (old new : PrintedState) (at to : Option (List ℕ)) (failed fails : ℕ) → ((more : List Record) → P more → Q more) → GrowsAs P old at failed new to fails → GrowsAs Q old at failed new to fails
as_these old new at to failed fails on grows = record { more = grows.more; these = on grows.more grows.these; by = grows.by }

pub as_both : {P Q R : List Record → Type 0} (old mid new : PrintedState) (at between to : Option (List ℕ)) (failed some fails : ℕ) → ((more others : List Record) → P more → Q others → R (more ++ others))
    → GrowsAs P old at failed mid between some → GrowsAs Q mid between some new to fails → GrowsAs R old at failed new to fails
as_both old mid new at between to failed some fails on first second = record {
  more = first.more ++ second.more;
  these = on first.more second.more first.these second.these;
  by = both_by old mid new at between to failed some fails first.more second.more first.by second.by;
}

-- these were made before
pub as_after : {P Q : List Record → Type 0} (first : List Record) (old mid new : PrintedState) (at between to : Option (List ℕ)) (failed some fails : ℕ) → ((others : List Record) → P others → Q (first ++ others)) → GrowsBy first old at failed mid between some → GrowsAs P mid between some new to fails
    → GrowsAs Q old at failed new to fails
as_after first old mid new at between to failed some fails on by after = record { more = first ++ after.more; these = on after.more after.these; by = both_by old mid new at between to failed some fails first after.more by after.by }

-- nothing more was made
pub as_then : {P : List Record → Type 0} (old mid new : PrintedState) (at between to : Option (List ℕ)) (failed some fails : ℕ) → GrowsAs P old at failed mid between some → GrowsBy [] mid between some new to fails → GrowsAs P old at failed new to fails
as_then old mid new at between to failed some fails first second = record { more = first.more; these = first.these; by = by_then first.more old mid new at between to failed some fails first.by second }

-- ---- writes that failed

-- a write failed meanwhile
pub failed_meanwhile : (more : List Record) (old new : PrintedState) (at to : Option (List ℕ)) (failed fails : ℕ) → old.printed.has_failed ≡ false → new.printed.has_failed ≡ true → GrowsBy more old at failed new to fails → HasFailed failed fails
failed_meanwhile more old new at to failed fails whole faulty by = elim by.printed.prints [
  | went a b goes none ↦ clash new.printed.has_failed b faulty
  | stopped a b shown rest all stops fault ↦ fault
  | stayed a b same still ↦ clash old.printed.has_failed whole a
]

-- ---- where answers stand

-- so many bytes were handed on
long_now : (at to : Option (List ℕ)) (handed : List ℕ) (behind : ℕ) → Appends at to handed → IsLong to behind → IfSome at (λ its. behind ≡ length its + length handed)
long_now None to handed behind told long = tt
long_now (Some its) None handed behind told long = absurd told
long_now (Some its) (Some all) handed behind told long = long ∙ (ap length told ∙ length-append its handed)

long_after : (at between : Option (List ℕ)) (handed text : List ℕ) (behind : ℕ) → Appends at between handed → IfSome between (λ its. behind ≡ length its + length text) → IfSome at (λ its. behind ≡ length its + length (handed ++ text))
long_after None between handed text behind told long = tt
long_after (Some its) None handed text behind told long = absurd told
long_after (Some its) (Some all) handed text behind told long = omega (arith, long, ap length told, length-append its handed, length-append handed text)

-- all was handed on: what is out is after the lines of these records
pub placed_now : (more : List Record) (old new : PrintedState) (at to : Option (List ℕ)) (failed fails : ℕ) → GrowsBy more old at failed new to fails → (behind : ℕ) → IsNow new.printed to behind → IsPrintedBehind old.printed at more behind
placed_now more old new at to failed fails by behind is = elim by.printed.prints [
  | went a b goes none ↦
      let handed : goes.handed ≡ old.printed.lines.waiting ++ goes.more = sym (goes.whole ∙ (ap (λ (t : List ℕ). goes.handed ++ t) is.0.0 ∙ append-nil goes.handed)) in
      (a, (goes.more, goes.is, subst (λ (t : List ℕ). IfSome at (λ its. behind ≡ length its + length t)) handed (long_now at to goes.handed behind goes.told is.1)))
  | stopped a b shown rest all stops fault ↦ clash new.printed.has_failed is.0.1 b
  | stayed a b same still ↦ clash new.printed.has_failed is.0.1 b
]

-- these were printed before
pub placed_after : (first : List Record) (old mid : PrintedState) (at between : Option (List ℕ)) (failed some : ℕ) → GrowsBy first old at failed mid between some → (more : List Record) (behind : ℕ) → IsPrintedBehind mid.printed between more behind → IsPrintedBehind old.printed at (first ++ more) behind
placed_after first old mid at between failed some by more behind is = elim by.printed.prints [
  | went a b goes none ↦
      let text : List ℕ = is.1.0 in
      let later : records_text old.printed.lines.version more ≡ Some text = subst (λ (v : Version). records_text v more ≡ Some text) by.printed.version is.1.1 in
      let both : records_text old.printed.lines.version (first ++ more) ≡ Some (goes.more ++ text) =
      records_both old.printed.lines.version first more ∙ (ap (λ (t : Option (List ℕ)). option_append t (records_text old.printed.lines.version more)) goes.is ∙ ap (option_append (Some goes.more)) later) in
      let whole : goes.handed ++ (mid.printed.lines.waiting ++ text) ≡ old.printed.lines.waiting ++ (goes.more ++ text) =
      sym (append_assoc goes.handed mid.printed.lines.waiting text) ∙ (ap (λ (t : List ℕ). t ++ text) (sym goes.whole) ∙ append_assoc old.printed.lines.waiting goes.more text) in
      (a, (goes.more ++ text, both, subst (λ (t : List ℕ). IfSome at (λ its. behind ≡ length its + length t)) whole (long_after at between goes.handed (mid.printed.lines.waiting ++ text) behind goes.told is.1.2)))
  | stopped a b shown rest all stops fault ↦ clash mid.printed.has_failed is.0 b
  | stayed a b same still ↦ clash mid.printed.has_failed is.0 b
]
