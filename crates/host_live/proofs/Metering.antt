-- How what is counted goes on.
use Rattle.std.proofs.Common.{◌≡◌, ◌∙◌, ℕ, List, [], ◌∷◌, ◌++◌, map, refl, sym, ap, subst, append_assoc, append-nil}
use Rattle.std.proofs.lemmas.List.{map-append}
use Rattle.world.specs.World.{Runs, Transport}
use Rattle.world_calls.specs.declared.call.Call.{Call}
use Rattle.world_calls.specs.declared.call_answer.CallAnswer.{CallAnswer}
use Rattle.world_calls.specs.declared.record.Record.{Record}
use Rattle.world_calls.specs.declared.record.Record.TheVariants.{Advance, Called}
use Rattle.world_calls.specs.declared.record.StoppedAt.{StoppedAt}
use Rattle.engine_core.specs.ByNumber.{IsAdvanceOf, NumberedState, RecordFollows}
use Rattle.host_metrics.specs.declared.before.Before.{Before}
use Rattle.host_metrics.specs.Notes.{IsBefore, Note}
use Rattle.host_metrics.specs.Counted.{CountsOn, MetricsState}
use Rattle.host_metrics.proofs.Counting.{counts_both, counts_none}
use Rattle.host_live.specs.Metering.{CountsTo, HasCounted, IsCounted, MayCount, Went, note_at, nowhere, one_more}

went_both : (start mid end : NumberedState) (notes others : List Note) → Went start notes mid → Went mid others end → Went start (notes ++ others) end
went_both start mid end notes others first nowhere = subst (λ (ns : List Note). Went start ns mid) (sym (append-nil notes)) first
went_both start mid end notes others first (one_more so_far before told after way follows setup) =
    subst (λ (ns : List Note). Went start ns end) (append_assoc notes so_far (note_at before told ∷ []))
    (one_more (notes ++ so_far) before told after (went_both start mid before notes so_far first way) follows setup)

pub counted_none : (engine : NumberedState) (metrics : MetricsState) → IsCounted engine metrics [] engine metrics
counted_none engine metrics = record { notes = []; records = refl; went = nowhere; counts = counts_none metrics }

pub counted_one : (before after : NumberedState) (old new : MetricsState) (told : Record) → RecordFollows before told after → after.setup ≡ before.setup → CountsOn (note_at before told ∷ []) old new → IsCounted before old (told ∷ []) after new
counted_one before after old new told follows setup counts = record { notes = note_at before told ∷ []; records = refl; went = one_more [] before told after nowhere follows setup; counts = counts }

pub counted_both : (start mid now : NumberedState) (old some new : MetricsState) (more others : List Record) → IsCounted start old more mid some → IsCounted mid some others now new → IsCounted start old (more ++ others) now new
counted_both start mid now old some new more others first second = record {
  notes = first.notes ++ second.notes;
  records = map-append (λ (note : Note). note.told) first.notes second.notes ∙ (ap (λ (rs : List Record). rs ++ map (λ note. note.told) second.notes) first.records ∙ ap (λ (rs : List Record). more ++ rs) second.records);
  went = went_both start mid now first.notes second.notes first.went second.went;
  counts = counts_both first.notes second.notes old some new first.counts second.counts;
}

pub has_both : (start mid now : NumberedState) (old some new : MetricsState) → HasCounted start old mid some → HasCounted mid some now new → HasCounted start old now new
has_both start mid now old some new first second = (first.0 ++ second.0, counted_both start mid now old some new first.0 second.0 first.1 second.1)

pub has_none : (engine : NumberedState) (metrics : MetricsState) → HasCounted engine metrics engine metrics
has_none engine metrics = ([], counted_none engine metrics)

-- what may be counted from there on may be from here on
pub may_on : (Counted : MetricsState → NumberedState → Type 0) (start now : NumberedState) (old new : MetricsState) → MayCount Counted start old → HasCounted start old now new → MayCount Counted now new
may_on Counted start now old new may has = λ more later last counted. may (has.0 ++ more) later last (counted_both start now later old new last has.0 more has.1 counted)

pub may_now : (Counted : MetricsState → NumberedState → Type 0) (start : NumberedState) (old : MetricsState) → MayCount Counted start old → Counted old start
may_now Counted start old may = may [] start old (counted_none start old)

-- ---- what was counted at last

-- counters that were taken over before, and were handed over since
pub counts_to : (start now : NumberedState) (old taken new handed : MetricsState) (Reported : MetricsState → NumberedState → Type 0) (more : List Record) → taken ≡ old → handed ≡ new → IsCounted start taken more now new → Reported new now → CountsTo start old Reported handed more
counts_to start now old taken new handed Reported more before after counted reported = record {
  now = now;
  counted = subst (λ (m : MetricsState). IsCounted start old more now m) (sym after) (subst (λ (m : MetricsState). IsCounted start m more now new) before counted);
  reported = subst (λ (m : MetricsState). Reported m now) (sym after) reported;
}

pub counts_to_none : (start : NumberedState) (old : MetricsState) (Reported : MetricsState → NumberedState → Type 0) → Reported old start → CountsTo start old Reported old []
counts_to_none start old Reported reported = record { now = start; counted = counted_none start old; reported = reported }

-- ---- what is noted before

pub before_call : (before : Before) (engine : NumberedState) (transport : Transport) (call : Call) (answer : CallAnswer) → transport ≡ engine.transport
    → ((runs : Runs) (answer : CallAnswer) → IsBefore before (record { transport = transport; runs = runs; told = Called answer call })) → IsBefore before (note_at engine (Called answer call))
before_call before engine transport call answer same is =
    subst (λ (t : Transport). IsBefore before (record { transport = t; runs = engine.runs; told = Called answer call })) same (is engine.runs answer)

pub before_run : (before : Before) (engine : NumberedState) (runs : Runs) (run : ℕ) (told : Record) → runs ≡ engine.runs → IsAdvanceOf run told
    → ((transport : Transport) (instructions : ℕ) (stop : StoppedAt) (r0 : ℕ) → IsBefore before (record { transport = transport; runs = runs; told = Advance run instructions stop r0 })) → IsBefore before (note_at engine told)
before_run before engine runs run told same advance is =
    subst (λ (t : Record). IsBefore before (record { transport = engine.transport; runs = engine.runs; told = t })) (sym advance.is)
    (subst (λ (r : Runs). IsBefore before (record { transport = engine.transport; runs = r; told = Advance run advance.instructions advance.stop advance.r0 })) same
    (is engine.transport advance.instructions advance.stop advance.r0))
