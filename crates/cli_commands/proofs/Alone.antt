-- What was served of an engine of a manifest.
use Rattle.std.proofs.Common.{◌≡◌, ◌≤◌, ◌∙◌, ℕ, Bool, true, false, Option, Some, None, Result, Ok, Err, List, [], ◌++◌, ap, append-nil, arith, drop, refl, subst, sym, take}
use Rattle.std.specs.Prelude.{◌≢◌}
use Rattle.std.specs.Fmt.{option_append}
use Rattle.std.specs.Io.KnownBytes.{Appends}
use Rattle.std.proofs.KnownBytes.{Appends-nil, Appends-trans}
use Rattle.std.proofs.lemmas.List.{take-append-drop}
use Rattle.engine_core.specs.ByNumber.{NumberedState, opened_numbered}
use Rattle.trace.specs.Growing.{IsFront}
use Rattle.trace.specs.TraceText.{header, records_text, totals_text}
use Rattle.whole_trace.specs.Continued.{items_of}
use Rattle.world.specs.World.{Setup, version_of}
use Rattle.world_calls.specs.declared.carried_line.CarriedLine.{CarriedLine}
use Rattle.world_calls.specs.declared.record.Record.{Record}
use Rattle.world_calls.specs.declared.totals.Totals.{Totals}
use Rattle.host_metrics.specs.Counted.{MetricsState}
use Rattle.host_live.specs.Answering.{Answer}
use Rattle.host_live.specs.Inputs.{CameState}
use Rattle.host_live.specs.Telling.{Continues, IsContinued, IsLast, last_text}
use Rattle.host_live.specs.declared.lines.Lines.{Lines}
use Rattle.host_live.specs.declared.manner.Manner.{Manner}
use Rattle.host_live.specs.declared.serving.LiveFault.{LiveFault}
use Rattle.host_journal.specs.Made.{IsFirstEngine, front_of, or_none}
use Rattle.cli_commands.specs.Alone.{GoesAlone, IsFirstOf, IsOutcomeAlone, IsServedFrom, IsTraceFirst, IsTraceOut, alone, at_the_end, begun, front_in, not_begun}
use Rattle.cli_commands.specs.Readings.{Reading}
use Rattle.cli_commands.specs.Told.{IsServing}
use Rattle.cli_commands.specs.declared.following.Next.{Next}
use Rattle.cli_commands.specs.declared.serving.Outcome.{Outcome}
use Rattle.cli_commands.specs.declared.serving.Outcome.TheVariants.{Ended, Followed}

pub no_zero : (status : ℕ) → 1 ≤ status → status ≢ 0
no_zero status some none = omega (arith, some, none)

-- nothing more is served
pub ended_alone : {MayRead : Reading → Type 0} (manner : Manner) (P : Option CameState → Option (List ℕ) → Option (List Answer) → MetricsState → ℕ → Type 0) (s : ℕ) (outcome : Outcome) (came : Option CameState) (lines : Lines) (base : Option (List ℕ)) (given : Option (List Answer)) (before : MetricsState) (last : Option CameState) (at : Option (List ℕ)) (told : Option (List Answer)) (left : MetricsState) (status : ℕ)
    → outcome ≡ Ended s → P came base given before s → GoesAlone MayRead manner outcome came lines base given before last at told left status → P last at told left status
ended_alone manner P s outcome came lines base given before last at told left status is p (at_the_end own it its here answered counts) = let one : s ≡ own = (let bad = is in cc) in subst (λ (n : ℕ). P it here answered counts n) one p
ended_alone manner P s outcome came lines base given before last at told left status is p (not_begun next it its from here answered counts front) = absurd (let bad : Followed next ≡ Ended s = is in cc)
ended_alone manner P s outcome came lines base given before last at told left status is p (begun next engine began it end its later from mid here to answers answered answer counted counts count what own first put served on) = absurd (let bad : Followed next ≡ Ended s = is in cc)

-- what it was given stays
pub kept_answers : {MayRead : Reading → Type 0} (number : ℕ) (own : List ℕ) (engine : NumberedState) (manner : Manner) (owed : Option ℕ) (began : Option CameState) (lines : Lines) (base : Option (List ℕ)) (given other : Option (List Answer)) (before : MetricsState) (came : Option CameState) (later : Lines) (at : Option (List ℕ)) (answered : Option (List Answer)) (after : MetricsState) (outcome : Outcome)
    → other ≡ given → IsServedFrom MayRead number own engine manner owed began lines base other before came later at answered after outcome → IsServedFrom MayRead number own engine manner owed began lines base given before came later at answered after outcome
kept_answers {MayRead = MayRead} number own engine manner owed began lines base given other before came later at answered after outcome same it = subst (λ (a : Option (List Answer)). IsServedFrom MayRead number own engine manner owed began lines base a before came later at answered after outcome) same it

-- nothing is out of it
pub no_front : (text : List ℕ) (base : Option (List ℕ)) → IsFront text base base
no_front text base = record { handed = []; rest = text; whole = refl; told = Appends-nil base }

-- a part of it is
pub front_taken : (text : List ℕ) (taken : ℕ) (base at : Option (List ℕ)) → Appends base at (take taken text) → IsFront text base at
front_taken text taken base at told = record { handed = take taken text; rest = drop taken text; whole = sym (take-append-drop taken text); told = told }

-- ---- what went out

none_put : (base : Option (List ℕ)) → Appends base base []
none_put base = Appends-nil base

went_out : {E : Type 0} (setup : Setup) (manner : Manner) (records : List Record) (base at : Option (List ℕ)) (result : Result Bool E) → Continues setup manner records base result at → (more : List ℕ) × Appends base at more
went_out setup manner records base at (Ok done) it = (it.bytes, it.told)
went_out setup manner records base at (Err fault) it = (it.front.handed, it.front.told)

all_went : {MayRead : Reading → Type 0} (manner : Manner) (outcome : Outcome) (came : Option CameState) (lines : Lines) (base : Option (List ℕ)) (given : Option (List Answer)) (before : MetricsState) (last : Option CameState) (at : Option (List ℕ)) (told : Option (List Answer)) (left : MetricsState) (status : ℕ) → GoesAlone MayRead manner outcome came lines base given before last at told left status → (more : List ℕ) × Appends base at more
all_went manner outcome came lines base given before last at told left status (at_the_end own it its here answered counts) = ([], none_put here)
all_went manner outcome came lines base given before last at told left status (not_begun next it its from here answered counts front) = (front.handed, front.told)
all_went manner outcome came lines base given before last at told left status (begun next engine began it end its later from mid here to answers answered answer counted counts count what own first put served on) =
    let one = went_out engine.setup (alone manner) [] mid here served.result served.told in
    let rest = all_went manner what it later here answered counts end to answer count own on in
    (front_in next ++ (one.0 ++ rest.0), Appends-trans from mid to (front_in next) (one.0 ++ rest.0) put (Appends-trans mid here to one.0 rest.0 one.1 rest.1))

-- an engine that was not kept has its last line
whole_out : (manifest : List ℕ) (setup : Setup) (manner : Manner) (base mid at : Option (List ℕ)) → IsServing manifest setup → Appends base mid (header (version_of setup)) → (it : IsContinued setup (alone manner) [] mid at) → (last : Option Totals) → it.last ≡ last → IsTraceOut manifest base at
whole_out manifest setup manner base mid at serving put it None is = absurd (let kept = subst (λ (l : Option Totals). IsLast setup (alone manner) ([] ++ it.more) l) is it.is_last in let bad : false ≡ true = kept.0 in cc)
whole_out manifest setup manner base mid at serving put it (Some totals) is =
    let last = subst (λ (l : Option Totals). IsLast setup (alone manner) it.more l) is it.is_last in
    let text : option_append (records_text (version_of setup) it.more) (totals_text totals) ≡ Some it.bytes = subst (λ (l : Option Totals). option_append (records_text (version_of setup) it.more) (last_text l) ≡ Some it.bytes) is it.is in (
      header (version_of setup) ++ it.bytes,
      Appends-trans base mid at (header (version_of setup)) it.bytes put it.told,
      (record { version = version_of setup; records = record { items = it.more; capacity = 0 }; totals = totals }, (setup, serving.0, serving.1, refl, last.0), ap (option_append (Some (header (version_of setup)))) text),
    )

-- its status is none of an end
no_end_alone : {A : Type 0} {MayRead : Reading → Type 0} (manner : Manner) (outcome : Outcome) (came : Option CameState) (lines : Lines) (base : Option (List ℕ)) (given : Option (List Answer)) (before : MetricsState) (last : Option CameState) (at : Option (List ℕ)) (told : Option (List Answer)) (left : MetricsState) → outcome ≡ Ended 2 → (status : ℕ) → status ≡ 0 → GoesAlone MayRead manner outcome came lines base given before last at told left status → A
no_end_alone {A} manner outcome came lines base given before last at told left is status none goes = absurd (ended_alone manner (λ c b g m s. s ≡ 0 → ⊥) 2 outcome came lines base given before last at told left status is (λ two. let bad : 2 ≡ 0 = two in cc) goes none)

first_out : {MayRead : Reading → Type 0} (number : ℕ) (manifest : List ℕ) (setup : Setup) (manner : Manner) (base mid at : Option (List ℕ)) (result : Result Bool LiveFault) (following : Option Next) (outcome : Outcome) (came : Option CameState) (lines : Lines) (given : Option (List Answer)) (before : MetricsState) (last : Option CameState) (to : Option (List ℕ)) (told : Option (List Answer)) (left : MetricsState) (status : ℕ) → status ≡ 0
    → IsServing manifest setup → Appends base mid (header (version_of setup)) → Continues setup (alone manner) [] mid result at → IsOutcomeAlone number result following outcome → GoesAlone MayRead manner outcome came lines at given before last to told left status → IsTraceFirst manifest base to
first_out number manifest setup manner base mid at (Ok done) following outcome came lines given before last to told left status none serving put it is on = (at, whole_out manifest setup manner base mid at serving put it it.last refl, all_went manner outcome came lines at given before last to told left status on)
first_out number manifest setup manner base mid at (Err fault) following outcome came lines given before last to told left status none serving put it is on = no_end_alone manner outcome came lines at given before last to told left is status none on

header_front : (setup : Setup) (carried : Option (List CarriedLine)) → carried ≡ None → or_none (front_of setup carried) ≡ header (version_of setup)
header_front setup carried none = ap (λ (c : Option (List CarriedLine)). or_none (front_of setup c)) none

opened_first : (setup : Setup) (carried : Option (List CarriedLine)) (engine : NumberedState) → carried ≡ None → IsFirstEngine setup carried engine → engine ≡ opened_numbered setup
opened_first setup None engine none it = it
opened_first setup (Some lines) engine none it = absurd (let bad = none in cc)

pub trace_first : {MayRead : Reading → Type 0} (manifest : List ℕ) (manner : Manner) (first : Next) (outcome : Outcome) (came : Option CameState) (lines : Lines) (base : Option (List ℕ)) (given : Option (List Answer)) (before : MetricsState) (last : Option CameState) (at : Option (List ℕ)) (told : Option (List Answer)) (left : MetricsState) (status : ℕ) → status ≡ 0 → IsFirstOf manifest first → outcome ≡ Followed first
    → GoesAlone MayRead manner outcome came lines base given before last at told left status → IsTraceFirst manifest base at
trace_first manifest manner first outcome came lines base given before last at told left status none is so (at_the_end own it its here answered counts) = absurd (let bad : Ended own ≡ Followed first = so in cc)
trace_first manifest manner first outcome came lines base given before last at told left status none is so (not_begun next it its from here answered counts front) = absurd (let bad : 2 ≡ 0 = none in cc)
trace_first manifest manner first outcome came lines base given before last at told left status none is so (begun next engine began it end its later from mid here to answers answered answer counted counts count what own head put served on) =
    let same : next ≡ first = (let all = so in cc) in
    let of = subst (IsFirstOf manifest) (sym same) is in
    let opened = opened_first next.config (items_of next.carried) engine of.carried head in
    first_out next.number manifest next.config manner from mid here served.result served.next what it later answered counts end to answer count own none of.serving
    (subst (Appends from mid) (header_front next.config (items_of next.carried) of.carried) put)
    (subst (λ (s : Setup). Continues s (alone manner) [] mid served.result here) (ap (λ (e : NumberedState). e.setup) opened) served.told) served.is_outcome on
