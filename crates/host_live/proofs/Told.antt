-- What is out of the trace of an engine to which a history led, and which went on.
use Rattle.std.proofs.Common.{◌≡◌, ◌∙◌, ℕ, Bool, true, false, Option, Some, None, Result, Ok, Err, List, [], ◌++◌, length, length-append, refl, sym, ap, subst, append_assoc, append-nil, inl, inr, ◌⊎◌, arith}
use Rattle.std.specs.Prelude.{IfOk, IfSome, MatchBool}
use Rattle.std.specs.Fmt.{option_append}
use Rattle.std.specs.Io.KnownBytes.{Appends}
use Rattle.std.proofs.lemmas.List.Concat.{flat_map-append}
use Rattle.world_calls.specs.declared.record.Record.{Record}
use Rattle.world_calls.specs.declared.totals.Totals.{Totals}
use Rattle.world_calls.specs.declared.trace.Version.{Version}
use Rattle.engine_core.specs.ByNumber.{NumberedState, IsBehind, IsHistory, sums_behind}
use Rattle.trace.specs.Growing.{Goes, IsFront, StopsIn}
use Rattle.trace.specs.TraceText.{records_text, totals_text}
use Rattle.trace.proofs.Grown.{goes_both, stops_on}
use Rattle.trace.proofs.Printing.{append_nothing}
use Rattle.world.specs.World.{Runs, Setup, World, beginning, version_of}
use Rattle.world.specs.WorldRun.{WorldRun}
use Rattle.world.specs.Event.{Event, Reply}
use Rattle.world.specs.Flat.{events_of, flat}
use Rattle.world_laws.proofs.Leads.{leads_split}
use Rattle.world.specs.TotalsOf.{TotalsOf, totals_in}
use Rattle.host_live.specs.Answering.{Answer, IsLong, with_answers}
use Rattle.host_live.specs.Inputs.{CameState}
use Rattle.host_live.specs.Served.{ContinuesTurns, IsGoneOn, IsGoneOnInPart, IsOwed, IsPrintedBehind, IsServedOn, IsServedOnInPart, is_carried_out}
use Rattle.host_live.specs.declared.reports.Unfollowed.{Unfollowed}
use Rattle.host_live.specs.declared.request.Succession.{Succession}
use Rattle.host_live.specs.Turns.{IsAt, Point}
use Rattle.host_live.specs.declared.lines.Lines.{Lines}
use Rattle.host_live.specs.declared.manner.Manner.{Manner}
use Rattle.host_live.proofs.Finishing.{gone_on_in_part_placed, gone_on_placed, gone_on_wholly, none_gone_on}
use Rattle.host_live.proofs.Outcomes.{err_of, none_given}
use Rattle.host_metrics.specs.Counted.{MetricsState}
use Rattle.host_live.specs.Growth.{GrowsBy, PrintedState, resumed_printed, went, stopped, stayed}
use Rattle.host_live.specs.declared.printed.Printed.{Printed}
use Rattle.host_live.specs.Telling.{Closes, Continues, IsContinued, IsContinuedInPart, IsOutBehind, IsStillLive}

clash : {A : Type 0} (b : Bool) → b ≡ false → b ≡ true → A
clash b is other = absurd (let bad : false ≡ true = sym is ∙ other in cc)

-- whatever there is
pub if_any : {A : Type 0} {Q : Type 0} (o : Option A) → Q → IfSome o (λ it. Q)
if_any None it = tt
if_any (Some value) it = it

-- ---- an engine to which a history led went on, and its records went out as far as they did

-- a front of a history is one
shorter : (setup : Setup) (xs ys : List Record) → IsHistory setup (xs ++ ys) → IsHistory setup xs
shorter setup xs ys history =
    let parts = leads_split setup (beginning setup) (flat xs) (flat ys) history.0 (subst (λ (es : List (Event × Reply)). WorldRun setup es history.0) (flat_map-append events_of xs ys) history.1).1 in
    (parts.0, (history.1.0, parts.1))

module _ (manner : Manner) (start : NumberedState) (count : ℕ) (metrics : MetricsState) (engine : PrintedState) (base at : Option (List ℕ)) (failed fails : ℕ) (made : List Record) (grows : GrowsBy made (resumed_printed count start metrics) base failed engine at fails) (records : List Record) (behind_start : IsBehind records start) where
  abbrev its : Version
  its = version_of start.setup

  abbrev sums_on : Totals
  sums_on = sums_behind engine.printed.count engine.engine

  abbrev history_on : IsHistory start.setup (records ++ made)
  history_on =
      let on = grows.follows records behind_start in
      (on.world, subst (λ (s : Setup). WorldRun s (flat (records ++ made)) on.world) grows.setup on.leads)

  same_runs : (grows.follows records behind_start).world.runs ≡ engine.engine.runs
  same_runs = ap (λ (w : World). w.runs) (grows.follows records behind_start).is

  still_live : (engine.engine.runs.list ≡ [] → ⊥) → IsStillLive start.setup (records ++ made)
  still_live live = (history_on.0, history_on.1, λ none. live (subst (λ (r : Runs). r.list ≡ []) same_runs none))

  sums_follow : count ≡ length records → TotalsOf start.setup (records ++ made) sums_on
  sums_follow counted =
      let on = grows.follows records behind_start in
      let all : engine.printed.count ≡ length (records ++ made) = omega (arith, grows.printed.count, counted, length-append records made) in
      (on.world, history_on.1, ap (λ (n : ℕ). sums_behind n engine.engine) all ∙ sym (ap (λ (w : World). totals_in (records ++ made) w) on.is))

  continued_in_part : (out : IsContinuedInPart start.setup manner records base at) × (rest : List Record) × (made ≡ out.more ++ rest) × (out.last ≡ None)
  continued_in_part = elim grows.printed.prints [
    | went a b goes none ↦ (
      record { more = made; last = None; history = history_on; sums = tt; bytes = goes.more; is = append_nothing (records_text its made) ∙ goes.is; front = record { handed = goes.handed; rest = engine.printed.lines.waiting; whole = goes.whole; told = goes.told } },
      [],
      sym (append-nil made),
      refl,
    )
    | stopped a b shown rest whole stops fault ↦
        let longer : records ++ made ≡ (records ++ shown) ++ rest = ap (λ (t : List Record). records ++ t) whole ∙ sym (append_assoc records shown rest) in (
          record {
            more = shown;
            last = None;
            history = shorter start.setup (records ++ shown) rest (subst (IsHistory start.setup) longer history_on);
            sums = tt;
            bytes = stops.more;
            is = append_nothing (records_text its shown) ∙ stops.is;
            front = stops.front;
          },
          rest,
          whole,
          refl,
        )
    | stayed a b same still ↦ clash false refl a
  ]

  -- all lines of the records went out
  all_went : engine.printed.has_failed ≡ false → Goes (records_text its made) [] base engine.printed.lines.waiting at
  all_went whole = elim grows.printed.prints [
    | went a b goes none ↦ goes
    | stopped a b shown rest faulty stops fault ↦ clash engine.printed.has_failed whole b
    | stayed a b same still ↦ clash engine.printed.has_failed whole b
  ]

  left_open : manner.is_kept ≡ true → engine.printed.lines.waiting ≡ [] → engine.printed.has_failed ≡ false → (engine.engine.runs.list ≡ [] → ⊥) → (out : IsContinued start.setup manner records base at) × (out.more ≡ made)
  left_open kept all whole live =
      let goes = all_went whole in
      let handed : goes.more ≡ goes.handed = goes.whole ∙ (ap (λ (t : List ℕ). goes.handed ++ t) all ∙ append-nil goes.handed) in
      (record { more = made; last = None; history = history_on; is_last = (kept, still_live live); bytes = goes.more; is = append_nothing (records_text its made) ∙ goes.is; told = subst (Appends base at) (sym handed) goes.told }, refl)

  -- and the last line
  abbrev with_last : Option (List ℕ)
  with_last = option_append (records_text its made) (totals_text sums_on)

  last_went : (to : Option (List ℕ)) → engine.printed.has_failed ≡ false → Goes (totals_text sums_on) engine.printed.lines.waiting at [] to → Goes with_last [] base [] to
  last_went to whole ends = goes_both (records_text its made) (totals_text sums_on) [] engine.printed.lines.waiting [] base at to (all_went whole) ends

  shut : (to : Option (List ℕ)) → count ≡ length records → engine.printed.has_failed ≡ false → (manner.is_kept ≡ true → engine.engine.runs.list ≡ []) → Goes (totals_text sums_on) engine.printed.lines.waiting at [] to → (out : IsContinued start.setup manner records base to) × (out.more ≡ made)
  shut to counted whole none ends =
      let on = last_went to whole ends in (
        record {
          more = made;
          last = Some sums_on;
          history = history_on;
          is_last = (sums_follow counted, λ kept. ap length (none kept));
          bytes = on.more;
          is = on.is;
          told = subst (Appends base to) (sym (on.whole ∙ append-nil on.handed)) on.told;
        },
        refl,
      )

  stopped_at_last : (to : Option (List ℕ)) → count ≡ length records → engine.printed.has_failed ≡ false
      → (StopsIn (Some []) engine.printed.lines.waiting at to ⊎ StopsIn (totals_text sums_on) engine.printed.lines.waiting at to) ⊎ Goes (totals_text sums_on) engine.printed.lines.waiting at [] to
      → (manner.is_kept ≡ true → engine.engine.runs.list ≡ []) → (out : IsContinuedInPart start.setup manner records base to) × (made ≡ out.more)
  stopped_at_last to counted whole ends none = elim ends [
    | inl stops ↦ elim stops [
      | inl s ↦
          let on = stops_on (records_text its made) (Some []) [] engine.printed.lines.waiting base at to (all_went whole) s in
          (record { more = made; last = None; history = history_on; sums = tt; bytes = on.more; is = on.is; front = on.front }, refl)
      | inr s ↦
          let on = stops_on (records_text its made) (totals_text sums_on) [] engine.printed.lines.waiting base at to (all_went whole) s in
          (record { more = made; last = Some sums_on; history = history_on; sums = (sums_follow counted, λ kept. ap length (none kept)); bytes = on.more; is = on.is; front = on.front }, refl)
    ]
    | inr gone ↦
        let on = last_went to whole gone in
        (record { more = made; last = Some sums_on; history = history_on; sums = (sums_follow counted, λ kept. ap length (none kept)); bytes = on.more; is = on.is; front = record { handed = on.handed; rest = []; whole = on.whole; told = on.told } }, refl)
  ]

  abbrev Printed_on : List Record → ℕ → Type 0
  Printed_on = IsPrintedBehind (resumed_printed count start metrics).printed base

  abbrev Out_on : List Record → ℕ → Type 0
  Out_on = IsOutBehind its [] base

  closed_out : {T E : Type 0} (r : Result T E) (to : Option (List ℕ)) → count ≡ length records → engine.printed.lines.waiting ≡ [] → engine.printed.has_failed ≡ false → Closes manner engine at r to → Continues start.setup manner records base r to
  closed_out (Ok done) to counted all whole closes = elim closes [
    | inl alive ↦ subst (λ (o : Option (List ℕ)). IsContinued start.setup manner records base o) (sym alive.2) (left_open alive.0 all whole alive.1).0
    | inr ended ↦ (shut to counted whole ended.0 ended.1).0
  ]
  closed_out (Err fault) to counted all whole closes = (stopped_at_last to counted whole closes.1 closes.0).0

  -- what went out after the last line, or without it
  pub continues_closed : {T E : Type 0} (r : Result T E) (to : Option (List ℕ)) → count ≡ length records → engine.printed.lines.waiting ≡ [] → engine.printed.has_failed ≡ false → Closes manner engine at r to → Continues start.setup manner records base r to
  continues_closed r to counted all whole closes = closed_out r to counted all whole closes

  pub continues_part : (T : Type 0) {E : Type 0} (fault : E) → Continues {T = T} start.setup manner records base (Err fault) at
  continues_part T fault = continued_in_part.0

  module _ (Refuses : Succession → NumberedState → Unfollowed → Type 0) (point : Point) (came : Option CameState) (lines : Lines) (Decided : Succession → NumberedState → Type 0) (Counted : List Record → Type 0) (given answered : Option (List Answer)) (answers : List Answer) (are : answered ≡ with_answers given answers) (has : Counted made) where
    turned_all : (is_followed : Bool) (to : Option (List ℕ)) → IsGoneOn manner Refuses start Printed_on point came lines Decided is_followed made answers → (it : (out : IsContinued start.setup manner records base to) × (out.more ≡ made))
        → IsServedOn start manner Refuses point came lines Decided Counted is_followed records base to given answered
    turned_all is_followed to these it = record {
      out = it.0;
      answers = answers;
      are_answers = are;
      turned = subst (λ (rs : List Record). IsGoneOn manner Refuses start Out_on point came lines Decided is_followed rs answers) (sym it.1)
          (gone_on_placed manner Refuses point came Printed_on Out_on (λ rs behind is. is.1) start lines Decided is_followed made answers these);
      counted = subst Counted (sym it.1) has;
    }

    -- it stopped before the last line
    turned_part : (to : Option (List ℕ)) → IsGoneOnInPart manner Refuses start Printed_on point came made answers → (it : (out : IsContinuedInPart start.setup manner records base to) × (rest : List Record) × (made ≡ out.more ++ rest) × (out.last ≡ None))
        → IsServedOnInPart start manner Refuses point came lines Decided Counted records base to given answered
    turned_part to these it = record {
      out = it.0;
      rest = it.1;
      answers = answers;
      are_answers = are;
      turned = subst (λ (rs : List Record). IsGoneOnInPart manner Refuses start Out_on point came rs answers) it.2
          (gone_on_in_part_placed manner Refuses point came Printed_on Out_on (λ rs behind is. is.1) start made answers these);
      closed = subst (λ (o : Option Totals). IfSome o (λ totals. (it.1 ≡ []) × ((is_followed : Bool) × IsGoneOn manner Refuses start Out_on point came lines Decided is_followed it.0.more answers))) (sym it.3) tt;
      counted = subst Counted it.2 has;
    }

    -- or at it
    turned_shut : (is_followed : Bool) (to : Option (List ℕ)) → IsGoneOn manner Refuses start Printed_on point came lines Decided is_followed made answers → (it : (out : IsContinuedInPart start.setup manner records base to) × (made ≡ out.more))
        → IsServedOnInPart start manner Refuses point came lines Decided Counted records base to given answered
    turned_shut is_followed to these it =
        let gone = subst (λ (rs : List Record). IsGoneOn manner Refuses start Out_on point came lines Decided is_followed rs answers) it.1
        (gone_on_placed manner Refuses point came Printed_on Out_on (λ rs behind is. is.1) start lines Decided is_followed made answers these) in
        record {
          out = it.0;
          rest = [];
          answers = answers;
          are_answers = are;
          turned = subst (λ (rs : List Record). IsGoneOnInPart manner Refuses start Out_on point came rs answers) (sym (append-nil it.0.more))
              (gone_on_wholly manner Refuses point came Out_on Out_on (λ rs behind is. is) start lines Decided is_followed it.0.more answers gone);
          closed = if_any it.0.last (refl, (is_followed, gone));
          counted = subst Counted (it.1 ∙ sym (append-nil it.0.more)) has;
        }

    pub continues_turns_closed : {E : Type 0} (r : Result Bool E) (is_followed : Bool) (to : Option (List ℕ)) → IfOk r (λ it. it ≡ is_followed) → count ≡ length records → engine.printed.lines.waiting ≡ [] → engine.printed.has_failed ≡ false → Closes manner engine at r to
        → IsGoneOn manner Refuses start Printed_on point came lines Decided is_followed made answers → ContinuesTurns start manner Refuses point came lines Decided Counted records base given r to answered
    continues_turns_closed (Ok it) is_followed to same counted all whole closes these =
        subst (λ (b : Bool). IsServedOn start manner Refuses point came lines Decided Counted b records base to given answered) (sym same) (elim closes [
          | inl alive ↦
              subst (λ (o : Option (List ℕ)). IsServedOn start manner Refuses point came lines Decided Counted is_followed records base o given answered) (sym alive.2) (turned_all is_followed at these (left_open alive.0 all whole alive.1))
          | inr ended ↦ turned_all is_followed to these (shut to counted whole ended.0 ended.1)
        ])
    continues_turns_closed (Err fault) is_followed to same counted all whole closes these =
        turned_shut is_followed to these (stopped_at_last to counted whole closes.1 closes.0)

    pub continues_turns_part : {E : Type 0} (fault : E) → IsGoneOnInPart manner Refuses start Printed_on point came made answers → ContinuesTurns start manner Refuses point came lines Decided Counted records base given (err_of Bool fault) at answered
    continues_turns_part fault these = turned_part at these continued_in_part

-- where no write failed none is counted
pub none_failed : (more : List Record) (old new : PrintedState) (at to : Option (List ℕ)) (failed fails : ℕ) → new.printed.has_failed ≡ false → GrowsBy more old at failed new to fails → fails ≡ failed
none_failed more old new at to failed fails whole grows = elim grows.printed.prints [
  | went a b goes none ↦ none
  | stopped a b shown rest faulty stops fault ↦ clash new.printed.has_failed whole b
  | stayed a b same still ↦ clash new.printed.has_failed whole b
]

-- ---- nothing went on

none_more : (base : Option (List ℕ)) → Appends base base []
none_more None = tt
none_more (Some bytes) = sym (append-nil bytes)

pub continues_none : (engine : NumberedState) (manner : Manner) (records : List Record) (base : Option (List ℕ)) → IsBehind records engine → IsContinuedInPart engine.setup manner records base base
unfolding records_text
continues_none engine manner records base behind = record {
  more = [];
  last = None;
  sums = tt;
  history = subst (IsHistory engine.setup) (sym (append-nil records)) (behind.world, behind.leads);
  bytes = [];
  is = refl;
  front = record { handed = []; rest = []; whole = refl; told = none_more base };
}

-- nothing was turned either
pub unturned : (engine : NumberedState) (manner : Manner) (Refuses : Succession → NumberedState → Unfollowed → Type 0) (point : Point) (came : Option CameState) (lines : Lines) (Decided : Succession → NumberedState → Type 0) (Counted : List Record → Type 0) (records : List Record) (base : Option (List ℕ)) (given : Option (List Answer)) → Counted [] → IsAt point came lines → IsBehind records engine → IsServedOnInPart engine manner Refuses point came lines Decided Counted records base base given given
unfolding continues_none
unturned engine manner Refuses point came lines Decided Counted records base given none at behind = record {
  out = continues_none engine manner records base behind;
  rest = [];
  answers = [];
  are_answers = none_given given;
  turned = none_gone_on manner Refuses engine (IsOutBehind (version_of engine.setup) [] base) point came lines at;
  closed = tt;
  counted = none;
}

-- ---- the answer that was owed

module _ (engine : NumberedState) (manner : Manner) (Refuses : Succession → NumberedState → Unfollowed → Type 0) (point : Point) (came : Option CameState) (lines : Lines) (Decided : Succession → NumberedState → Type 0) (Counted : List Record → Type 0) (records : List Record) (base before at : Option (List ℕ)) (given middle answered : Option (List Answer)) where
  pub behind_owed : {E : Type 0} (first : List Answer) (result : Result Bool E) → before ≡ base → middle ≡ with_answers given first → ContinuesTurns engine manner Refuses point came lines Decided Counted records before middle result at answered
      → ContinuesTurns engine manner Refuses point came lines Decided Counted records base (with_answers given first) result at answered
  behind_owed first result same are it =
      subst (λ (g : Option (List Answer)). ContinuesTurns engine manner Refuses point came lines Decided Counted records base g result at answered) are
      (subst (λ (b : Option (List ℕ)). ContinuesTurns engine manner Refuses point came lines Decided Counted records b middle result at answered) same it)

owed_so : {T U F : Type 0} (E : Type 0) (manner : Manner) (line : ℕ) (done : T) (result : Result U F) (base : Option (List ℕ)) (first : List Answer) (told : Bool) → manner.is_told ≡ told → IsOwed {E = E} manner (Some line) (Ok done) base first → IsOwed manner (Some line) result base first
owed_so E manner line done (Ok value) base first told is it = it
owed_so E manner line done (Err fault) base first true is it = inr (subst (λ (b : Bool). MatchBool b ((behind : ℕ) × IsLong base behind × (first ≡ is_carried_out line behind)) (first ≡ [])) is it)
owed_so E manner line done (Err fault) base first false is it = inl (subst (λ (b : Bool). MatchBool b ((behind : ℕ) × IsLong base behind × (first ≡ is_carried_out line behind)) (first ≡ [])) is it)

-- what was owed is so, whatever is told at last
pub is_owed : {T U F : Type 0} (E : Type 0) (manner : Manner) (owed : Option ℕ) (done : T) (result : Result U F) (base : Option (List ℕ)) (first : List Answer) → IsOwed {E = E} manner owed (Ok done) base first → IsOwed manner owed result base first
is_owed E manner None done result base first it = it
is_owed E manner (Some line) done result base first it = owed_so E manner line done result base first manner.is_told refl it

pub none_owed : {E : Type 0} (T : Type 0) (manner : Manner) (owed : Option ℕ) (fault : E) (base : Option (List ℕ)) → IsOwed {T = T} manner owed (Err fault) base []
none_owed T manner None fault base = refl
none_owed T manner (Some line) fault base = inl refl

-- ---- at the end

-- of what is counted nothing is said
pub closes_same : {T E : Type 0} (manner : Manner) (first second : PrintedState) (at : Option (List ℕ)) (r : Result T E) (to : Option (List ℕ)) → second.engine ≡ first.engine → second.printed ≡ first.printed → Closes manner second at r to → Closes manner first at r to
closes_same {T = T} {E = E} manner first second at (Ok done) to same printed it =
    subst (λ (p : Printed). Closes {T = T} {E = E} manner (record { engine = first.engine; printed = p; metrics = second.metrics }) at (Ok done) to) printed
    (subst (λ (e : NumberedState). Closes {T = T} {E = E} manner (record { engine = e; printed = second.printed; metrics = second.metrics }) at (Ok done) to) same it)
closes_same {T = T} {E = E} manner first second at (Err fault) to same printed it =
    subst (λ (p : Printed). Closes {T = T} {E = E} manner (record { engine = first.engine; printed = p; metrics = second.metrics }) at (Err fault) to) printed
    (subst (λ (e : NumberedState). Closes {T = T} {E = E} manner (record { engine = e; printed = second.printed; metrics = second.metrics }) at (Err fault) to) same it)

-- ---- what is said of what was counted

module _ (start : NumberedState) (manner : Manner) (Refuses : Succession → NumberedState → Unfollowed → Type 0) (point : Point) (came : Option CameState) (lines : Lines) (Decided : Succession → NumberedState → Type 0) (Counted Other : List Record → Type 0) (as_said : (more : List Record) → Counted more → Other more) (records : List Record) (base at : Option (List ℕ)) (given answered : Option (List Answer)) where
  pub counted_as : {E : Type 0} (result : Result Bool E) → ContinuesTurns start manner Refuses point came lines Decided Counted records base given result at answered → ContinuesTurns start manner Refuses point came lines Decided Other records base given result at answered
  counted_as (Ok is_followed) it = record { out = it.out; answers = it.answers; are_answers = it.are_answers; turned = it.turned; counted = as_said it.out.more it.counted }
  counted_as (Err fault) it = record { out = it.out; rest = it.rest; answers = it.answers; are_answers = it.are_answers; turned = it.turned; closed = it.closed; counted = as_said (it.out.more ++ it.rest) it.counted }
