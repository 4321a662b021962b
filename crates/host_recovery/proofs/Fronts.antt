-- A front of a segment that has its carried lines is recovered, and what is said of it is no fault.
use Rattle.std.proofs.Common.{◌≡◌, ◌≤◌, ℕ, suc, Option, Some, None, Result, Ok, Err, List, [], ◌∷◌, ◌++◌, length, length-append, take, drop, refl, ap, sym, subst, ◌∙◌, append_assoc, inl, inr, ◌⊎◌, arith}
use Rattle.std.specs.List.{list_all}
use Rattle.std.specs.Fmt.{option_append, with_newline}
use Rattle.std.proofs.lemmas.List.Folds.{list_all-append}
use Rattle.std.proofs.lemmas.List.{take_all, take-append-drop}
use Rattle.base.specs.declared.or_memory.OrMemory.{OrMemory}
use Rattle.base.specs.declared.or_memory.OrMemory.TheVariants.{OutOfMemory, Fault}
use Rattle.world_calls.specs.declared.carried_line.CarriedLine.{CarriedLine}
use Rattle.world_calls.specs.declared.record.Record.{Record}
use Rattle.world_calls.specs.declared.totals.Totals.{Totals}
use Rattle.world_calls.specs.declared.trace.Version.{Version}
use Rattle.world.specs.World.{Setup, World, version_of}
use Rattle.world.specs.TotalsOf.{TotalsOf}
use Rattle.engine_core.specs.ByNumber.{IsBehind, IsHistory}
use Rattle.engine_core.specs.Settings.{setup_over}
use Rattle.engine_succession.proofs.Refused.{none_is_refused}
use Rattle.trace_lines.proofs.Tests.{both, parts_of, same_text}
use Rattle.trace.specs.Reading.{front_text}
use Rattle.trace.specs.ShortLines.{IsShort, is_shown}
use Rattle.trace.specs.TraceText.{entry_text, lines_text, record_text, records_text, sums_text, totals_text}
use Rattle.trace.specs.declared.fault.TraceFault.TheVariants.{Header as NoHeader, Line}
use Rattle.trace.proofs.Cuts.{IsOneLine}
use Rattle.trace.proofs.Printing.{append_three, append_nothing, no_records, nothing_append}
use Rattle.trace.proofs.Shown.{lines_are_short}
use Rattle.trace.proofs.SoFar.{cut_line}
use Rattle.replay.specs.declared.fault.ReplayFault.{ReplayFault}
use Rattle.replay.specs.declared.fault.ReplayFault.TheVariants.{Header, Carried, Behind}
use Rattle.replay.proofs.OneVerdict.{shorter}
use Rattle.whole_trace.specs.WholeText.{AreOrdered}
use Rattle.host_recovery.specs.AnyFront.{IsBehindWhole, IsTakenUp, RecoversFromAnyFront}
use Rattle.host_recovery.specs.Recovering.{IsCarriedFault, IsRecovered, IsUnfollowed, Recovers, StopsBehind, at_record, at_end}
use Rattle.host_recovery.specs.Segments.{IsSegment, MayBeLeft, head_text}
use Rattle.host_recovery.specs.SetupFor.{IsSetupFor, carried_count}
use Rattle.host_recovery.specs.declared.fault.RecoveryFault.{RecoveryFault}
use Rattle.host_recovery.specs.declared.fault.RecoveryFault.TheVariants.{Unread, TooLong, Form, Unfollowed}
use Rattle.host_recovery.specs.declared.recovering.Recovered.{Recovered}
use Rattle.host_recovery.proofs.Cutting.{front_nothing, shown_line}
use Rattle.host_recovery.proofs.WorldLines.{ordered_for}
use Rattle.host_recovery.proofs.OneWay.{IsThat, IsWay, has_header, not_broken, that_segment, way_left}

-- ---- one setup

pub one_setup : (config : Setup) (carried : Option (List CarriedLine)) (setup other : Setup) → IsSetupFor config carried setup → IsSetupFor config carried other → setup ≡ other
one_setup config None setup other a b = a ∙ sym b
one_setup config (Some lines) setup other a b =
    a.2 ∙ ap (λ (w : World). setup_over config (Some w)) (b.1.only a.0 a.1.is a.1.lines_are) ∙ sym b.2

pub same_version : (config : Setup) (carried : Option (List CarriedLine)) (setup : Setup) → IsSetupFor config carried setup → version_of setup ≡ version_of config
same_version config None setup a = ap version_of a
same_version config (Some lines) setup a = ap version_of a.2

-- an engine of that setup begins with the carried lines, so none of them is at fault
pub no_carried_fault : (config : Setup) (carried : Option (List CarriedLine)) (setup : Setup) (place : ℕ) → IsSetupFor config carried setup → IsCarriedFault config carried place → ⊥
no_carried_fault config None setup place a fault = fault
no_carried_fault config (Some lines) setup place a fault = none_is_refused config lines place fault a.0 a.1.is a.1.lines_are

-- ---- where a front ends

-- before a line's feed, or after it
cut_here : (line tail front rest : List ℕ) → front ++ rest ≡ line ++ 10 ∷ tail → ((more : List ℕ) × (line ≡ front ++ more)) ⊎ ((more : List ℕ) × (front ≡ line ++ 10 ∷ more) × (tail ≡ more ++ rest))
cut_here line tail [] rest e = inl (line, refl)
cut_here [] tail (x ∷ front) rest e =
    let head : x ≡ 10 = cc in
    let tails : front ++ rest ≡ tail = cc in
    inr (front, ap (λ (b : ℕ). b ∷ front) head, sym tails)
cut_here (y ∷ line) tail (x ∷ front) rest e =
    let head : x ≡ y = cc in
    let tails : front ++ rest ≡ line ++ 10 ∷ tail = cc in
    elim (cut_here line tail front rest tails) [
      | inl it ↦ inl (it.0, ap (λ (b : ℕ). b ∷ line) (sym head) ∙ ap (λ (t : List ℕ). x ∷ t) it.1)
      | inr it ↦ inr (it.0, ap (λ (b : ℕ). b ∷ front) head ∙ ap (λ (t : List ℕ). y ∷ t) it.1, it.2)
    ]

-- a text's front, which has another front
longer_front : (header front line rest : List ℕ) → header ++ line ≡ front ++ rest → length header ≤ length front → (more : List ℕ) × (front ≡ header ++ more) × (line ≡ more ++ rest)
longer_front [] front line rest e less = (front, refl, e)
longer_front (x ∷ header) [] line rest e less = absurd (omega (arith, less))
longer_front (x ∷ header) (y ∷ front) line rest e less =
    let head : x ≡ y = cc in
    let tails : header ++ line ≡ front ++ rest = cc in
    let it = longer_front header front line rest tails (omega (arith, less)) in
    (it.0, ap (λ (b : ℕ). b ∷ front) (sym head) ∙ ap (λ (t : List ℕ). x ∷ t) it.1, it.2)

short_front : (front more : List ℕ) → IsShort (front ++ more) → IsShort front
short_front front more short = record {
  few = omega (arith, short.few, length-append front more);
  shown = (both (list_all is_shown front) (list_all is_shown more) (sym (list_all-append is_shown front more) ∙ short.shown)).0;
}

short_of : (told : Option (List ℕ)) (line front more : List ℕ) → ((l : List ℕ) → told ≡ Some l → IsShort l) → told ≡ Some line → line ≡ front ++ more → IsShort front
short_of told line front more short e is = short_front front more (subst IsShort is (short line e))

-- Of the lines of these records, and the last, the front has so many whole, and maybe the last.
record IsCut (version : Version) (records : List Record) (totals : Totals) (front : List ℕ) : Type 0 where
  count : ℕ
  within : count ≤ length records
  sums : Option Totals
  torn : List ℕ
  is : option_append (front_text version (take count records) sums) (Some torn) ≡ Some front
  left : MayBeLeft sums torn
  place : (sums ≡ None) ⊎ ((sums ≡ Some totals) × (count ≡ length records))

nothing_more : (a b : List ℕ) → [] ≡ a ++ b → a ≡ []
nothing_more a b e = front_nothing a b (sym e)

no_whole_line : (version : Version) (records : List Record) (totals : Totals) (front : List ℕ) → IsShort front → IsCut version records totals front
no_whole_line version records totals front short = record {
  count = 0;
  within = omega arith;
  sums = None;
  torn = front;
  is = ap (λ (o : Option (List ℕ)). option_append o (Some front)) (no_records version);
  left = short;
  place = inl refl;
}

line_in_front : (told more : Option (List ℕ)) (line rest : List ℕ) → told ≡ Some line → more ≡ Some rest → option_append (with_newline told) more ≡ Some (line ++ 10 ∷ rest)
line_in_front told more line rest e f = rw (e, f) (ap Some (append_assoc line (10 ∷ []) rest))

-- one line more in front
one_more_front : (version : Version) (entry : Record) (records : List Record) (sums : Option Totals) (torn line rest : List ℕ) → entry_text version entry ≡ Some line → option_append (front_text version records sums) (Some torn) ≡ Some rest
    → option_append (front_text version (entry ∷ records) sums) (Some torn) ≡ Some (line ++ 10 ∷ rest)
unfolding records_text
one_more_front version entry records None torn line rest is e =
    append_three (record_text version entry) (records_text version records) (Some torn) ∙ line_in_front (entry_text version entry) (option_append (records_text version records) (Some torn)) line rest is e
one_more_front version entry records (Some totals) torn line rest is e =
    ap (λ (o : Option (List ℕ)). option_append o (Some torn)) (append_three (record_text version entry) (records_text version records) (totals_text totals))
    ∙ append_three (record_text version entry) (lines_text version records totals) (Some torn)
    ∙ line_in_front (entry_text version entry) (option_append (lines_text version records totals) (Some torn)) line rest is e

cut_lines : (version : Version) (records : List Record) (totals : Totals) (text front rest : List ℕ) → lines_text version records totals ≡ Some text → text ≡ front ++ rest → IsCut version records totals front
unfolding records_text
cut_lines version [] totals text front rest e whole =
    let parts = cut_line (sums_text totals) (Some []) text (append_nothing (totals_text totals) ∙ (sym (nothing_append (totals_text totals)) ∙ e)) in
    elim (cut_here parts.0 parts.1 front rest (sym whole ∙ parts.4)) [
      | inl it ↦ no_whole_line version [] totals front (short_of (sums_text totals) parts.0 front it.0 (lines_are_short.1 totals) parts.2 it.1)
      | inr it ↦
          let left : parts.1 ≡ [] = sym (same_text [] parts.1 parts.3) in
          let none : it.0 ≡ [] = nothing_more it.0 rest (sym left ∙ it.2) in
          record {
            count = 0;
            within = omega arith;
            sums = Some totals;
            torn = [];
            is = append_nothing (lines_text version [] totals) ∙ (nothing_append (totals_text totals) ∙ (ap with_newline parts.2 ∙ ap Some (ap (λ (t : List ℕ). parts.0 ++ 10 ∷ t) (sym none) ∙ sym it.1)));
            left = refl;
            place = inr (refl, refl);
          }
    ]
cut_lines version (entry ∷ records) totals text front rest e whole =
    let there : option_append (record_text version entry) (lines_text version records totals) ≡ Some text = sym (append_three (record_text version entry) (records_text version records) (totals_text totals)) ∙ e in
    let parts = cut_line (entry_text version entry) (lines_text version records totals) text there in
    elim (cut_here parts.0 parts.1 front rest (sym whole ∙ parts.4)) [
      | inl it ↦ no_whole_line version (entry ∷ records) totals front (short_of (entry_text version entry) parts.0 front it.0 (lines_are_short.0 version entry) parts.2 it.1)
      | inr it ↦
          let fewer = cut_lines version records totals parts.1 it.0 rest parts.3 it.2 in
          record {
            count = suc fewer.count;
            within = omega (arith, fewer.within);
            sums = fewer.sums;
            torn = fewer.torn;
            is = one_more_front version entry (take fewer.count records) fewer.sums fewer.torn parts.0 it.0 parts.2 fewer.is ∙ ap Some (sym it.1);
            left = fewer.left;
            place = elim fewer.place [
              | inl none ↦ inl none
              | inr all ↦ inr (all.0, omega (arith, all.1))
            ];
          }
    ]

-- ---- the records whose lines are whole

history_front : (setup : Setup) (records : List Record) (count : ℕ) → IsHistory setup records → IsHistory setup (take count records)
history_front setup records count history = shorter setup (take count records) (drop count records) (subst (IsHistory setup) (sym (take-append-drop count records)) history)

module _ (config setup : Setup) (carried : Option (List CarriedLine)) (records : List Record) (totals : Totals) (head front lines more rest : List ℕ) (fits : IsSetupFor config carried setup) (ordered : AreOrdered carried) (sums : TotalsOf setup records totals)
    (head_is : head_text (version_of setup) carried ≡ Some head) (is : lines_text (version_of setup) records totals ≡ Some lines) (front_is : front ≡ head ++ more) (whole : lines ≡ more ++ rest) where
  abbrev version : Version
  version = version_of setup

  cut : IsCut version records totals more
  cut = cut_lines version records totals lines more rest is whole

  way : IsWay version carried (take cut.count records) cut.sums cut.torn front
  way = way_left version carried (take cut.count records) cut.sums cut.torn more front (ap (λ (t : Option (List ℕ)). option_append t (Some more)) head_is ∙ ap Some (sym front_is)) cut.is cut.left

  abbrev Same : Version → Option (List CarriedLine) → List Record → Option Totals → Type 0
  Same its others more_records other = IsThat version carried (take cut.count records) cut.sums cut.torn front way its others more_records other

  same_as : (its : Version) (others : Option (List CarriedLine)) (more_records : List Record) (other : Option Totals) (torn : List ℕ) → IsSegment its others front more_records other torn → Same its others more_records other
  same_as its others more_records other torn segment = that_segment version carried (take cut.count records) cut.sums cut.torn front way its others more_records other torn segment

  -- ---- no fault

  history : IsHistory setup records
  history = (sums.0, sums.1)

  stops_nowhere : (others : List Record) (other : Option Totals) (count : ℕ) → take cut.count records ≡ others → cut.sums ≡ other → StopsBehind setup others other count → ⊥
  stops_nowhere others other count same same_sums stops = elim stops [
    | at_record before entry after is place lead none ↦
        none (shorter setup (before ++ entry ∷ []) after (subst (IsHistory setup) (same ∙ (is ∙ sym (append_assoc before (entry ∷ []) after))) (history_front setup records cut.count history)))
    | at_end last are place lead none ↦ elim cut.place [
      | inl without ↦ absurd (let bad : None ≡ Some last = sym without ∙ (same_sums ∙ are) in cc)
      | inr all ↦
          let one : Some totals ≡ Some last = sym all.0 ∙ (same_sums ∙ are) in
          let last_is : totals ≡ last = cc in
          let others_are : records ≡ others = sym (take_all cut.count records (omega (arith, all.1))) ∙ same in
          none (subst (TotalsOf setup others) last_is (subst (λ (rs : List Record). TotalsOf setup rs totals) others_are sums))
    ]
  ]

  not_unfollowed : (its : Version) (others : Option (List CarriedLine)) (more_records : List Record) (other : Option Totals) (fault : ReplayFault) → Same its others more_records other → IsUnfollowed config its others more_records other fault → ⊥
  not_unfollowed its others more_records other Header same differs = differs (sym same.version_is ∙ same_version config carried setup fits)
  not_unfollowed its others more_records other (Carried place) same fault =
      no_carried_fault config carried setup place fits (subst (λ (c : Option (List CarriedLine)). IsCarriedFault config c place) (sym same.carried_is) fault.1)
  not_unfollowed its others more_records other (Behind carried_lines count) same stops =
      let after = stops.1 in
      let setup_is : setup ≡ after.setup = one_setup config carried setup after.setup fits (subst (λ (c : Option (List CarriedLine)). IsSetupFor config c after.setup) (sym same.carried_is) after.is_setup) in
      stops_nowhere more_records other count same.records_are same.sums_are (subst (λ (s : Setup). StopsBehind s more_records other count) (sym setup_is) after.stops)

  -- ---- the engine

  -- what stands after the records' lines
  behind_records : (other : Option Totals) (torn : List ℕ) → MayBeLeft other torn → option_append (front_text version (take cut.count records) other) (Some torn) ≡ Some more → (other ≡ None) ⊎ ((other ≡ Some totals) × (cut.count ≡ length records))
      → (last : List ℕ) × (option_append (records_text version (take cut.count records)) (Some last) ≡ Some more) × (IsOneLine last ⊎ ((cut.count ≡ length records) × (totals_text totals ≡ Some last)))
  behind_records None torn short e place = (torn, e, inl (shown_line torn short.shown))
  behind_records (Some other) torn none e place = elim place [
    | inl without ↦ absurd (let bad : Some other ≡ None = without in cc)
    | inr all ↦
        let one : other ≡ totals = (let both_are : Some other ≡ Some totals = all.0 in cc) in
        let there : option_append (records_text version (take cut.count records)) (totals_text other) ≡ Some more =
        sym (append_nothing (lines_text version (take cut.count records) other)) ∙ (ap (λ (t : List ℕ). option_append (lines_text version (take cut.count records) other) (Some t)) (sym none) ∙ e) in
        let parts = parts_of (records_text version (take cut.count records)) (totals_text other) more there in
        (parts.1, ap (option_append (records_text version (take cut.count records))) (sym parts.3) ∙ there, inr (all.1, ap totals_text (sym one) ∙ parts.3))
  ]

  behind_whole : (recovered : Recovered) → IsRecovered config front recovered → IsBehindWhole setup carried records totals front recovered
  behind_whole recovered it =
      let same = same_as (version_of config) it.carried it.records it.sums it.torn it.segment in
      let last = behind_records cut.sums cut.torn cut.left cut.is cut.place in
      record {
        setup_is = sym (one_setup config carried setup recovered.engine.setup fits (subst (λ (c : Option (List CarriedLine)). IsSetupFor config c recovered.engine.setup) (sym same.carried_is) it.setup_is));
        lines = it.lines ∙ ap carried_count (sym same.carried_is);
        count = cut.count;
        within = cut.within;
        behind = subst (λ (rs : List Record). IsBehind rs recovered.engine) (sym same.records_are) it.behind;
        rest = last.0;
        whole = ap (option_append (head_text version carried)) last.1 ∙ (ap (λ (t : Option (List ℕ)). option_append t (Some more)) head_is ∙ ap Some (sym front_is));
        left = last.2;
      }

  pub taken_up : (result : Result Recovered (OrMemory RecoveryFault)) → Recovers config front result → IsTakenUp setup carried records totals front result
  taken_up (Ok recovered) says = behind_whole recovered says
  taken_up (Err OutOfMemory) says = tt
  taken_up (Err (Fault Unread)) says = tt
  taken_up (Err (Fault TooLong)) says = tt
  taken_up (Err (Fault (Form NoHeader))) says = has_header version carried (take cut.count records) cut.sums cut.torn front way says
  taken_up (Err (Fault (Form (Line number)))) says = not_broken version carried (take cut.count records) cut.sums cut.torn front way cut.left ordered number says
  taken_up (Err (Fault (Unfollowed fault))) says = not_unfollowed says.0 says.1 says.2 says.3 fault (same_as says.0 says.1 says.2 says.3 says.4 says.5) says.6

pub recovers_from_any_front : RecoversFromAnyFront
recovers_from_any_front config setup carried records totals head text front rest result fits sums head_is e whole less says =
    let parts = parts_of (Some head) (lines_text (version_of setup) records totals) text e in
    let text_is : text ≡ head ++ parts.1 = parts.4 ∙ ap (λ (t : List ℕ). t ++ parts.1) (sym (same_text head parts.0 parts.2)) in
    let cut = longer_front head front parts.1 rest (sym text_is ∙ whole) less in
    taken_up config setup carried records totals head front parts.1 cut.0 rest fits (ordered_for config carried setup fits) sums head_is parts.3 cut.1 cut.2 result says
