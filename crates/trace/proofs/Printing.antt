-- A trace is printed record by record, and what is printed goes on to a sink.
use Rattle.std.proofs.Common.{◌≡◌, ℕ, ◌+◌, ◌-◌, ◌<◌, ◌≤◌, Option, Some, None, Result, Ok, Err, OnOk, List, [], ◌∷◌, ◌++◌, length, take, drop, get_or, refl, sym, ap, ◌∙◌, append_assoc, append-nil, subst, arith, add-one, length-append}
use Rattle.std.proofs.lemmas.List.{take-append-drop, length-take-le, length-drop, take_all}
use Rattle.std.specs.Fmt.{option_append}
use Rattle.std.specs.Io.KnownBytes.{Appends}
use Rattle.std.proofs.KnownBytes.{Appends-trans, Appends-nil}
use Rattle.std.proofs.Math.Seq.{take-suc, take-add, take-append_seam}
use Rattle.world_calls.specs.declared.record.Record.{Record}
use Rattle.trace_lines.specs.Written.{IsPut}
use Rattle.trace_lines.proofs.Tests.{same_text, parts_of}
use Rattle.world_calls.specs.declared.trace.Trace.{Trace}
use Rattle.world_calls.specs.declared.trace.Version.{Version}
use Rattle.trace.specs.declared.fault.PrintFault.{PrintFault}
use Rattle.trace.specs.declared.page.Page.{Page}
use Rattle.trace.specs.Pages.{Passed, IsCut, Flushes}
use Rattle.trace.specs.Printed.{IsPrinted, IsBegun, Prints}
use Rattle.trace.specs.Sinks.{HasFailed}
use Rattle.trace.specs.TraceText.{header, record_text, records_text, lines_text, totals_text, trace_text}

-- ---- what is taken of a text

pub taken_on : (text : List ℕ) (taken count : ℕ) → taken ≤ length text → count ≤ length (take (length text - taken) (drop taken text))
    → (taken + count ≤ length text) × (take (taken + count) text ≡ take taken text ++ take count (take (length text - taken) (drop taken text)))
taken_on text taken count within few =
    let all : take (length text - taken) (drop taken text) ≡ drop taken text = take_all (length text - taken) (drop taken text) (omega (arith, length-drop taken text)) in
    (omega (arith, few, ap length all, length-drop taken text), take-add taken count text ∙ ap (λ (t : List ℕ). take taken text ++ take count t) (sym all))

-- ---- texts one after the other

pub append_three : (a b c : Option (List ℕ)) → option_append (option_append a b) c ≡ option_append a (option_append b c)
append_three None b c = refl
append_three (Some a) None c = refl
append_three (Some a) (Some b) None = refl
append_three (Some a) (Some b) (Some c) = ap Some (append_assoc a b c)

pub append_nothing : (a : Option (List ℕ)) → option_append a (Some []) ≡ a
append_nothing None = refl
append_nothing (Some a) = ap Some (append-nil a)

pub nothing_append : (a : Option (List ℕ)) → option_append (Some []) a ≡ a
nothing_append None = refl
nothing_append (Some a) = refl

-- ---- the records

pub records_push : (version : Version) (entries : List Record) (entry : Record) → records_text version (entries ++ entry ∷ []) ≡ option_append (records_text version entries) (record_text version entry)
unfolding records_text
records_push version [] entry = append_nothing (record_text version entry) ∙ sym (nothing_append (record_text version entry))
records_push version (first ∷ entries) entry = ap (option_append (record_text version first)) (records_push version entries entry) ∙ sym (append_three (record_text version first) (records_text version entries) (record_text version entry))

pub records_both : (version : Version) (entries others : List Record) → records_text version (entries ++ others) ≡ option_append (records_text version entries) (records_text version others)
unfolding records_text
records_both version [] others = sym (nothing_append (records_text version others))
records_both version (first ∷ entries) others = ap (option_append (record_text version first)) (records_both version entries others) ∙ sym (append_three (record_text version first) (records_text version entries) (records_text version others))

pub no_records : (version : Version) → records_text version [] ≡ Some []
unfolding records_text
no_records version = refl

-- ---- pages

-- nothing is printed
pub passed_none : (page : Page) (old : Option (List ℕ)) (failed : ℕ) → Passed (Some []) page old failed page old failed
passed_none page old failed = record {
  more = [];
  is = refl;
  handed = [];
  whole = append-nil page.text;
  count = omega arith;
  told = Appends-nil old;
  none = refl;
}

-- no records are printed
pub nothing_passed : (version : Version) (page : Page) (old : Option (List ℕ)) (failed : ℕ) → Passed (records_text version []) page old failed page old failed
nothing_passed version page old failed = subst (λ (t : Option (List ℕ)). Passed t page old failed page old failed) (sym (no_records version)) (passed_none page old failed)

-- a text that is put on the page
pub passed_put : (text : Option (List ℕ)) (before page : Page) (old : Option (List ℕ)) (failed : ℕ) → IsPut text before.text page.text → page.written ≡ before.written → Passed text before old failed page old failed
passed_put None before page old failed put same = absurd cc
passed_put (Some more) before page old failed put same = record {
  more = more;
  is = refl;
  handed = [];
  whole = same_text (before.text ++ more) page.text put;
  count = omega (arith, same);
  told = Appends-nil old;
  none = refl;
}

-- all that is on the page is handed on
pub passed_handed : (before page : Page) (old new : Option (List ℕ)) (failed fails : ℕ) → page.text ≡ [] → page.written ≡ before.written + length before.text → Appends old new before.text → fails ≡ failed → Passed (Some []) before old failed page new fails
passed_handed before page old new failed fails empty count told none = record {
  more = [];
  is = refl;
  handed = before.text;
  whole = ap (λ (t : List ℕ). before.text ++ t) (sym empty);
  count = count;
  told = told;
  none = none;
}

pub passed_both : (a b : Option (List ℕ)) (before mid page : Page) (old between new : Option (List ℕ)) (failed same fails : ℕ)
    → Passed a before old failed mid between same → Passed b mid between same page new fails → Passed (option_append a b) before old failed page new fails
passed_both a b before mid page old between new failed same fails first second = record {
  more = first.more ++ second.more;
  is = rw (first.is, second.is) refl;
  handed = first.handed ++ second.handed;
  whole = sym (append_assoc before.text first.more second.more)
      ∙ ap (λ (t : List ℕ). t ++ second.more) first.whole
      ∙ append_assoc first.handed mid.text second.more
      ∙ ap (λ (t : List ℕ). first.handed ++ t) second.whole
      ∙ sym (append_assoc first.handed second.handed page.text);
  count = omega (arith, first.count, second.count, length-append first.handed second.handed);
  told = Appends-trans old between new first.handed second.handed first.told second.told;
  none = second.none ∙ first.none;
}

-- a text is printed, and then a write fails
pub cut_behind : (a b : Option (List ℕ)) (before mid : Page) (old between new : Option (List ℕ)) (failed same fails written : ℕ)
    → Passed a before old failed mid between same → IsCut b mid between same written new fails → IsCut (option_append a b) before old failed written new fails
cut_behind a b before mid old between new failed same fails written first second = record {
  fault = λ few. omega (arith, first.none, second.fault (omega (arith, first.none, few)));
  front = λ more is.
      let parts = parts_of a b more is in
      let one : first.more ≡ parts.0 = same_text first.more parts.0 (sym first.is ∙ parts.2) in
      let behind = second.front parts.1 parts.3 in
      record {
        handed = first.handed ++ behind.handed;
        rest = behind.rest;
        whole = ap (λ (t : List ℕ). before.text ++ t) (parts.4 ∙ ap (λ (t : List ℕ). t ++ parts.1) (sym one))
            ∙ sym (append_assoc before.text first.more parts.1)
            ∙ ap (λ (t : List ℕ). t ++ parts.1) first.whole
            ∙ append_assoc first.handed mid.text parts.1
            ∙ ap (λ (t : List ℕ). first.handed ++ t) behind.whole
            ∙ sym (append_assoc first.handed behind.handed behind.rest);
        count = omega (arith, first.count, behind.count, length-append first.handed behind.handed);
        told = Appends-trans old between new first.handed behind.handed first.told behind.told;
      };
}

-- a write fails, and more was to come
pub cut_before : (a b : Option (List ℕ)) (before : Page) (old new : Option (List ℕ)) (failed fails written : ℕ)
    → IsCut a before old failed written new fails → IsCut (option_append a b) before old failed written new fails
cut_before a b before old new failed fails written first = record {
  fault = first.fault;
  front = λ more is.
      let parts = parts_of a b more is in
      let begun = first.front parts.0 parts.2 in
      record {
        handed = begun.handed;
        rest = begun.rest ++ parts.1;
        whole = ap (λ (t : List ℕ). before.text ++ t) parts.4
            ∙ sym (append_assoc before.text parts.0 parts.1)
            ∙ ap (λ (t : List ℕ). t ++ parts.1) begun.whole
            ∙ append_assoc begun.handed begun.rest parts.1;
        count = begun.count;
        told = begun.told;
      };
}

-- so many bytes of the page were taken, and then a write failed
pub cut_there : (before : Page) (old new : Option (List ℕ)) (failed fails taken written : ℕ) → taken ≤ length before.text → written ≡ before.written + taken
    → Appends old new (take taken before.text) → HasFailed failed fails → IsCut (Some []) before old failed written new fails
cut_there before old new failed fails taken written within count told fault = record {
  fault = fault;
  front = λ more is. record {
    handed = take taken before.text;
    rest = drop taken before.text;
    whole = ap (λ (t : List ℕ). before.text ++ t) (sym (same_text [] more is)) ∙ append-nil before.text ∙ sym (take-append-drop taken before.text);
    count = omega (arith, count, length-take-le taken before.text within);
    told = told;
  };
}

-- ---- records by their places

-- one record more
pub one_more : (version : Version) (records : List Record) (place : ℕ) (entry : Record) → place < length records → entry ≡ get_or records place entry
    → records_text version (take (place + 1) records) ≡ option_append (records_text version (take place records)) (record_text version entry)
one_more version records place entry within is =
    let more : take (place + 1) records ≡ take place records ++ entry ∷ [] =
    rw add-one (take-suc records place entry within ∙ ap (λ (o : Record). take place records ++ o ∷ []) (sym is)) in
    ap (records_text version) more ∙ records_push version (take place records) entry

-- the first records, and all of them
pub first_of_all : (version : Version) (records : List Record) (place : ℕ) → records_text version records ≡ option_append (records_text version (take place records)) (records_text version (drop place records))
first_of_all version records place = ap (records_text version) (sym (take-append-drop place records)) ∙ records_both version (take place records) (drop place records)

-- one record more is put
pub record_passed : (version : Version) (records : List Record) (place : ℕ) (entry : Record) (before first mid page : Page) (old one two : Option (List ℕ)) (failed same also : ℕ)
    → place < length records → entry ≡ get_or records place entry
    → Passed (records_text version (take place records)) before old failed first one same → Passed (Some []) first one same mid two also
    → IsPut (record_text version entry) mid.text page.text → page.written ≡ mid.written
    → Passed (records_text version (take (place + 1) records)) before old failed page two also
record_passed version records place entry before first mid page old one two failed same also within is so_far flushed put still =
    let text = records_text version (take place records) in
    let to_here = passed_both text (Some []) before first mid old one two failed same also so_far flushed in
    let whole = passed_both (option_append text (Some [])) (record_text version entry) before mid page old two two failed also also to_here (passed_put (record_text version entry) mid page two also put still) in
    subst (λ (t : Option (List ℕ)). Passed t before old failed page two also)
    (ap (λ (t : Option (List ℕ)). option_append t (record_text version entry)) (append_nothing text) ∙ sym (one_more version records place entry within is)) whole

-- a write failed before the record at this place was put
pub records_cut : (version : Version) (records : List Record) (place : ℕ) (fault : PrintFault) (before mid : Page) (old between new : Option (List ℕ)) (failed same fails : ℕ)
    → Passed (records_text version (take place records)) before old failed mid between same
    → IsCut (Some []) mid between same fault.written new fails
    → IsCut (records_text version records) before old failed fault.written new fails
records_cut version records place fault before mid old between new failed same fails so_far cut =
    let text = records_text version (take place records) in
    let here = cut_behind text (Some []) before mid old between new failed same fails fault.written so_far cut in
    let all = cut_before (option_append text (Some [])) (records_text version (drop place records)) before old new failed fails fault.written here in
    subst (λ (t : Option (List ℕ)). IsCut t before old failed fault.written new fails)
    (ap (λ (t : Option (List ℕ)). option_append t (records_text version (drop place records))) (append_nothing text) ∙ sym (first_of_all version records place)) all

-- ---- the whole trace, after its first line

-- a write failed
pub begun : (version : Version) (text : Option (List ℕ)) (page : Page) (old new : Option (List ℕ)) (failed fails written : ℕ) → page.text ≡ header version → page.written ≡ 0
    → IsCut text page old failed written new fails → IsBegun (option_append (Some (header version)) text) old failed written new fails
begun version text page old new failed fails written first none cut = record {
  fault = cut.fault;
  front = λ bytes is.
      let parts = parts_of (Some (header version)) text bytes is in
      let there = cut.front parts.1 parts.3 in
      let whole : bytes ≡ there.handed ++ there.rest =
      parts.4 ∙ ap (λ (t : List ℕ). t ++ parts.1) (sym (same_text (header version) parts.0 parts.2) ∙ sym first) ∙ there.whole in
      let count : written ≡ length there.handed = omega (arith, there.count, none) in
      let out : take written bytes ≡ there.handed = ap (λ (n : ℕ). take n bytes) count ∙ ap (take (length there.handed)) whole ∙ take-append_seam there.handed there.rest in
      (omega (arith, count, ap length whole, length-append there.handed there.rest), subst (Appends old new) (sym out) there.told);
}

-- all went out
pub all_out : (version : Version) (text : Option (List ℕ)) (before page : Page) (old new : Option (List ℕ)) (failed fails : ℕ) → before.text ≡ header version → page.text ≡ []
    → Passed text before old failed page new fails → IsPrinted (option_append (Some (header version)) text) old failed new fails
all_out version text before page old new failed fails first empty passed = record {
  bytes = header version ++ passed.more;
  is = rw passed.is refl;
  told = subst (Appends old new)
      (sym (append-nil passed.handed) ∙ ap (λ (t : List ℕ). passed.handed ++ t) (sym empty) ∙ sym passed.whole ∙ ap (λ (t : List ℕ). t ++ passed.more) first)
      passed.told;
  none = passed.none;
}

-- the records were not all printed
pub records_stopped : (trace : Trace) (fault : PrintFault) (before : Page) (old new : Option (List ℕ)) (failed fails : ℕ) → before.text ≡ header trace.version → before.written ≡ 0
    → IsCut (records_text trace.version trace.records.items) before old failed fault.written new fails → IsBegun (trace_text trace) old failed fault.written new fails
records_stopped trace fault before old new failed fails first none cut =
    begun trace.version (lines_text trace.version trace.records.items trace.totals) before old new failed fails fault.written first none
    (cut_before (records_text trace.version trace.records.items) (totals_text trace.totals) before old new failed fails fault.written cut)

-- they were, and there was no room for the last line, nor could it be made
pub room_stopped : (trace : Trace) (fault : PrintFault) (before mid : Page) (old between new : Option (List ℕ)) (failed same fails : ℕ) → before.text ≡ header trace.version → before.written ≡ 0
    → Passed (records_text trace.version trace.records.items) before old failed mid between same
    → IsCut (Some []) mid between same fault.written new fails → IsBegun (trace_text trace) old failed fault.written new fails
room_stopped trace fault before mid old between new failed same fails first none passed cut =
    let text = records_text trace.version trace.records.items in
    let here = cut_behind text (Some []) before mid old between new failed same fails fault.written passed cut in
    begun trace.version (lines_text trace.version trace.records.items trace.totals) before old new failed fails fault.written first none
    (cut_before text (totals_text trace.totals) before old new failed fails fault.written
    (subst (λ (t : Option (List ℕ)). IsCut t before old failed fault.written new fails) (append_nothing text) here))

-- all lines were printed, and what was left of them went out, or a write failed
pub ended : (trace : Trace) (r : Result (Unit {0}) PrintFault) (before mid page : Page) (old between new : Option (List ℕ)) (failed same fails : ℕ) → before.text ≡ header trace.version → before.written ≡ 0
    → Passed (lines_text trace.version trace.records.items trace.totals) before old failed mid between same
    → Flushes mid between same r page new fails → OnOk r (page.text ≡ []) → Prints trace old failed r new fails
ended trace (Ok done) before mid page old between new failed same fails first none passed flushed empty =
    let text = lines_text trace.version trace.records.items trace.totals in
    all_out trace.version text before page old new failed fails first empty
    (subst (λ (t : Option (List ℕ)). Passed t before old failed page new fails) (append_nothing text)
    (passed_both text (Some []) before mid page old between new failed same fails passed flushed))
ended trace (Err fault) before mid page old between new failed same fails first none passed cut empty =
    let text = lines_text trace.version trace.records.items trace.totals in
    begun trace.version text before old new failed fails fault.written first none
    (subst (λ (t : Option (List ℕ)). IsCut t before old failed fault.written new fails) (append_nothing text)
    (cut_behind text (Some []) before mid old between new failed same fails fault.written passed cut))

-- the last line is put after the records'
pub last_put : (trace : Trace) (before first mid page : Page) (old one two : Option (List ℕ)) (failed same also : ℕ)
    → Passed (records_text trace.version trace.records.items) before old failed first one same → Passed (Some []) first one same mid two also
    → IsPut (totals_text trace.totals) mid.text page.text → page.written ≡ mid.written
    → Passed (lines_text trace.version trace.records.items trace.totals) before old failed page two also
last_put trace before first mid page old one two failed same also so_far flushed put still =
    let text = records_text trace.version trace.records.items in
    let to_here = passed_both text (Some []) before first mid old one two failed same also so_far flushed in
    let whole = passed_both (option_append text (Some [])) (totals_text trace.totals) before mid page old two two failed also also to_here (passed_put (totals_text trace.totals) mid page two also put still) in
    subst (λ (t : Option (List ℕ)). Passed t before old failed page two also)
    (ap (λ (t : Option (List ℕ)). option_append t (totals_text trace.totals)) (append_nothing text)) whole
