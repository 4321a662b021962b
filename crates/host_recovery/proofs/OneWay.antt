-- A text is cut in one way into its first line, its carried lines, the lines of its records, the last line, and what is left.
use Rattle.std.proofs.Common.{◌≡◌, ◌==◌, ℕ, true, false, is_some, Option, Some, None, List, [], ◌∷◌, ◌++◌, get_or, inl, inr, refl, ap, sym, subst, ◌∙◌, append-nil}
use Rattle.std.specs.Prelude.{IfSome}
use Rattle.std.specs.List.{AllByRecursion}
use Rattle.std.specs.Fmt.{option_append}
use Rattle.world_calls.specs.declared.carried_line.CarriedLine.{CarriedLine}
use Rattle.world_calls.specs.declared.record.Record.{Record}
use Rattle.world_calls.specs.declared.totals.Totals.{Totals}
use Rattle.world_calls.specs.declared.trace.Version.{Version}
use Rattle.world_calls.specs.declared.trace.Version.TheVariants.{One, Three, Two}
use Rattle.trace_lines.proofs.Tests.{parts_of, same_text}
use Rattle.trace.specs.Reading.{HasNoLine, MayNotFollow, front_text}
use Rattle.trace.specs.ShortLines.{IsShort}
use Rattle.trace.specs.TraceText.{entry_text, header, sums_text}
use Rattle.trace.proofs.Entries.{one_line}
use Rattle.trace.proofs.FirstFaulty.{begins, no_record_there, not_same, same}
use Rattle.trace.proofs.LastLine.{one_last_line}
use Rattle.trace.proofs.Printing.{append_three}
use Rattle.trace.proofs.SoFar.{begin, not_ended, one_header}
use Rattle.carried_lines.specs.FirstLine.{continued_header}
use Rattle.carried_lines.specs.InOrder.{AreInOrder}
use Rattle.whole_trace.specs.Continued.{HasNoCarried, carried_texts}
use Rattle.whole_trace.specs.WholeText.{AreOrdered, HasNoHeader}
use Rattle.whole_trace.proofs.Faults.{may_go_on}
use Rattle.whole_trace.proofs.Lines.{all_there, first_there, goes_on, no_feed, none_there}
use Rattle.whole_trace.proofs.Whole.{apart}
use Rattle.host_recovery.specs.Segments.{IsBrokenAfter, IsBrokenCarried, IsBrokenContinued, IsBrokenIn, IsBrokenPlain, IsItsOwn, IsSegment, MayBeLeft, head_text}
use Rattle.host_recovery.proofs.Breaking.{AtFirst, NoMore, after_continued, no_more}
use Rattle.host_recovery.proofs.Cutting.{one_line_has_none, shown_line}

-- ---- one text is cut in one way

abbrev pub Ends : Version → Option Totals → List ℕ → Type 0
Ends version None rest = HasNoLine version rest
Ends version (Some totals) rest = Unit {0}

-- the same rest, after a last line or not, and the same lines if those of the second are their own
pub record OneCut (version : Version) (records others : List Record) (sums other : Option Totals) (rest more : List ℕ) : Type 0 where
  pub rest_is : rest ≡ more
  pub kind : is_some sums ≡ is_some other
  pub records_are : AllByRecursion (IsItsOwn (entry_text version)) others → records ≡ others
  pub sums_are : IfSome other (IsItsOwn sums_text) → sums ≡ other

pub one_cut : (version : Version) (records others : List Record) (sums other : Option Totals) (rest more text : List ℕ) → option_append (front_text version records sums) (Some rest) ≡ Some text → option_append (front_text version others other) (Some more) ≡ Some text
    → Ends version sums rest → Ends version other more → OneCut version records others sums other rest more
one_cut version [] [] None None rest more text e f p q = record {
  rest_is = begins version [] None rest text e ∙ sym (begins version [] None more text f);
  kind = refl;
  records_are = λ own. refl;
  sums_are = λ own. refl;
}
one_cut version [] [] None (Some b) rest more text e f p q = absurd ((subst (HasNoLine version) (begins version [] None rest text e) p).no_end b more (begins version [] (Some b) more text f))
one_cut version [] [] (Some a) None rest more text e f p q = absurd ((subst (HasNoLine version) (begins version [] None more text f) q).no_end a rest (begins version [] (Some a) rest text e))
one_cut version [] [] (Some a) (Some b) rest more text e f p q =
    let its = same text (sums_text a) (sums_text b) (Some rest) (Some more) (one_last_line a) (one_last_line b) (begins version [] (Some a) rest text e) (begins version [] (Some b) more text f) in
    record {
      rest_is = same_text rest its.tail its.first ∙ sym (same_text more its.tail its.second);
      kind = refl;
      records_are = λ own. refl;
      sums_are = λ own. ap Some (own a (its.one ∙ sym its.two));
    }
one_cut version [] (entry ∷ others) None other rest more text e f p q = absurd (no_record_there version text (subst (HasNoLine version) (begins version [] None rest text e) p) entry _ (begins version (entry ∷ others) other more text f))
one_cut version [] (entry ∷ others) (Some a) other rest more text e f p q = absurd (not_same version text entry a _ (Some rest) (begins version (entry ∷ others) other more text f) (begins version [] (Some a) rest text e))
one_cut version (entry ∷ records) [] sums None rest more text e f p q = absurd (no_record_there version text (subst (HasNoLine version) (begins version [] None more text f) q) entry _ (begins version (entry ∷ records) sums rest text e))
one_cut version (entry ∷ records) [] sums (Some b) rest more text e f p q = absurd (not_same version text entry b _ (Some more) (begins version (entry ∷ records) sums rest text e) (begins version [] (Some b) more text f))
one_cut version (entry ∷ records) (second ∷ others) sums other rest more text e f p q =
    let its = same text (entry_text version entry) (entry_text version second) (option_append (front_text version records sums) (Some rest)) (option_append (front_text version others other) (Some more)) (one_line version entry) (one_line version second)
    (begins version (entry ∷ records) sums rest text e) (begins version (second ∷ others) other more text f) in
    let fewer = one_cut version records others sums other rest more its.tail its.first its.second p q in
    record {
      rest_is = fewer.rest_is;
      kind = fewer.kind;
      records_are = λ own.
          let first = own.0 entry (its.one ∙ sym its.two) in
          let others_are = fewer.records_are own.1 in
          ap (λ (r : Record). r ∷ records) first ∙ ap (λ (rs : List Record). second ∷ rs) others_are;
      sums_are = fewer.sums_are;
    }

pub ends_left : (version : Version) (sums : Option Totals) (rest : List ℕ) → MayBeLeft sums rest → Ends version sums rest
ends_left version None rest short = not_ended version rest [] rest (begin version rest) (one_line_has_none rest (shown_line rest short.shown))
ends_left version (Some totals) rest none = tt

ends_faulty : (version : Version) (sums : Option Totals) (rest : List ℕ) → MayNotFollow version sums rest → Ends version sums rest
ends_faulty version None rest none = none
ends_faulty version (Some totals) rest some = tt

-- ---- with the first line and carried lines

cancel : (front a b : List ℕ) → front ++ a ≡ front ++ b → a ≡ b
cancel [] a b e = e
cancel (x ∷ front) a b e = cancel front a b (let tails : front ++ a ≡ front ++ b = cc in tails)

-- the digit of the version
digit : List ℕ → ℕ
digit text = get_or text 11 0

pub one_continued : (a b : Version) (xs ys : List ℕ) → continued_header a ++ xs ≡ continued_header b ++ ys → (a ≡ b) × (xs ≡ ys)
unfolding digit
one_continued One One xs ys e = (refl, cancel (continued_header One) xs ys e)
one_continued Two Two xs ys e = (refl, cancel (continued_header Two) xs ys e)
one_continued Three Three xs ys e = (refl, cancel (continued_header Three) xs ys e)
one_continued One Two xs ys e = let clash : true ≡ false = ap (λ (t : List ℕ). digit t == 49) e in absurd cc
one_continued One Three xs ys e = let clash : true ≡ false = ap (λ (t : List ℕ). digit t == 49) e in absurd cc
one_continued Two One xs ys e = let clash : false ≡ true = ap (λ (t : List ℕ). digit t == 49) e in absurd cc
one_continued Two Three xs ys e = let clash : true ≡ false = ap (λ (t : List ℕ). digit t == 50) e in absurd cc
one_continued Three One xs ys e = let clash : false ≡ true = ap (λ (t : List ℕ). digit t == 49) e in absurd cc
one_continued Three Two xs ys e = let clash : false ≡ true = ap (λ (t : List ℕ). digit t == 50) e in absurd cc

-- The text is so cut.
pub record IsWay (version : Version) (carried : Option (List CarriedLine)) (records : List Record) (sums : Option Totals) (rest text : List ℕ) : Type 0 where
  pub behind : List ℕ
  pub head : option_append (head_text version carried) (Some behind) ≡ Some text
  pub front : option_append (front_text version records sums) (Some rest) ≡ Some behind
  pub none : NoMore version carried behind
  pub ends : Ends version sums rest

record OneHead (version its : Version) (carried others : Option (List CarriedLine)) (behind after : List ℕ) : Type 0 where
  version_is : version ≡ its
  carried_is : carried ≡ others
  behind_is : behind ≡ after

one_head : (version its : Version) (carried others : Option (List CarriedLine)) (behind after text : List ℕ) → option_append (head_text version carried) (Some behind) ≡ Some text → option_append (head_text its others) (Some after) ≡ Some text
    → NoMore version carried behind → NoMore its others after → OneHead version its carried others behind after
one_head version its None None behind after text e f p q =
    let same_one = one_header version its behind after (same_text (header version ++ behind) text e ∙ sym (same_text (header its ++ after) text f)) in
    record { version_is = same_one.0; carried_is = refl; behind_is = same_one.1 }
one_head version its None (Some others) behind after text e f p q =
    let there = after_continued its others after text f in
    absurd (apart its version text there.0 behind there.2 (sym (same_text (header version ++ behind) text e)))
one_head version its (Some lines) None behind after text e f p q =
    let there = after_continued version lines behind text e in
    absurd (apart version its text there.0 after there.2 (sym (same_text (header its ++ after) text f)))
one_head version its (Some lines) (Some others) behind after text e f p q =
    let a = after_continued version lines behind text e in
    let b = after_continued its others after text f in
    let first = one_continued version its a.0 b.0 (sym a.2 ∙ b.2) in
    let same_version : its ≡ version = sym first.0 in
    let one = all_there version lines others behind after a.0 a.1 p
    (subst (λ (v : Version). option_append (carried_texts v others) (Some after) ≡ Some b.0) same_version b.1 ∙ ap Some (sym first.1)) (subst (λ (v : Version). HasNoCarried v after) same_version q) in
    record { version_is = first.0; carried_is = ap Some (sym one.lines_are); behind_is = one.rest_is }

-- Both ways are one, but for records and sums whose text is not their own.
pub record OneWay (version its : Version) (carried others : Option (List CarriedLine)) (records more : List Record) (sums other : Option Totals) (rest left : List ℕ) : Type 0 where
  pub version_is : version ≡ its
  pub carried_is : carried ≡ others
  pub cut : OneCut version records more sums other rest left

pub one_way : (version its : Version) (carried others : Option (List CarriedLine)) (records more : List Record) (sums other : Option Totals) (rest left text : List ℕ) → IsWay version carried records sums rest text → IsWay its others more other left text
    → OneWay version its carried others records more sums other rest left
one_way version its carried others records more sums other rest left text a b =
    let head = one_head version its carried others a.behind b.behind text a.head b.head a.none b.none in
    let front = subst (λ (v : Version). option_append (front_text v more other) (Some left) ≡ Some b.behind) (sym head.version_is) b.front in
    let ends = subst (λ (v : Version). Ends v other left) (sym head.version_is) b.ends in
    record {
      version_is = head.version_is;
      carried_is = head.carried_is;
      cut = one_cut version records more sums other rest left a.behind a.front (front ∙ ap Some (sym head.behind_is)) a.ends ends;
    }

-- ---- ways

first_left : (version : Version) (carried : Option (List CarriedLine)) (records : List Record) (sums : Option Totals) (rest : List ℕ) → MayBeLeft sums rest → AtFirst carried records sums → HasNoCarried version rest
first_left version None records sums rest left at = absurd at
first_left version (Some lines) (entry ∷ records) sums rest left at = absurd at
first_left version (Some lines) [] (Some totals) rest left at = absurd at
first_left version (Some lines) [] None rest left at = no_feed version rest (one_line_has_none rest (shown_line rest left.shown))

-- what may be left is no line
pub way_left : (version : Version) (carried : Option (List CarriedLine)) (records : List Record) (sums : Option Totals) (rest behind text : List ℕ) → option_append (head_text version carried) (Some behind) ≡ Some text
    → option_append (front_text version records sums) (Some rest) ≡ Some behind → MayBeLeft sums rest → IsWay version carried records sums rest text
way_left version carried records sums rest behind text head front left = record {
  behind = behind;
  head = head;
  front = front;
  none = no_more version carried records sums rest behind front (first_left version carried records sums rest left);
  ends = ends_left version sums rest left;
}

pub way_of_segment : (version : Version) (carried : Option (List CarriedLine)) (records : List Record) (sums : Option Totals) (torn text : List ℕ) → IsSegment version carried text records sums torn → IsWay version carried records sums torn text
way_of_segment version carried records sums torn text segment =
    let parts = parts_of (head_text version carried) (option_append (front_text version records sums) (Some torn)) text segment.whole in
    way_left version carried records sums torn parts.1 text (ap (option_append (head_text version carried)) (sym parts.3) ∙ segment.whole) parts.3 segment.left

way_of_plain : (text : List ℕ) (number : ℕ) (it : IsBrokenPlain text number) → IsWay it.version None it.is.faulty.records it.is.faulty.sums it.is.faulty.rest text
way_of_plain text number it = record {
  behind = it.rest;
  head = ap Some (sym it.whole);
  front = it.is.faulty.front;
  none = tt;
  ends = ends_faulty it.version it.is.faulty.sums it.is.faulty.rest it.is.faulty.faulty;
}

with_head : (version : Version) (lines : List CarriedLine) (behind rest text : List ℕ) → text ≡ continued_header version ++ rest → option_append (carried_texts version lines) (Some behind) ≡ Some rest → option_append (head_text version (Some lines)) (Some behind) ≡ Some text
with_head version lines behind rest text whole front =
    append_three (Some (continued_header version)) (carried_texts version lines) (Some behind) ∙ ap (option_append (Some (continued_header version))) front ∙ ap Some (sym whole)

way_of_after : (version : Version) (rest text : List ℕ) (number : ℕ) → text ≡ continued_header version ++ rest → (it : IsBrokenAfter version rest number) → IsWay version (Some it.faulty.lines) it.faulty.is.is.records it.faulty.is.is.sums it.faulty.is.is.rest text
way_of_after version rest text number whole it = record {
  behind = it.faulty.rest;
  head = with_head version it.faulty.lines it.faulty.rest rest text whole it.faulty.front;
  front = it.faulty.is.is.front;
  none = it.faulty.no_more;
  ends = ends_faulty version it.faulty.is.is.sums it.faulty.is.is.rest it.faulty.is.is.faulty;
}

-- ---- a text that is so cut has a first line, and no line that is not of the form, if what is left may be

some_header : (version : Version) (carried : Option (List CarriedLine)) (behind text : List ℕ) → option_append (head_text version carried) (Some behind) ≡ Some text → HasNoHeader text → ⊥
some_header version None behind text e none = none.plain version behind (sym (same_text (header version ++ behind) text e))
some_header version (Some lines) behind text e none = let there = after_continued version lines behind text e in none.continued version there.0 there.2

-- what stands there is no line, and not what may be left
lines_there : (version : Version) (records : List Record) (sums : Option Totals) (rest text : List ℕ) → option_append (front_text version records sums) (Some rest) ≡ Some text → MayBeLeft sums rest → HasNoLine version text → (IsShort text → ⊥) → ⊥
lines_there version [] None rest text e left none cut = cut (subst IsShort (begins version [] None rest text e) left)
lines_there version [] (Some totals) rest text e left none cut = none.no_end totals rest (begins version [] (Some totals) rest text e)
lines_there version (entry ∷ records) sums rest text e left none cut = no_record_there version text none entry _ (begins version (entry ∷ records) sums rest text e)

module _ (version : Version) (lines : List CarriedLine) (records : List Record) (sums : Option Totals) (rest behind text : List ℕ) (front : option_append (front_text version records sums) (Some rest) ≡ Some behind) (left : MayBeLeft sums rest)
    (in_order : AreInOrder lines) (number : ℕ) (it : IsBrokenCarried version text number) where
  not_in_between : (more : List CarriedLine) → lines ≡ it.faulty.lines ++ more → option_append (carried_texts version more) (Some behind) ≡ Some it.faulty.rest → ⊥
  not_in_between [] is there =
      let whole : AreInOrder it.faulty.lines = subst AreInOrder (is ∙ append-nil it.faulty.lines) in_order in
      let rest_is = none_there version behind it.faulty.rest there in
      lines_there version records sums rest behind front left (subst (HasNoLine version) (sym rest_is) (it.faulty.not_after whole)) (λ short. it.not_left whole (subst IsShort rest_is short))
  not_in_between (line ∷ more) is there =
      let next = first_there version line more behind it.faulty.rest there in
      it.faulty.not_next line next.0 next.1 (may_go_on it.faulty.lines more lines line is in_order)

not_carried : (version its : Version) (carried : Option (List CarriedLine)) (records : List Record) (sums : Option Totals) (rest behind after text : List ℕ) (number : ℕ) → option_append (head_text version carried) (Some behind) ≡ Some text
    → option_append (front_text version records sums) (Some rest) ≡ Some behind → NoMore version carried behind → MayBeLeft sums rest → AreOrdered carried → text ≡ continued_header its ++ after → IsBrokenCarried its after number → ⊥
not_carried version its None records sums rest behind after text number e front none left ordered whole it =
    apart its version text after behind whole (sym (same_text (header version ++ behind) text e))
not_carried version its (Some lines) records sums rest behind after text number e front none left ordered whole it =
    let there = after_continued version lines behind text e in
    let first = one_continued version its there.0 after (sym there.2 ∙ whole) in
    let here : IsBrokenCarried version there.0 number = subst (λ (v : Version). IsBrokenCarried v there.0 number) (sym first.0) (subst (λ (t : List ℕ). IsBrokenCarried its t number) (sym first.1) it) in
    let g = goes_on version here.faulty.lines lines here.faulty.rest behind there.0 here.faulty.front there.1 none in
    not_in_between version lines records sums rest behind there.0 front left ordered number here g.more g.is g.left

-- what may be left of one may be left of the other
left_so : (sums other : Option Totals) (rest more : List ℕ) → is_some sums ≡ is_some other → rest ≡ more → MayBeLeft sums rest → MayBeLeft other more
left_so None None rest more kind is left = subst IsShort is left
left_so None (Some b) rest more kind is left = absurd (let bad : false ≡ true = kind in cc)
left_so (Some a) None rest more kind is left = absurd (let bad : true ≡ false = kind in cc)
left_so (Some a) (Some b) rest more kind is left = sym is ∙ left

module _ (version : Version) (carried : Option (List CarriedLine)) (records : List Record) (sums : Option Totals) (rest text : List ℕ) (way : IsWay version carried records sums rest text) where
  pub has_header : HasNoHeader text → ⊥
  has_header none = some_header version carried way.behind text way.head none

  module _ (left : MayBeLeft sums rest) (ordered : AreOrdered carried) where
    not_after : (its : Version) (others : Option (List CarriedLine)) (more : List Record) (other : Option Totals) (after : List ℕ) → IsWay its others more other after text → (MayBeLeft other after → ⊥) → ⊥
    not_after its others more other after second cut =
        let one = one_way version its carried others records more sums other rest after text way second in
        cut (left_so sums other rest after one.cut.kind one.cut.rest_is left)

    not_continued : (number : ℕ) → (it : IsBrokenContinued text number) → ⊥
    not_continued number it = elim it.is [
      | inl early ↦ not_carried version it.version carried records sums rest way.behind it.rest text number way.head way.front way.none left ordered it.whole early
      | inr late ↦ not_after it.version (Some late.faulty.lines) late.faulty.is.is.records late.faulty.is.is.sums late.faulty.is.is.rest (way_of_after it.version it.rest text number it.whole late) late.not_left
    ]

    pub not_broken : (number : ℕ) → IsBrokenIn text number → ⊥
    not_broken number broken = elim broken [
      | inl plain ↦ not_after plain.version None plain.is.faulty.records plain.is.faulty.sums plain.is.faulty.rest (way_of_plain text number plain) plain.is.not_left
      | inr it ↦ not_continued number it
    ]

  -- a segment of that text has the same carried lines, records and sums
  pub record IsThat (its : Version) (others : Option (List CarriedLine)) (more : List Record) (other : Option Totals) : Type 0 where
    pub version_is : version ≡ its
    pub carried_is : carried ≡ others
    pub records_are : records ≡ more
    pub sums_are : sums ≡ other

  pub that_segment : (its : Version) (others : Option (List CarriedLine)) (more : List Record) (other : Option Totals) (torn : List ℕ) → IsSegment its others text more other torn → IsThat its others more other
  that_segment its others more other torn segment =
      let one = one_way version its carried others records more sums other rest torn text way (way_of_segment its others more other torn text segment) in
      record {
        version_is = one.version_is;
        carried_is = one.carried_is;
        records_are = one.cut.records_are (subst (λ (v : Version). AllByRecursion (IsItsOwn (entry_text v)) more) (sym one.version_is) segment.own);
        sums_are = one.cut.sums_are segment.own_sums;
      }
