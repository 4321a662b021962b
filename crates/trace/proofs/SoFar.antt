-- A text is read line by line: what was read so far, and what is said at its end.
use Rattle.std.proofs.Common.{◌≡◌, ◌≢◌, ◌+◌, ◌==◌, ℕ, Bool, true, false, Option, Some, None, List, [], ◌∷◌, ◌++◌, length, get_or, refl, sym, ap, ◌∙◌, append_assoc, append-nil, codes, arith, rules}
use Rattle.std.specs.Fmt.{option_append, with_newline}
use Rattle.world_calls.specs.declared.record.Record.{Record}
use Rattle.world_calls.specs.declared.totals.Totals.{Totals}
use Rattle.world_calls.specs.declared.trace.Trace.{Trace}
use Rattle.world_calls.specs.declared.trace.Version.{Version}
use Rattle.world_calls.specs.declared.trace.Version.TheVariants.{One, Three, Two}
use Rattle.trace_lines.specs.Calls.{word_text}
use Rattle.trace_lines.specs.Lines.{line_text, fields_text}
use Rattle.trace_lines.specs.Rows.{row_of}
use Rattle.trace_lines.specs.Written.{Reads}
use Rattle.trace_lines.specs.declared.word.Word.{Word}
use Rattle.trace_lines.proofs.Tests.{parts_of, same_text}
use Rattle.trace.specs.Reading.{HasNoLine, IsFaultyFrom, IsFaultyLine}
use Rattle.trace.specs.TraceText.{asked_of, told_text, line_of, entry_text, header, record_text, records_text, sums_text, totals_text, lines_text, trace_text}
use Rattle.trace.proofs.Cuts.{IsOneLine, IsFirstLine, HasNoFeed}
use Rattle.trace.proofs.Entries.{of_entry, one_line}
use Rattle.trace.proofs.Printing.{append_three, append_nothing, nothing_append, records_push}
use Rattle.trace.proofs.LastLine.{one_last_line, last_letter}

-- these records' lines stand in front of this rest, and each list of records whose lines the text has begins with them
pub record IsReadSoFar (version : Version) (text : List ℕ) (entries : List Record) (rest : List ℕ) : Type 0 where
  pub said : option_append (records_text version entries) (Some rest) ≡ Some text
  pub back : (all : List Record) (totals : Totals) → lines_text version all totals ≡ Some text → (others : List Record) × (all ≡ entries ++ others) × (lines_text version others totals ≡ Some rest)

pub begin : (version : Version) (text : List ℕ) → IsReadSoFar version text [] text
unfolding records_text
begin version text = record { said = refl; back = λ all totals e. (all, refl, e) }

-- ---- nothing, and the first line of all

pub not_empty : (bytes : List ℕ) → (length bytes == 0) ≡ false → bytes ≢ []
not_empty bytes left is = let clash : true ≡ false = sym (ap (λ (b : List ℕ). length b == 0) is) ∙ left in absurd cc

-- without the first line there is no trace
pub behind_header : (text : List ℕ) (trace : Trace) → trace_text trace ≡ Some text
    → (rest : List ℕ) × (lines_text trace.version trace.records.items trace.totals ≡ Some rest) × (text ≡ header trace.version ++ rest)
behind_header text trace e =
    let parts = parts_of (Some (header trace.version)) (lines_text trace.version trace.records.items trace.totals) text e in
    (parts.1, parts.3, parts.4 ∙ ap (λ (t : List ℕ). t ++ parts.1) (sym (same_text (header trace.version) parts.0 parts.2)))

pub no_header : (text : List ℕ) → ((version : Version) (rest : List ℕ) → text ≢ header version ++ rest) → (trace : Trace) → trace_text trace ≡ Some text → ⊥
no_header text apart trace e = let its = behind_header text trace e in apart trace.version its.0 its.2

-- no version's stands there
pub none_of : (text : List ℕ) → ((rest : List ℕ) → text ≢ header One ++ rest) → ((rest : List ℕ) → text ≢ header Two ++ rest) → ((rest : List ℕ) → text ≢ header Three ++ rest)
    → (version : Version) (rest : List ℕ) → text ≢ header version ++ rest
none_of text one two three One = one
none_of text one two three Two = two
none_of text one two three Three = three

cancel : (front a b : List ℕ) → front ++ a ≡ front ++ b → a ≡ b
cancel [] a b e = e
cancel (x ∷ front) a b e = cancel front a b (let tails : front ++ a ≡ front ++ b = cc in tails)

-- the digit of the version
has_digit : ℕ → List ℕ → Bool
has_digit digit text = get_or text 11 0 == digit

-- a text has one first line of all
pub one_header : (a b : Version) (xs ys : List ℕ) → header a ++ xs ≡ header b ++ ys → (a ≡ b) × (xs ≡ ys)
unfolding has_digit
one_header One One xs ys e = (refl, cancel (header One) xs ys e)
one_header Two Two xs ys e = (refl, cancel (header Two) xs ys e)
one_header Three Three xs ys e = (refl, cancel (header Three) xs ys e)
one_header One Two xs ys e = let clash : true ≡ false = ap (has_digit 49) e in absurd cc
one_header One Three xs ys e = let clash : true ≡ false = ap (has_digit 49) e in absurd cc
one_header Two One xs ys e = let clash : true ≡ false = ap (has_digit 50) e in absurd cc
one_header Two Three xs ys e = let clash : true ≡ false = ap (has_digit 50) e in absurd cc
one_header Three One xs ys e = let clash : true ≡ false = ap (has_digit 51) e in absurd cc
one_header Three Two xs ys e = let clash : true ≡ false = ap (has_digit 51) e in absurd cc

-- ---- what stands in front

-- a line in front, before more
pub cut_line : (told more : Option (List ℕ)) (text : List ℕ) → option_append (with_newline told) more ≡ Some text → (line : List ℕ) × (rest : List ℕ) × (told ≡ Some line) × (more ≡ Some rest) × (text ≡ line ++ 10 ∷ rest)
cut_line told more text e =
    let a = parts_of (with_newline told) more text e in
    let b = parts_of told (Some (10 ∷ [])) a.0 a.2 in
    let ended : a.0 ≡ b.0 ++ 10 ∷ [] = b.4 ∙ ap (λ (t : List ℕ). b.0 ++ t) (sym (same_text (10 ∷ []) b.1 b.3)) in
    (b.0, a.1, b.2, a.3, a.4 ∙ ap (λ (t : List ℕ). t ++ a.1) ended ∙ append_assoc b.0 (10 ∷ []) a.1)

line_in_front : (told more : Option (List ℕ)) (line rest : List ℕ) → told ≡ Some line → more ≡ Some rest → option_append (with_newline told) more ≡ Some (line ++ 10 ∷ rest)
line_in_front told more line rest e f = rw (e, f) (ap Some (append_assoc line (10 ∷ []) rest))

abbrev pub AreOneLine : Option (List ℕ) → Type 0
AreOneLine told = (line : List ℕ) → told ≡ Some line → IsOneLine line

no_front : (text : List ℕ) → HasNoFeed text → (told more : Option (List ℕ)) → AreOneLine told → option_append (with_newline told) more ≡ Some text → ⊥
no_front text none told more one e = let c = cut_line told more text e in none c.0 c.1 (one c.0 c.2) c.4

pub in_front : (text line rest : List ℕ) → IsFirstLine text line rest → (told more : Option (List ℕ)) → AreOneLine told → option_append (with_newline told) more ≡ Some text → (told ≡ Some line) × (more ≡ Some rest)
in_front text line rest first told more one e =
    let c = cut_line told more text e in
    let same = first.once c.0 c.1 (one c.0 c.2) c.4 in
    (c.2 ∙ ap Some (sym same.0), c.3 ∙ ap Some (sym same.1))

-- ---- the last line is no record's

letter : (word : Word) (more : List ℕ) → (get_or (word_text word ++ more) 0 0 == 101) ≡ false
letter word more = search rules

entry_letter : (entry : Record) (line : List ℕ) → line_of entry ≡ Some line → (get_or line 0 0 == 101) ≡ false
entry_letter entry line e =
    let a = parts_of (line_text (asked_of entry).0 (asked_of entry).1) (option_append (Some (codes " = ")) (told_text entry)) line e in
    let b = parts_of (Some (word_text (asked_of entry).0)) (fields_text (row_of (asked_of entry).0).fields (asked_of entry).1) a.0 a.2 in
    let front : a.0 ≡ word_text (asked_of entry).0 ++ b.1 = b.4 ∙ ap (λ (t : List ℕ). t ++ b.1) (sym (same_text (word_text (asked_of entry).0) b.0 b.2)) in
    let whole : line ≡ word_text (asked_of entry).0 ++ (b.1 ++ a.1) = a.4 ∙ ap (λ (t : List ℕ). t ++ a.1) front ∙ append_assoc (word_text (asked_of entry).0) b.1 a.1 in
    ap (λ (t : List ℕ). get_or t 0 0 == 101) whole ∙ letter (asked_of entry).0 (b.1 ++ a.1)

pub not_both : (version : Version) (entry : Record) (totals : Totals) (line : List ℕ) → entry_text version entry ≡ Some line → sums_text totals ≡ Some line → ⊥
not_both version entry totals line e f =
    let a = entry_letter entry line (of_entry version entry line e).1 in
    let b = last_letter totals line f in
    absurd cc

-- ---- lines that are left

alone : (version : Version) (totals : Totals) (text : List ℕ) → lines_text version [] totals ≡ Some text → option_append (totals_text totals) (Some []) ≡ Some text
unfolding records_text
alone version totals text e = append_nothing (totals_text totals) ∙ sym (nothing_append (totals_text totals)) ∙ e

behind_first : (version : Version) (entry : Record) (others : List Record) (totals : Totals) (text : List ℕ) → lines_text version (entry ∷ others) totals ≡ Some text → option_append (record_text version entry) (lines_text version others totals) ≡ Some text
unfolding records_text
behind_first version entry others totals text e = sym (append_three (record_text version entry) (records_text version others) (totals_text totals)) ∙ e

abbrev IsFront : Version → List Record → Totals → List ℕ → List ℕ → Type 0
IsFront version [] totals line rest = (sums_text totals ≡ Some line) × (rest ≡ [])
IsFront version (entry ∷ others) totals line rest = (entry_text version entry ≡ Some line) × (lines_text version others totals ≡ Some rest)

nothing_left : (rest : List ℕ) → Some [] ≡ Some rest → rest ≡ []
nothing_left rest e = sym (same_text [] rest e)

front_of : (version : Version) (text line rest : List ℕ) → IsFirstLine text line rest → (others : List Record) (totals : Totals) → lines_text version others totals ≡ Some text → IsFront version others totals line rest
front_of version text line rest first [] totals e =
    let found = in_front text line rest first (sums_text totals) (Some []) (one_last_line totals) (alone version totals text e) in
    (found.0, nothing_left rest found.1)
front_of version text line rest first (entry ∷ others) totals e = in_front text line rest first (entry_text version entry) (lines_text version others totals) (one_line version entry) (behind_first version entry others totals text e)

-- ---- one record more

module _ (version : Version) (text : List ℕ) (entries : List Record) (rest : List ℕ) (so_far : IsReadSoFar version text entries rest) where
  module _ (line behind : List ℕ) (first : IsFirstLine rest line behind) where
    module _ (entry : Record) (reads : Reads (entry_text version) line (Some entry)) where
      more_said : option_append (records_text version (entries ++ entry ∷ [])) (Some behind) ≡ Some text
      more_said =
          let here : option_append (record_text version entry) (Some behind) ≡ Some rest = line_in_front (entry_text version entry) (Some behind) line behind reads.said refl ∙ ap Some (sym first.whole) in
          ap (λ (t : Option (List ℕ)). option_append t (Some behind)) (records_push version entries entry)
          ∙ append_three (records_text version entries) (record_text version entry) (Some behind)
          ∙ ap (option_append (records_text version entries)) here
          ∙ so_far.said

      next : (all others : List Record) (totals : Totals) → IsFront version others totals line behind → all ≡ entries ++ others → (more : List Record) × (all ≡ (entries ++ entry ∷ []) ++ more) × (lines_text version more totals ≡ Some behind)
      next all [] totals front is = absurd (not_both version entry totals line reads.said front.0)
      next all (other ∷ others) totals front is =
          let there = reads.back other front.0 in
          let same : entry ≡ other = cc in
          (others, is ∙ ap (λ (e : Record). entries ++ e ∷ others) (sym same) ∙ sym (append_assoc entries (entry ∷ []) others), front.1)

      -- a record's line was read
      pub one_more : IsReadSoFar version text (entries ++ entry ∷ []) behind
      one_more = record {
        said = more_said;
        back = λ all totals e.
            let left = so_far.back all totals e in
            next all left.0 totals (front_of version rest line behind first left.0 totals left.2) left.1;
      }

    -- ---- the last line

    module _ (totals : Totals) (reads : Reads sums_text line (Some totals)) where
      last_said : option_append (lines_text version entries totals) (Some behind) ≡ Some text
      last_said =
          let here : option_append (totals_text totals) (Some behind) ≡ Some rest = line_in_front (sums_text totals) (Some behind) line behind reads.said refl ∙ ap Some (sym first.whole) in
          append_three (records_text version entries) (totals_text totals) (Some behind) ∙ ap (option_append (records_text version entries)) here ∙ so_far.said

      -- something stands after it
      goes_on : (number : ℕ) → number ≡ length entries + 2 → behind ≢ [] → IsFaultyLine version text (number + 1)
      goes_on number place more = record { records = entries; sums = Some totals; rest = behind; front = last_said; place = omega arith; faulty = more }

      pub goes_on_from : (number begin : ℕ) → number ≡ length entries + begin → behind ≢ [] → IsFaultyFrom version text begin (number + 1)
      goes_on_from number begin place more = record { place = length entries + 2 + 1; is = goes_on (length entries + 2) refl more; counted = omega (arith, place) }

      left_over : (all others : List Record) (sums : Totals) → IsFront version others sums line behind → all ≡ entries ++ others → (entries ≡ all) × (totals ≡ sums) × (behind ≡ [])
      left_over all [] sums front is =
          let there = reads.back sums front.0 in
          let same : totals ≡ sums = cc in
          (sym (append-nil entries) ∙ sym is, same, front.1)
      left_over all (other ∷ others) sums front is = absurd (not_both version other totals line front.0 reads.said)

      last_back : (all : List Record) (sums : Totals) → lines_text version all sums ≡ Some text → (entries ≡ all) × (totals ≡ sums) × (behind ≡ [])
      last_back all sums e =
          let left = so_far.back all sums e in
          left_over all left.0 sums (front_of version rest line behind first left.0 sums left.2) left.1

      pub no_trace_on : behind ≢ [] → (all : List Record) (sums : Totals) → lines_text version all sums ≡ Some text → ⊥
      no_trace_on more all sums e = more (last_back all sums e).2

      -- nothing stands after it
      pub whole_text : behind ≡ [] → lines_text version entries totals ≡ Some text
      whole_text none = sym (append_nothing (lines_text version entries totals)) ∙ ap (λ (t : List ℕ). option_append (lines_text version entries totals) (Some t)) (sym none) ∙ last_said

      pub only_trace : (all : List Record) (sums : Totals) → lines_text version all sums ≡ Some text → (entries ≡ all) × (totals ≡ sums)
      only_trace all sums e = let found = last_back all sums e in (found.0, found.1)

    -- ---- no line of a trace

    pub not_a_line : Reads (entry_text version) line None → Reads sums_text line None → HasNoLine version rest
    not_a_line no_entry no_sums = record {
      no_record = λ entry more e. let found = in_front rest line behind first (entry_text version entry) (Some more) (one_line version entry) e in let there = no_entry.back entry found.0 in absurd cc;
      no_end = λ totals more e. let found = in_front rest line behind first (sums_text totals) (Some more) (one_last_line totals) e in let there = no_sums.back totals found.0 in absurd cc;
    }

  pub not_ended : HasNoFeed rest → HasNoLine version rest
  not_ended none = record {
    no_record = λ entry more e. no_front rest none (entry_text version entry) (Some more) (one_line version entry) e;
    no_end = λ totals more e. no_front rest none (sums_text totals) (Some more) (one_last_line totals) e;
  }

  module _ (none : HasNoLine version rest) where
    faulty_line : (number : ℕ) → number ≡ length entries + 2 → IsFaultyLine version text number
    faulty_line number place = record { records = entries; sums = None; rest = rest; front = so_far.said; place = place; faulty = none }

    pub faulty_from : (number begin : ℕ) → number ≡ length entries + begin → IsFaultyFrom version text begin number
    faulty_from number begin place = record { place = length entries + 2; is = faulty_line (length entries + 2) refl; counted = omega (arith, place) }

    not_left : (others : List Record) (totals : Totals) → lines_text version others totals ≡ Some rest → ⊥
    not_left [] totals e = none.no_end totals [] (alone version totals rest e)
    not_left (entry ∷ others) totals e =
        let there = behind_first version entry others totals rest e in
        let parts = parts_of (record_text version entry) (lines_text version others totals) rest there in
        none.no_record entry parts.1 (ap (option_append (record_text version entry)) (sym parts.3) ∙ there)

    pub no_trace : (all : List Record) (totals : Totals) → lines_text version all totals ≡ Some text → ⊥
    no_trace all totals e = let left = so_far.back all totals e in not_left left.0 totals left.2
