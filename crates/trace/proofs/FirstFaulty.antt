-- Which line is the first that is not of the form is settled by the text.
use Rattle.std.proofs.Common.{◌≡◌, ◌+◌, ℕ, Option, Some, None, List, [], ◌∷◌, refl, sym, ap, ◌∙◌, subst, arith}
use Rattle.std.specs.Fmt.{option_append, with_newline}
use Rattle.world_calls.specs.declared.record.Record.{Record}
use Rattle.world_calls.specs.declared.totals.Totals.{Totals}
use Rattle.world_calls.specs.declared.trace.Version.{Version}
use Rattle.trace_lines.proofs.Tests.{parts_of, same_text}
use Rattle.trace.specs.OneFaultyLine.{OneFaultyLine}
use Rattle.trace.specs.Reading.{HasNoLine, MayNotFollow, front_text, front_lines}
use Rattle.trace.specs.TraceText.{entry_text, record_text, records_text, sums_text, totals_text, lines_text}
use Rattle.trace.proofs.Cuts.{first_of}
use Rattle.trace.proofs.Entries.{one_line}
use Rattle.trace.proofs.LastLine.{one_last_line}
use Rattle.trace.proofs.Printing.{append_three, append_nothing, nothing_append}
use Rattle.trace.proofs.SoFar.{AreOneLine, cut_line, in_front, not_both}

-- these lines stand in front of this rest, by the first of them
abbrev pub Begins : Version → List Record → Option Totals → List ℕ → List ℕ → Type 0
Begins version [] None rest text = rest ≡ text
Begins version [] (Some totals) rest text = option_append (totals_text totals) (Some rest) ≡ Some text
Begins version (entry ∷ records) sums rest text = option_append (record_text version entry) (option_append (front_text version records sums) (Some rest)) ≡ Some text

pub begins : (version : Version) (records : List Record) (sums : Option Totals) (rest text : List ℕ) → option_append (front_text version records sums) (Some rest) ≡ Some text → Begins version records sums rest text
unfolding records_text
begins version [] None rest text e = same_text rest text e
begins version [] (Some totals) rest text e = ap (λ (t : Option (List ℕ)). option_append t (Some rest)) (sym (nothing_append (totals_text totals))) ∙ e
begins version (entry ∷ records) None rest text e = sym (append_three (record_text version entry) (records_text version records) (Some rest)) ∙ e
begins version (entry ∷ records) (Some totals) rest text e =
    sym (append_three (record_text version entry) (lines_text version records totals) (Some rest))
    ∙ ap (λ (t : Option (List ℕ)). option_append t (Some rest)) (sym (append_three (record_text version entry) (records_text version records) (totals_text totals)))
    ∙ e

one_more_line : (entry : Record) (records : List Record) (sums : Option Totals) → front_lines (entry ∷ records) sums ≡ front_lines records sums + 1
one_more_line entry records None = omega arith
one_more_line entry records (Some totals) = omega arith

-- two lines in front of one text are the same
pub record AreSame (told other more rest : Option (List ℕ)) : Type 0 where
  pub line : List ℕ
  pub tail : List ℕ
  pub one : told ≡ Some line
  pub two : other ≡ Some line
  pub first : more ≡ Some tail
  pub second : rest ≡ Some tail

pub same : (text : List ℕ) (told other more rest : Option (List ℕ)) → AreOneLine told → AreOneLine other → option_append (with_newline told) more ≡ Some text → option_append (with_newline other) rest ≡ Some text → AreSame told other more rest
same text told other more rest one another e f =
    let c = cut_line told more text e in
    let found = in_front text c.0 c.1 (first_of text c.0 c.1 (one c.0 c.2) c.4) other rest another f in
    record { line = c.0; tail = c.1; one = c.2; two = found.0; first = c.3; second = found.1 }

-- a record's line is no last line
pub not_same : (version : Version) (text : List ℕ) (entry : Record) (totals : Totals) (more rest : Option (List ℕ)) → option_append (record_text version entry) more ≡ Some text → option_append (totals_text totals) rest ≡ Some text → ⊥
not_same version text entry totals more rest e f =
    let its = same text (entry_text version entry) (sums_text totals) more rest (one_line version entry) (one_last_line totals) e f in
    not_both version entry totals its.line its.one its.two

pub no_record_there : (version : Version) (text : List ℕ) → HasNoLine version text → (entry : Record) (more : Option (List ℕ)) → option_append (record_text version entry) more ≡ Some text → ⊥
no_record_there version text none entry more e =
    let parts = parts_of (record_text version entry) more text e in
    none.no_record entry parts.1 (ap (option_append (record_text version entry)) (sym parts.3) ∙ e)

one_count : (version : Version) (records others : List Record) (sums other : Option Totals) (rest more text : List ℕ) → option_append (front_text version records sums) (Some rest) ≡ Some text → option_append (front_text version others other) (Some more) ≡ Some text
    → MayNotFollow version sums rest → MayNotFollow version other more → front_lines records sums ≡ front_lines others other
one_count version [] [] None None rest more text e f p q = refl
one_count version [] [] None (Some b) rest more text e f p q = absurd ((subst (HasNoLine version) (begins version [] None rest text e) p).no_end b more (begins version [] (Some b) more text f))
one_count version [] [] (Some a) None rest more text e f p q = absurd ((subst (HasNoLine version) (begins version [] None more text f) q).no_end a rest (begins version [] (Some a) rest text e))
one_count version [] [] (Some a) (Some b) rest more text e f p q = refl
one_count version [] (entry ∷ others) None other rest more text e f p q = absurd (no_record_there version text (subst (HasNoLine version) (begins version [] None rest text e) p) entry _ (begins version (entry ∷ others) other more text f))
one_count version [] (entry ∷ others) (Some a) other rest more text e f p q = absurd (not_same version text entry a _ (Some rest) (begins version (entry ∷ others) other more text f) (begins version [] (Some a) rest text e))
one_count version (entry ∷ records) [] sums None rest more text e f p q = absurd (no_record_there version text (subst (HasNoLine version) (begins version [] None more text f) q) entry _ (begins version (entry ∷ records) sums rest text e))
one_count version (entry ∷ records) [] sums (Some b) rest more text e f p q = absurd (not_same version text entry b _ (Some more) (begins version (entry ∷ records) sums rest text e) (begins version [] (Some b) more text f))
one_count version (entry ∷ records) (second ∷ others) sums other rest more text e f p q =
    let its = same text (entry_text version entry) (entry_text version second) (option_append (front_text version records sums) (Some rest)) (option_append (front_text version others other) (Some more)) (one_line version entry) (one_line version second)
    (begins version (entry ∷ records) sums rest text e) (begins version (second ∷ others) other more text f) in
    let fewer = one_count version records others sums other rest more its.tail its.first its.second p q in
    one_more_line entry records sums ∙ ap (λ (n : ℕ). n + 1) fewer ∙ sym (one_more_line second others other)

no_whole : (version : Version) (records all : List Record) (sums : Option Totals) (totals : Totals) (rest text : List ℕ) → option_append (front_text version records sums) (Some rest) ≡ Some text → MayNotFollow version sums rest
    → option_append (lines_text version all totals) (Some []) ≡ Some text → ⊥
no_whole version [] [] None totals rest text e p f = (subst (HasNoLine version) (begins version [] None rest text e) p).no_end totals [] (begins version [] (Some totals) [] text f)
no_whole version [] [] (Some a) totals rest text e p f =
    let its = same text (sums_text a) (sums_text totals) (Some rest) (Some []) (one_last_line a) (one_last_line totals) (begins version [] (Some a) rest text e) (begins version [] (Some totals) [] text f) in
    p (same_text rest its.tail its.first ∙ sym (same_text [] its.tail its.second))
no_whole version [] (entry ∷ all) None totals rest text e p f = no_record_there version text (subst (HasNoLine version) (begins version [] None rest text e) p) entry _ (begins version (entry ∷ all) (Some totals) [] text f)
no_whole version [] (entry ∷ all) (Some a) totals rest text e p f = not_same version text entry a _ (Some rest) (begins version (entry ∷ all) (Some totals) [] text f) (begins version [] (Some a) rest text e)
no_whole version (entry ∷ records) [] sums totals rest text e p f = not_same version text entry totals _ (Some []) (begins version (entry ∷ records) sums rest text e) (begins version [] (Some totals) [] text f)
no_whole version (entry ∷ records) (second ∷ all) sums totals rest text e p f =
    let its = same text (entry_text version entry) (entry_text version second) (option_append (front_text version records sums) (Some rest)) (option_append (lines_text version all totals) (Some [])) (one_line version entry) (one_line version second)
    (begins version (entry ∷ records) sums rest text e) (begins version (second ∷ all) (Some totals) [] text f) in
    no_whole version records all sums totals rest its.tail its.first p its.second

pub one_faulty_line : OneFaultyLine
one_faulty_line = (
  λ version text number other a b. a.place ∙ ap (λ (n : ℕ). n + 2) (one_count version a.records b.records a.sums b.sums a.rest b.rest text a.front b.front a.faulty b.faulty) ∙ sym b.place,
  λ version text number records totals a e. no_whole version a.records records a.sums totals a.rest text a.front a.faulty (append_nothing (lines_text version records totals) ∙ e),
)
