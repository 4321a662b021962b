-- A line's text is read as that line, and what is read is a line of that text.
use Rattle.std.proofs.Common.{◌≡◌, ◌++◌, ℕ, true, Option, Some, None, List, refl, sym, ap, ◌∙◌, bytes_eq, inl, inr}
use Rattle.std.specs.Prelude.{if◌then◌else◌}
use Rattle.std.specs.List.{list_all}
use Rattle.world_calls.specs.declared.carried_line.CarriedLine.{CarriedLine}
use Rattle.world_calls.specs.declared.trace.Version.{Version}
use Rattle.trace_lines.specs.Reading.{is_black}
use Rattle.trace_lines.specs.Written.{Reads}
use Rattle.trace_lines.proofs.Tests.{joined, parts_of, same_bytes, same_text}
use Rattle.carried_lines.specs.declared.kind.Kind.{Kind}
use Rattle.carried_lines.specs.declared.kind.Kind.TheVariants as kinds
use Rattle.carried_lines.specs.CarriedText.{after_blanks, carried_text, fields_of, kind_of, kind_text}
use Rattle.carried_lines.specs.FieldReading.{cut}
use Rattle.carried_lines.specs.LineReading.{ReadsFields, kind_named}
use Rattle.carried_lines.specs.Laws.{LinesHaveOwnTexts}
use Rattle.carried_lines.proofs.Cuts.{cut_again, cut_whole}
use Rattle.carried_lines.proofs.Fronts.{fields_end}
use Rattle.carried_lines.proofs.EachLine.{chosen}
use Rattle.carried_lines.proofs.FreezeLine.{same_fields}

-- ---- the kind of a word

kind_black : (kind : Kind) → list_all is_black (kind_text kind) ≡ true
kind_black kinds.Numbers = refl
kind_black kind = refl

kind_again : (kind : Kind) → kind_named (kind_text kind) ≡ Some kind
kind_again kinds.Numbers = refl
kind_again kind = refl

one_kind : (this kind : Kind) (word : List ℕ) (others : Option Kind) → (others ≡ Some kind → kind_text kind ≡ word) → (if bytes_eq (kind_text this) word then Some this else others) ≡ Some kind → kind_text kind ≡ word
one_kind this kind word others other e =
    elim (chosen (bytes_eq (kind_text this) word) (Some this) others kind e) [
      | inl it ↦ let same : this ≡ kind = cc in ap kind_text (sym same) ∙ same_bytes (kind_text this) word it.0
      | inr it ↦ other it.1
    ]

kind_found : (word : List ℕ) (kind : Kind) → kind_named word ≡ Some kind → kind_text kind ≡ word
kind_found word kind =
    one_kind kinds.Numbers kind word _
    (one_kind kinds.Clock kind word _
    (one_kind kinds.Openings kind word _
    (one_kind kinds.Word kind word _
    (one_kind kinds.Ccb kind word _
    (one_kind kinds.Freeze kind word None (λ none. absurd cc))))))

same_kind : (one other : Kind) → Some one ≡ Some other → one ≡ other
same_kind one other e = cc

-- ---- the line of a text

-- how the text of a line is cut
record IsCutAs (version : Version) (text word fields : List ℕ) (line : CarriedLine) : Type 0 where
  pub named : kind_named word ≡ Some (kind_of line)
  pub fields_are : after_blanks (fields_of version line) ≡ Some fields

cut_as : (version : Version) (text word fields : List ℕ) → (word, fields) ≡ cut text → (line : CarriedLine) → carried_text version line ≡ Some text → IsCutAs version text word fields line
cut_as version text word fields is line e =
    let parts = parts_of (Some (kind_text (kind_of line))) (after_blanks (fields_of version line)) text e in
    let front : kind_text (kind_of line) ≡ parts.0 = same_text (kind_text (kind_of line)) parts.0 parts.2 in
    let whole : text ≡ kind_text (kind_of line) ++ parts.1 = parts.4 ∙ ap (λ (t : List ℕ). t ++ parts.1) (sym front) in
    let found : (word, fields) ≡ (kind_text (kind_of line), parts.1) = is ∙ ap cut whole ∙ cut_again (kind_text (kind_of line)) parts.1 (kind_black (kind_of line)) (fields_end (fields_of version line) parts.1 parts.3) in
    record {
      named = ap (λ (p : List ℕ × List ℕ). kind_named p.0) found ∙ kind_again (kind_of line);
      fields_are = parts.3 ∙ ap (λ (p : List ℕ × List ℕ). Some p.1) (sym found);
    }

module _ (version : Version) (text word fields : List ℕ) (is : (word, fields) ≡ cut text) where
  -- no line begins with such a word
  pub no_kind_reads : kind_named word ≡ None → Reads (carried_text version) text None
  no_kind_reads none = record { said = tt; back = λ line e. let there = (cut_as version text word fields is line e).named in absurd cc }

  module _ (kind : Kind) (named : kind_named word ≡ Some kind) where
    said : (line : CarriedLine) → kind_of line ≡ kind → after_blanks (fields_of version line) ≡ Some fields → carried_text version line ≡ Some text
    said line k e =
        let whole : text ≡ word ++ fields = cut_whole text ∙ ap (λ (p : List ℕ × List ℕ). p.0 ++ p.1) (sym is) in
        joined (Some (kind_text (kind_of line))) (after_blanks (fields_of version line)) word fields (ap Some (ap kind_text k ∙ kind_found word kind named)) e ∙ ap Some (sym whole)

    back : (read : Option CarriedLine) → ReadsFields version kind fields read → (line : CarriedLine) → carried_text version line ≡ Some text → read ≡ Some line
    back read reads line e =
        let its = cut_as version text word fields is line e in
        let same : kind_of line ≡ kind = same_kind (kind_of line) kind (sym its.named ∙ named) in
        reads.back line same its.fields_are

    pub kind_reads : (read : Option CarriedLine) → ReadsFields version kind fields read → Reads (carried_text version) text read
    kind_reads None reads = record { said = tt; back = back None reads }
    kind_reads (Some line) reads = record { said = said line reads.said.0 reads.said.1; back = back (Some line) reads }

-- two lines of one text are one
pub one_line : LinesHaveOwnTexts
one_line version one other text e f =
    let cut_is : ((cut text).0, (cut text).1) ≡ cut text = refl in
    let first = cut_as version text (cut text).0 (cut text).1 cut_is one e in
    let second = cut_as version text (cut text).0 (cut text).1 cut_is other f in
    let same : kind_of other ≡ kind_of one = same_kind (kind_of other) (kind_of one) (sym second.named ∙ first.named) in
    same_fields version (kind_of one) one other (cut text).1 refl same first.fields_are second.fields_are
