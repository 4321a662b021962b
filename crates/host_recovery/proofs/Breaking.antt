-- Which line of a segment is the first that is not of the form: the one after the lines that were read.
use Rattle.std.proofs.Common.{◌≡◌, ◌+◌, ℕ, Option, Some, None, List, [], ◌∷◌, ◌++◌, length, inl, inr, refl, ap, sym, subst, ◌∙◌, arith}
use Rattle.std.specs.Fmt.{option_append}
use Rattle.world_calls.specs.declared.carried_line.CarriedLine.{CarriedLine}
use Rattle.world_calls.specs.declared.record.Record.{Record}
use Rattle.world_calls.specs.declared.totals.Totals.{Totals}
use Rattle.world_calls.specs.declared.trace.Version.{Version}
use Rattle.trace_lines.proofs.Tests.{parts_of, same_text}
use Rattle.trace.specs.Reading.{HasNoLine, IsFaultyLine, MayNotFollow, front_lines, front_text}
use Rattle.trace.specs.ShortLines.{IsShort}
use Rattle.trace.specs.TraceText.{header, record_text}
use Rattle.trace.proofs.FirstFaulty.{begins}
use Rattle.trace.proofs.Printing.{append_three}
use Rattle.carried_lines.specs.FirstLine.{continued_header}
use Rattle.carried_lines.specs.InOrder.{AreInOrder, IsFront}
use Rattle.whole_trace.specs.Continued.{BeginsWith, HasNoCarried, carried_texts}
use Rattle.whole_trace.specs.WholeText.{AreOrdered}
use Rattle.whole_trace.proofs.Lines.{not_a_record, not_the_last}
use Rattle.host_recovery.specs.Segments.{IsBrokenIn, MayBeLeft, head_text}
use Rattle.host_recovery.specs.SetupFor.{carried_count}

-- no record and no last line came yet after carried lines
abbrev pub AtFirst : Option (List CarriedLine) → List Record → Option Totals → Type 0
AtFirst None records sums = ⊥
AtFirst (Some lines) (entry ∷ records) sums = ⊥
AtFirst (Some lines) [] (Some totals) = ⊥
AtFirst (Some lines) [] None = Unit {0}

-- after carried lines, no more of them stand here
abbrev pub NoMore : Version → Option (List CarriedLine) → List ℕ → Type 0
NoMore version None text = Unit {0}
NoMore version (Some lines) text = HasNoCarried version text

no_record_first : (version : Version) (entry : Record) (told : Option (List ℕ)) (text : List ℕ) → option_append (record_text version entry) told ≡ Some text → HasNoCarried version text
no_record_first version entry told text e line more f =
    let parts = parts_of (record_text version entry) told text e in
    not_a_record version line more text f entry parts.1 (ap (option_append (record_text version entry)) (sym parts.3) ∙ e)

pub no_more : (version : Version) (carried : Option (List CarriedLine)) (records : List Record) (sums : Option Totals) (left text : List ℕ) → option_append (front_text version records sums) (Some left) ≡ Some text
    → (AtFirst carried records sums → HasNoCarried version left) → NoMore version carried text
no_more version None records sums left text e first = tt
no_more version (Some lines) [] None left text e first = subst (HasNoCarried version) (begins version [] None left text e) (first tt)
no_more version (Some lines) [] (Some totals) left text e first = λ line more f. not_the_last version line more text f totals left (begins version [] (Some totals) left text e)
no_more version (Some lines) (entry ∷ records) sums left text e first = no_record_first version entry (option_append (front_text version records sums) (Some left)) text (begins version (entry ∷ records) sums left text e)

-- the first line, and what stands after it
pub after_continued : (version : Version) (lines : List CarriedLine) (behind text : List ℕ) → option_append (head_text version (Some lines)) (Some behind) ≡ Some text
    → (rest : List ℕ) × (option_append (carried_texts version lines) (Some behind) ≡ Some rest) × (text ≡ continued_header version ++ rest)
after_continued version lines behind text e =
    let there : option_append (Some (continued_header version)) (option_append (carried_texts version lines) (Some behind)) ≡ Some text = sym (append_three (Some (continued_header version)) (carried_texts version lines) (Some behind)) ∙ e in
    let parts = parts_of (Some (continued_header version)) (option_append (carried_texts version lines) (Some behind)) text there in
    (parts.1, parts.3, parts.4 ∙ ap (λ (t : List ℕ). t ++ parts.1) (sym (same_text (continued_header version) parts.0 parts.2)))

-- the text before what is left, and what is left
pub with_left : (head front : Option (List ℕ)) (left read : List ℕ) → option_append head front ≡ Some read
    → (behind : List ℕ) × (option_append front (Some left) ≡ Some behind) × (option_append head (Some behind) ≡ Some (read ++ left))
with_left head front left read e =
    let parts = parts_of head front read e in
    let front_is : option_append front (Some left) ≡ Some (parts.1 ++ left) = ap (λ (t : Option (List ℕ)). option_append t (Some left)) parts.3 in (
      parts.1 ++ left,
      front_is,
      ap (option_append head) (sym front_is) ∙ (sym (append_three head front (Some left)) ∙ ap (λ (t : Option (List ℕ)). option_append t (Some left)) e),
    )

broken_behind : (version : Version) (carried : Option (List CarriedLine)) (records : List Record) (sums : Option Totals) (left behind text : List ℕ) (number : ℕ) → option_append (head_text version carried) (Some behind) ≡ Some text
    → option_append (front_text version records sums) (Some left) ≡ Some behind → AreOrdered carried → NoMore version carried behind → number ≡ carried_count carried + front_lines records sums + 2 → MayNotFollow version sums left → (MayBeLeft sums left → ⊥)
    → IsBrokenIn text number
broken_behind version None records sums left behind text number head front ordered none place faulty cut = inl (record {
  version = version;
  rest = behind;
  whole = sym (same_text (header version ++ behind) text head);
  is = record {
    faulty = record { records = records; sums = sums; rest = left; front = front; place = omega (arith, place); faulty = faulty };
    not_left = cut;
  };
})
broken_behind version (Some lines) records sums left behind text number head front ordered none place faulty cut =
    let its = after_continued version lines behind text head in
    let is : IsFaultyLine version behind (front_lines records sums + 2) = record { records = records; sums = sums; rest = left; front = front; place = refl; faulty = faulty } in
    inr (record {
      version = version;
      rest = its.0;
      whole = its.2;
      is = inr (record {
        faulty = record {
          lines = lines;
          rest = behind;
          front = its.1;
          in_order = ordered;
          no_more = none;
          is = record { place = front_lines records sums + 2; is = is; counted = omega (arith, place) };
        };
        not_left = cut;
      });
    })

-- after the lines of records
pub broken_here : (version : Version) (carried : Option (List CarriedLine)) (records : List Record) (sums : Option Totals) (left read : List ℕ) (number : ℕ) → option_append (head_text version carried) (front_text version records sums) ≡ Some read
    → AreOrdered carried → number ≡ carried_count carried + front_lines records sums + 2 → (AtFirst carried records sums → HasNoCarried version left) → MayNotFollow version sums left → (MayBeLeft sums left → ⊥)
    → IsBrokenIn (read ++ left) number
broken_here version carried records sums left read number is ordered place first faulty cut =
    let its = with_left (head_text version carried) (front_text version records sums) left read is in
    broken_behind version carried records sums left its.0 (read ++ left) number its.2 its.1 ordered (no_more version carried records sums left its.0 its.1 first) place faulty cut

-- where a carried line may stand
pub broken_carried : (version : Version) (lines : List CarriedLine) (left read : List ℕ) (number : ℕ) → head_text version (Some lines) ≡ Some read → IsFront lines → number ≡ length lines + 2
    → ((line : CarriedLine) (more : List ℕ) → BeginsWith version line more left → IsFront (lines ++ line ∷ []) → ⊥) → (AreInOrder lines → HasNoLine version left) → (AreInOrder lines → IsShort left → ⊥)
    → IsBrokenIn (read ++ left) number
broken_carried version lines left read number is front place next after cut =
    let its = after_continued version lines left (read ++ left) (ap (λ (t : Option (List ℕ)). option_append t (Some left)) is) in
    inr (record {
      version = version;
      rest = its.0;
      whole = its.2;
      is = inl (record {
        faulty = record { lines = lines; rest = left; front = its.1; place = place; in_order = front; not_next = next; not_after = after };
        not_left = cut;
      });
    })
