-- A record is read of its line, and then it is of the version or not.
use Rattle.std.proofs.Common.{◌≡◌, ◌≢◌, ℕ, Bool, true, false, Option, Some, None, IfSome, List, ◌++◌, refl, sym, ap, ◌∙◌, codes, cond, unwrap_or}
use Rattle.std.specs.List.{list_all}
use Rattle.std.specs.Fmt.{option_append}
use Rattle.world_calls.specs.declared.record.Record.{Record}
use Rattle.world_calls.specs.declared.record.Record.TheVariants.{Called, Advance}
use Rattle.world_calls.specs.declared.trace.Version.{Version}
use Rattle.trace_lines.specs.Calls.{word_of}
use Rattle.trace_lines.specs.Lines.{line_text}
use Rattle.trace_lines.specs.Reading.{ReadsLine}
use Rattle.trace_lines.specs.Rows.{row_of}
use Rattle.trace_lines.specs.Written.{Reads}
use Rattle.trace_lines.specs.declared.kind.Slots.{Slots}
use Rattle.trace_lines.specs.declared.value.Value.{Value}
use Rattle.trace_lines.specs.declared.word.Word.{Word}
use Rattle.trace_lines.proofs.Plain.{IsPlain, plain_line, plain_answer, plain_long_number}
use Rattle.trace_lines.proofs.Tests.{parts_of, same_text, joined}
use Rattle.trace.specs.Reading.{ReadsAnswered}
use Rattle.trace.specs.TraceText.{asked_of, told_text, line_of, entry_text}
use Rattle.trace.specs.Versions.{is_of}
use Rattle.trace.proofs.Cuts.{is_in_line, IsOneLine, line_of_plain, line_both, asked_and_told}

abbrev asked_text : Record → Option (List ℕ)
asked_text entry = line_text (asked_of entry).0 (asked_of entry).1

plain_asked : (entry : Record) → IsPlain (asked_text entry)
plain_asked entry = plain_line (asked_of entry).0 (asked_of entry).1

plain_told : (entry : Record) → IsPlain (told_text entry)
plain_told (Called answer call) = plain_answer (row_of (word_of call)) answer
plain_told (Advance run instructions stop r0) = plain_long_number r0

record Parts (entry : Record) (line : List ℕ) : Type 0 where
  asked : List ℕ
  told : List ℕ
  first : asked_text entry ≡ Some asked
  second : told_text entry ≡ Some told
  whole : line ≡ asked ++ (codes " = " ++ told)

parts : (entry : Record) (line : List ℕ) → line_of entry ≡ Some line → Parts entry line
parts entry line e =
    let a = parts_of (asked_text entry) (option_append (Some (codes " = ")) (told_text entry)) line e in
    let b = parts_of (Some (codes " = ")) (told_text entry) a.1 a.3 in
    record {
      asked = a.0;
      told = b.1;
      first = a.2;
      second = b.3;
      whole = a.4 ∙ ap (λ (t : List ℕ). a.0 ++ t) (b.4 ∙ ap (λ (t : List ℕ). t ++ b.1) (sym (same_text (codes " = ") b.0 b.2)));
    }

-- a record's line is one line
is_one_line : (entry : Record) (line : List ℕ) → line_of entry ≡ Some line → IsOneLine line
is_one_line entry line e =
    let p = parts entry line e in
    let asked = line_of_plain p.asked (plain_asked entry p.asked p.first) in
    let told = line_of_plain p.told (plain_told entry p.told p.second) in
    let behind = line_both (codes " = ") p.told refl told in
    ap (λ (t : List ℕ). list_all is_in_line t) p.whole ∙ line_both p.asked (codes " = " ++ p.told) asked behind

-- without ` = ` there is no record
pub unanswered : (line : List ℕ) → ((xs ys : List ℕ) → line ≢ xs ++ (codes " = " ++ ys)) → Reads line_of line None
unanswered line apart = record {
  said = tt;
  back = λ entry e. let p = parts entry line e in absurd (apart p.asked p.told p.whole);
}

module _ (line asked told : List ℕ) (whole : line ≡ asked ++ (codes " = " ++ told)) where
  same_parts : (entry : Record) → line_of entry ≡ Some line → (asked_text entry ≡ Some asked) × (told_text entry ≡ Some told)
  same_parts entry e =
      let p = parts entry line e in
      let found = (asked_and_told line asked told whole).once p.asked p.told (plain_asked entry p.asked p.first) (plain_told entry p.told p.second) p.whole in
      (p.first ∙ ap Some (sym found.0), p.second ∙ ap Some (sym found.1))

  -- what is asked is no line
  pub unasked : ReadsLine asked None → Reads line_of line None
  unasked none = record {
    said = tt;
    back = λ entry e.
        let there = none.back (asked_of entry).0 (asked_of entry).1 (same_parts entry e).0 in
        absurd cc;
  }

  module _ (word : Word) (held : Slots Value) (reads : ReadsLine asked (Some (word, held))) where
    said_entry : (read : Option Record) → IfSome read (λ entry. (asked_of entry ≡ (word, held)) × (told_text entry ≡ Some told)) → IfSome read (λ entry. line_of entry ≡ Some line)
    said_entry None said = tt
    said_entry (Some entry) said =
        let line_is : asked_text entry ≡ Some asked = ap (λ (it : Word × Slots Value). line_text it.0 it.1) said.0 ∙ reads.said in
        let reply_is : option_append (Some (codes " = ")) (told_text entry) ≡ Some (codes " = " ++ told) = ap (option_append (Some (codes " = "))) said.1 in
        joined (asked_text entry) (option_append (Some (codes " = ")) (told_text entry)) asked (codes " = " ++ told) line_is reply_is ∙ ap Some (sym whole)

    asked_same : (entry : Record) → asked_text entry ≡ Some asked → asked_of entry ≡ (word, held)
    asked_same entry e =
        let same = reads.back (asked_of entry).0 (asked_of entry).1 e in
        sym (ap (λ (o : Option (Word × Slots Value)). unwrap_or o (word, held)) same)

    -- what was asked and answered is the record of the line
    pub answered : (read : Option Record) → ReadsAnswered word held told read → Reads line_of line read
    answered read its = record {
      said = said_entry read its.said;
      back = λ entry e.
          let p = same_parts entry e in
          its.back entry (asked_same entry p.0) p.1;
    }

-- ---- of the version

chosen : (test : Bool) (told : Option (List ℕ)) (line : List ℕ) → cond test told None ≡ Some line → (test ≡ true) × (told ≡ Some line)
chosen true told line e = (refl, e)
chosen false told line e = absurd (let none : None ≡ Some line = e in cc)

module _ (version : Version) where
  -- a record that has a text there is of the version
  pub of_entry : (entry : Record) (line : List ℕ) → entry_text version entry ≡ Some line → (is_of version entry ≡ true) × (line_of entry ≡ Some line)
  of_entry entry line e = chosen (is_of version entry) (line_of entry) line e

  pub one_line : (entry : Record) (line : List ℕ) → entry_text version entry ≡ Some line → IsOneLine line
  one_line entry line e = is_one_line entry line (of_entry entry line e).1

  module _ (line : List ℕ) where
    pub unread : Reads line_of line None → Reads (entry_text version) line None
    unread none = record { said = tt; back = λ entry e. none.back entry (of_entry entry line e).1 }

    module _ (entry : Record) (reads : Reads line_of line (Some entry)) where
      same : (other : Record) → entry_text version other ≡ Some line → entry ≡ other
      same other e = let there = reads.back other (of_entry other line e).1 in cc

      by_test : (test : Bool) → is_of version entry ≡ test → Reads (entry_text version) line (cond test (Some entry) None)
      by_test true of = record {
        said = ap (λ (b : Bool). cond b (line_of entry) None) of ∙ reads.said;
        back = λ other e. ap Some (same other e);
      }
      by_test false of = record {
        said = tt;
        back = λ other e. let clash : false ≡ true = sym of ∙ (ap (is_of version) (same other e) ∙ (of_entry other line e).0) in absurd cc;
      }

      -- the record of the line, where it is of the version
      pub read_of : Reads (entry_text version) line (cond (is_of version entry) (Some entry) None)
      read_of = by_test (is_of version entry) refl
