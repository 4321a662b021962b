-- Nothing that is written has a line feed or an equals sign.
use Rattle.std.proofs.Common.{◌≡◌, ◌<◌, ◌^◌, ◌/◌, ◌%◌, ◌==◌, ◌&&◌, not, ℕ, Bool, true, false, Option, Some, None, List, [], ◌∷◌, ◌++◌, refl, sym, ap, ◌∙◌, arith, codes, nat_lt, nat_le, decimal, rules}
use Rattle.std.specs.Prelude.{flat_map}
use Rattle.std.specs.Char.{is_ascii_digit}
use Rattle.std.specs.List.{list_all}
use Rattle.std.specs.Fmt.{option_append, digit_glyph}
use Rattle.std.proofs.lemmas.Bool.{ltb-true}
use Rattle.std.proofs.lemmas.Bool.Decides.{nat_tests}
use Rattle.std.proofs.lemmas.List.Folds.{list_all-append}
use Rattle.std.proofs.lemmas.List.Concat.{flat_map-cons}
use Rattle.ccb.specs.Status.{code_of}
use Rattle.ccb.specs.CallRefusalText.{call_refusal_text, row_of as refusal_row}
use Rattle.world_calls.specs.declared.call_answer.CallAnswer.{CallAnswer}
use Rattle.world_calls.specs.declared.call_answer.CallAnswer.TheVariants as answers
use Rattle.ccb.specs.declared.call_refusal.CallRefusal.{CallRefusal}
use Rattle.helpers.specs.Table.{number_of}
use Rattle.helpers.specs.declared.table.Helper.{Helper}
use Rattle.trace_lines.specs.Answers.{named_number_text, form_text, answer_text}
use Rattle.trace_lines.specs.Calls.{word_text}
use Rattle.trace_lines.specs.Lines.{may_lack, slot_text, fields_text, line_text}
use Rattle.trace_lines.specs.Rows.{row_of, may_be}
use Rattle.trace_lines.specs.Texts.{where_true, pair_text, is_byte, bytes_text, sense_text, code_text, number_text, long_number_text, helper_text, stop_text, field_text, told_by, tells_name, tells_bytes, tells_code}
use Rattle.trace_lines.specs.declared.kind.Kind.{Kind}
use Rattle.trace_lines.specs.declared.kind.Kind.TheVariants as kinds
use Rattle.trace_lines.specs.declared.kind.Slots.{Slots}
use Rattle.trace_lines.specs.declared.table.Form.{Form}
use Rattle.trace_lines.specs.declared.table.Form.TheVariants as forms
use Rattle.trace_lines.specs.declared.table.Row.{Row}
use Rattle.trace_lines.specs.declared.value.Stop.{Stop}
use Rattle.trace_lines.specs.declared.value.Stop.TheVariants as stops
use Rattle.trace_lines.specs.declared.value.Value.{Value}
use Rattle.trace_lines.specs.declared.value.Value.TheVariants as values
use Rattle.trace_lines.specs.declared.word.Word.{Word}
use Rattle.trace_lines.proofs.Decimals.{decimal_digits}
use Rattle.trace_lines.proofs.Stops.{small}
use Rattle.trace_lines.proofs.Tests.{passed, both, parts_of, same_text}

-- no line feed, which is 10, and no equals sign, which is 61
abbrev pub is_plain : ℕ → Bool
is_plain byte = not (byte == 10) && not (byte == 61)

abbrev pub ArePlain : List ℕ → Type 0
ArePlain text = list_all is_plain text ≡ true

-- a text that there is has neither
abbrev pub IsPlain : Option (List ℕ) → Type 0
IsPlain told = (text : List ℕ) → told ≡ Some text → ArePlain text

pub plain_both : (xs ys : List ℕ) → ArePlain xs → ArePlain ys → ArePlain (xs ++ ys)
plain_both xs ys p q = list_all-append is_plain xs ys ∙ rw (p, q) refl

pub plain_text : (text : List ℕ) → ArePlain text → IsPlain (Some text)
plain_text text p told e = ap (list_all is_plain) (sym (same_text text told e)) ∙ p

pub plain_append : (a b : Option (List ℕ)) → IsPlain a → IsPlain b → IsPlain (option_append a b)
plain_append a b p q text e =
    let parts = parts_of a b text e in
    ap (list_all is_plain) parts.4 ∙ plain_both parts.0 parts.1 (p parts.0 parts.2) (q parts.1 parts.3)

plain_where : (test : Bool) (text : List ℕ) → (test ≡ true → ArePlain text) → IsPlain (where_true test text)
plain_where test text p told e = let its = passed test text told e in ap (list_all is_plain) (sym its.1) ∙ p its.0

-- ---- digits

plain_digit : (c : ℕ) → is_ascii_digit c ≡ true → is_plain c ≡ true
plain_digit c h = grind (arith, nat_tests)

plain_digits : (word : List ℕ) → list_all is_ascii_digit word ≡ true → ArePlain word
plain_digits [] h = refl
plain_digits (c ∷ word) h = let parts = both (is_ascii_digit c) (list_all is_ascii_digit word) h in rw (plain_digit c parts.0, plain_digits word parts.1) refl

plain_decimal : (number : ℕ) → number < 2 ^ 64 → ArePlain (decimal number)
plain_decimal number fits = plain_digits (decimal number) (decimal_digits number fits)

by_size : (digit : ℕ) (small : Bool) → nat_lt digit 10 ≡ small → is_plain (digit_glyph false digit) ≡ true
by_size digit true e = rw e (grind (arith, nat_tests))
by_size digit false e = rw e (grind (arith, nat_tests))

plain_pair : (byte : ℕ) → ArePlain (pair_text byte)
plain_pair byte = rw (by_size (byte / 16) (nat_lt (byte / 16) 10) refl, by_size (byte % 16) (nat_lt (byte % 16) 10) refl) refl

plain_pairs : (bytes : List ℕ) → ArePlain (flat_map pair_text bytes)
plain_pairs [] = refl
plain_pairs (b ∷ bytes) = ap (list_all is_plain) (flat_map-cons pair_text b bytes) ∙ plain_both (pair_text b) (flat_map pair_text bytes) (plain_pair b) (plain_pairs bytes)

-- ---- fields

pub plain_number : (number : ℕ) → IsPlain (number_text number)
plain_number number = plain_where (nat_lt number (2 ^ 32)) (decimal number) (λ h. plain_decimal number (omega (arith, ltb-true number (2 ^ 32) h)))

pub plain_long_number : (number : ℕ) → IsPlain (long_number_text number)
plain_long_number number = plain_where (nat_lt number (2 ^ 64)) (decimal number) (λ h. plain_decimal number (ltb-true number (2 ^ 64) h))

plain_bytes : (bytes : List ℕ) → IsPlain (bytes_text bytes)
plain_bytes bytes = plain_where _ (flat_map pair_text bytes) (λ h. plain_pairs bytes)

plain_sense : (bytes : List ℕ) → IsPlain (sense_text bytes)
plain_sense [] = plain_text (codes "-") refl
plain_sense (b ∷ bytes) = plain_bytes (b ∷ bytes)

plain_helper : (helper : Helper) → ArePlain (helper_text helper)
plain_helper helper = plain_both (codes "helper ") (decimal (number_of helper)) refl (plain_decimal (number_of helper) (omega (arith, small helper)))

plain_behind : (helper : Helper) → ArePlain (helper_text helper ++ codes " ")
plain_behind helper = plain_both (helper_text helper) (codes " ") (plain_helper helper) refl

plain_stop : (stop : Stop) → IsPlain (stop_text stop)
plain_stop (stops.Helper helper) = plain_where (tells_name (told_by helper)) (helper_text helper) (λ h. plain_helper helper)
plain_stop (stops.Bytes helper bytes) =
    plain_append (where_true (tells_bytes (told_by helper)) (helper_text helper ++ codes " ")) (bytes_text bytes) (plain_where (tells_bytes (told_by helper)) (helper_text helper ++ codes " ") (λ h. plain_behind helper)) (plain_bytes bytes)
plain_stop (stops.Code helper code) =
    plain_append (where_true (tells_code (told_by helper)) (helper_text helper ++ codes " ")) (code_text code) (plain_where (tells_code (told_by helper)) (helper_text helper ++ codes " ") (λ h. plain_behind helper))
    (plain_where (nat_le code 63) (pair_text code) (λ h. plain_pair code))
plain_stop stops.Exit = plain_text (codes "exit") refl

plain_field : (kind : Kind) (value : Value) → IsPlain (field_text kind value)
unfolding field_text
plain_field kinds.Number (values.Number number) = plain_number number
plain_field kinds.LongNumber (values.LongNumber number) = plain_long_number number
plain_field kinds.Instructions (values.Number count) = plain_where (nat_lt 0 count && nat_le count 65536) (decimal count) (λ h. plain_decimal count (grind (arith, nat_tests)))
plain_field kinds.Status (values.Status status) = plain_where (nat_lt 0 (code_of status)) (pair_text (code_of status)) (λ h. plain_pair (code_of status))
plain_field kinds.Byte (values.Byte byte) = plain_where (is_byte byte) (pair_text byte) (λ h. plain_pair byte)
plain_field kinds.Sense (values.Bytes bytes) = plain_sense bytes
plain_field kinds.Stop (values.Stop stop) = plain_stop stop
plain_field kinds.Class (values.Number number) = plain_number number
plain_field kind value = λ text e. absurd cc

plain_slot : (kind : Option Kind) (value : Option Value) → IsPlain (slot_text kind value)
plain_slot None None = plain_text [] refl
plain_slot None (Some value) = λ text e. absurd cc
plain_slot (Some kind) None = plain_where (may_lack kind) [] (λ h. refl)
plain_slot (Some kind) (Some value) = plain_append (Some (codes " ")) (field_text kind value) (plain_text (codes " ") refl) (plain_field kind value)

pub plain_fields : (fields : Slots Kind) (held : Slots Value) → IsPlain (fields_text fields held)
unfolding fields_text
plain_fields fields held =
    plain_append (slot_text fields.first held.first) _ (plain_slot fields.first held.first)
    (plain_append (slot_text fields.second held.second) _ (plain_slot fields.second held.second)
    (plain_append (slot_text fields.third held.third) (slot_text fields.fourth held.fourth) (plain_slot fields.third held.third) (plain_slot fields.fourth held.fourth)))

-- ---- a line, and an answer

plain_word : (word : Word) → ArePlain (word_text word)
plain_word word = search rules

pub plain_line : (word : Word) (held : Slots Value) → IsPlain (line_text word held)
plain_line word held = plain_append (Some (word_text word)) (fields_text (row_of word).fields held) (plain_text (word_text word) (plain_word word)) (plain_fields (row_of word).fields held)

plain_named : (name : List ℕ) (number : ℕ) → ArePlain name → IsPlain (named_number_text name number)
plain_named name number p = plain_append (Some name) (number_text number) (plain_text name p) (plain_number number)

plain_form : (form : Form) (answer : CallAnswer) → IsPlain (form_text form answer)
plain_form forms.Ccb (answers.Ccb ccb) = plain_named (codes "ccb ") ccb.0 refl
plain_form forms.Start (answers.Ccb ccb) = plain_named (codes "ccb ") ccb.0 refl
plain_form forms.Start (answers.Advised ccb advice) =
    plain_append (named_number_text (codes "ccb ") ccb.0) (named_number_text (codes " advice ") advice) (plain_named (codes "ccb ") ccb.0 refl) (plain_named (codes " advice ") advice refl)
plain_form forms.Completed answers.Done = plain_text (codes "done") refl
plain_form forms.Completed (answers.Started run freeze) =
    plain_append (named_number_text (codes "run ") run) (named_number_text (codes " freeze ") freeze) (plain_named (codes "run ") run refl) (plain_named (codes " freeze ") freeze refl)
plain_form forms.Freeze (answers.Freeze freeze) = plain_named (codes "freeze ") freeze refl
plain_form forms.Left (answers.Left count) = plain_number count
plain_form forms.Went (answers.Removed count) = plain_number count
plain_form forms.Ok answers.Ok = plain_text (codes "ok") refl
plain_form form answer = λ text e. absurd cc

plain_code : (refusal : CallRefusal) → ArePlain (call_refusal_text refusal)
unfolding refusal_row
plain_code refusal = search rules

pub plain_answer : (row : Row) (answer : CallAnswer) → IsPlain (answer_text row answer)
plain_answer row (answers.Refused refusal) = plain_where (may_be row refusal) (call_refusal_text refusal) (λ h. plain_code refusal)
plain_answer row (answers.Ccb ccb) = plain_form row.form (answers.Ccb ccb)
plain_answer row (answers.Advised ccb advice) = plain_form row.form (answers.Advised ccb advice)
plain_answer row answers.Done = plain_form row.form answers.Done
plain_answer row (answers.Started run freeze) = plain_form row.form (answers.Started run freeze)
plain_answer row (answers.Freeze freeze) = plain_form row.form (answers.Freeze freeze)
plain_answer row (answers.Left count) = plain_form row.form (answers.Left count)
plain_answer row (answers.Removed count) = plain_form row.form (answers.Removed count)
plain_answer row answers.Ok = plain_form row.form answers.Ok
