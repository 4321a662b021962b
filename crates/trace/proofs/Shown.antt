-- What a line has: few bytes, and none but those that a line may have.
use Rattle.std.proofs.Common.{◌≡◌, ◌<◌, ◌≤◌, ◌+◌, ◌*◌, ◌^◌, ◌/◌, ◌%◌, ◌&&◌, ℕ, Bool, true, false, Option, Some, None, List, [], ◌∷◌, ◌++◌, length, length-append, refl, sym, ap, ◌∙◌, arith, codes, nat_lt, nat_le, decimal, rules}
use Rattle.std.specs.Prelude.{flat_map}
use Rattle.std.specs.Char.{is_ascii_digit}
use Rattle.std.specs.List.{list_all}
use Rattle.std.specs.Fmt.{option_append, digit_glyph}
use Rattle.std.proofs.lemmas.Bool.{ltb-true}
use Rattle.std.proofs.lemmas.Bool.Decides.{nat_tests}
use Rattle.std.proofs.lemmas.Fmt.{length-decimal-le}
use Rattle.std.proofs.lemmas.List.Folds.{list_all-append}
use Rattle.std.proofs.lemmas.List.Concat.{flat_map-cons}
use Rattle.ccb.specs.Status.{code_of}
use Rattle.ccb.specs.declared.cam_status.CamStatus.{CamStatus}
use Rattle.ccb.specs.CallRefusalText.{call_refusal_text, row_of as refusal_row}
use Rattle.ccb.specs.declared.call_refusal.CallRefusal.{CallRefusal}
use Rattle.helpers.specs.Table.{number_of}
use Rattle.helpers.specs.declared.table.Helper.{Helper}
use Rattle.world_calls.specs.declared.call_answer.CallAnswer.{CallAnswer}
use Rattle.world_calls.specs.declared.call_answer.CallAnswer.TheVariants as answers
use Rattle.world_calls.specs.declared.record.Record.{Record}
use Rattle.world_calls.specs.declared.record.Record.TheVariants.{Called, Advance}
use Rattle.world_calls.specs.declared.totals.Totals.{Totals}
use Rattle.world_calls.specs.declared.trace.Version.{Version}
use Rattle.trace_lines.specs.Answers.{named_number_text, form_text, answer_text}
use Rattle.trace_lines.specs.Calls.{word_of, word_text}
use Rattle.trace_lines.specs.Lines.{may_lack, slot_text, fields_text, line_text}
use Rattle.trace_lines.specs.Rows.{row_of, may_be}
use Rattle.trace_lines.specs.Texts.{where_true, pair_text, is_byte, bytes_text, sense_text, code_text, number_text, long_number_text, helper_text, stop_text, field_text, told_by, tells_name, tells_bytes, tells_code}
use Rattle.trace_lines.specs.declared.kind.Kind.{Kind}
use Rattle.trace_lines.specs.declared.kind.Kind.TheVariants as kinds
use Rattle.trace_lines.specs.declared.kind.Slots.{Slots}
use Rattle.trace_lines.specs.declared.table.Form.{Form}
use Rattle.trace_lines.specs.declared.table.Form.TheVariants as forms
use Rattle.trace_lines.specs.declared.table.Row.{Row}
use Rattle.trace_lines.specs.declared.value.Stop.{Stop}
use Rattle.trace_lines.specs.declared.value.Stop.TheVariants as stops
use Rattle.trace_lines.specs.declared.value.Value.{Value}
use Rattle.trace_lines.specs.declared.value.Value.TheVariants as values
use Rattle.trace_lines.specs.declared.word.Word.{Word}
use Rattle.trace_lines.proofs.Decimals.{decimal_digits}
use Rattle.trace_lines.proofs.Stops.{small}
use Rattle.trace_lines.proofs.Tests.{passed, both, parts_of, same_text}
use Rattle.trace.specs.declared.sums.TheConstants.{SUMS}
use Rattle.trace.specs.ShortLines.{IsShort, LinesAreShort, is_shown}
use Rattle.trace.specs.TraceText.{asked_of, told_text, line_of, entry_text, values_of_sums, sums_text}
use Rattle.trace.proofs.Entries.{of_entry}

abbrev pub AreShown : List ℕ → Type 0
AreShown text = list_all is_shown text ≡ true

-- a text that there is has so many bytes at most, and all are shown
abbrev pub IsFew : ℕ → Option (List ℕ) → Type 0
IsFew most told = (text : List ℕ) → told ≡ Some text → (length text ≤ most) × AreShown text

pub shown_both : (xs ys : List ℕ) → AreShown xs → AreShown ys → AreShown (xs ++ ys)
shown_both xs ys p q = list_all-append is_shown xs ys ∙ rw (p, q) refl

few_text : (most : ℕ) (text : List ℕ) → length text ≤ most → AreShown text → IsFew most (Some text)
few_text most text few shown told e = (omega (arith, few, ap length (same_text text told e)), ap (list_all is_shown) (sym (same_text text told e)) ∙ shown)

few_append : (n m most : ℕ) (a b : Option (List ℕ)) → n + m ≤ most → IsFew n a → IsFew m b → IsFew most (option_append a b)
few_append n m most a b room p q text e =
    let parts = parts_of a b text e in
    let one = p parts.0 parts.2 in
    let two = q parts.1 parts.3 in (
      omega (arith, room, one.0, two.0, ap length parts.4, length-append parts.0 parts.1),
      ap (list_all is_shown) parts.4 ∙ shown_both parts.0 parts.1 one.1 two.1,
    )

few_where : (most : ℕ) (test : Bool) (text : List ℕ) → (test ≡ true → (length text ≤ most) × AreShown text) → IsFew most (where_true test text)
few_where most test text p told e =
    let its = passed test text told e in
    let so = p its.0 in
    (omega (arith, so.0, ap length its.1), ap (list_all is_shown) (sym its.1) ∙ so.1)

-- ---- digits

shown_digit : (c : ℕ) → is_ascii_digit c ≡ true → is_shown c ≡ true
shown_digit c h = grind (arith, nat_tests)

shown_digits : (word : List ℕ) → list_all is_ascii_digit word ≡ true → AreShown word
shown_digits [] h = refl
shown_digits (c ∷ word) h = let parts = both (is_ascii_digit c) (list_all is_ascii_digit word) h in rw (shown_digit c parts.0, shown_digits word parts.1) refl

few_decimal : (number : ℕ) → number < 2 ^ 64 → (length (decimal number) ≤ 20) × AreShown (decimal number)
few_decimal number fits = (length-decimal-le 20 number (omega arith) (omega arith) fits, shown_digits (decimal number) (decimal_digits number fits))

by_size : (digit : ℕ) (small : Bool) → nat_lt digit 10 ≡ small → digit < 26 → is_shown (digit_glyph false digit) ≡ true
by_size digit true e less = rw e (grind (arith, nat_tests))
by_size digit false e less = rw e (grind (arith, nat_tests))

shown_pair : (byte : ℕ) → byte < 256 → AreShown (pair_text byte)
shown_pair byte less = rw (by_size (byte / 16) (nat_lt (byte / 16) 10) refl (omega arith), by_size (byte % 16) (nat_lt (byte % 16) 10) refl (omega arith)) refl

few_pairs : (bytes : List ℕ) → list_all is_byte bytes ≡ true → (length (flat_map pair_text bytes) ≤ 2 * length bytes) × AreShown (flat_map pair_text bytes)
few_pairs [] h = (omega arith, refl)
few_pairs (b ∷ bytes) h =
    let parts = both (is_byte b) (list_all is_byte bytes) h in
    let rest = few_pairs bytes parts.1 in
    let is = flat_map-cons pair_text b bytes in (
      omega (arith, ap length is, length-append (pair_text b) (flat_map pair_text bytes), rest.0),
      ap (list_all is_shown) is ∙ shown_both (pair_text b) (flat_map pair_text bytes) (shown_pair b (ltb-true b 256 parts.0)) rest.1,
    )

-- ---- fields

few_number : (number : ℕ) → IsFew 20 (number_text number)
few_number number = few_where 20 (nat_lt number (2 ^ 32)) (decimal number) (λ h. few_decimal number (omega (arith, ltb-true number (2 ^ 32) h)))

few_long_number : (number : ℕ) → IsFew 20 (long_number_text number)
few_long_number number = few_where 20 (nat_lt number (2 ^ 64)) (decimal number) (λ h. few_decimal number (ltb-true number (2 ^ 64) h))

at_most_64 : (n : ℕ) → nat_le n 64 ≡ true → n ≤ 64
at_most_64 n h = grind (arith, nat_tests)

few_bytes : (bytes : List ℕ) → IsFew 128 (bytes_text bytes)
few_bytes bytes = few_where 128 _ (flat_map pair_text bytes) (λ h.
    let a = both (nat_lt 0 (length bytes) && nat_le (length bytes) 64) (list_all is_byte bytes) h in
    let b = both (nat_lt 0 (length bytes)) (nat_le (length bytes) 64) a.0 in
    let it = few_pairs bytes a.1 in
    (omega (arith, it.0, at_most_64 (length bytes) b.1), it.1))

few_sense : (bytes : List ℕ) → IsFew 128 (sense_text bytes)
few_sense [] = few_text 128 (codes "-") (omega arith) refl
few_sense (b ∷ bytes) = few_bytes (b ∷ bytes)

few_helper : (helper : Helper) → (length (helper_text helper) ≤ 27) × AreShown (helper_text helper)
few_helper helper =
    let it = few_decimal (number_of helper) (omega (arith, small helper)) in
    (omega (arith, it.0, length-append (codes "helper ") (decimal (number_of helper))), shown_both (codes "helper ") (decimal (number_of helper)) refl it.1)

few_behind : (helper : Helper) → (length (helper_text helper ++ codes " ") ≤ 28) × AreShown (helper_text helper ++ codes " ")
few_behind helper =
    let it = few_helper helper in
    (omega (arith, it.0, length-append (helper_text helper) (codes " ")), shown_both (helper_text helper) (codes " ") it.1 refl)

few_stop : (stop : Stop) → IsFew 160 (stop_text stop)
few_stop (stops.Helper helper) = few_where 160 (tells_name (told_by helper)) (helper_text helper) (λ h. let it = few_helper helper in (omega (arith, it.0), it.1))
few_stop (stops.Bytes helper bytes) =
    few_append 28 128 160 (where_true (tells_bytes (told_by helper)) (helper_text helper ++ codes " ")) (bytes_text bytes) (omega arith)
    (few_where 28 (tells_bytes (told_by helper)) (helper_text helper ++ codes " ") (λ h. few_behind helper)) (few_bytes bytes)
few_stop (stops.Code helper code) =
    few_append 28 2 160 (where_true (tells_code (told_by helper)) (helper_text helper ++ codes " ")) (code_text code) (omega arith)
    (few_where 28 (tells_code (told_by helper)) (helper_text helper ++ codes " ") (λ h. few_behind helper))
    (few_where 2 (nat_le code 63) (pair_text code) (λ h. (omega arith, shown_pair code (grind (arith, nat_tests)))))
few_stop stops.Exit = few_text 160 (codes "exit") (omega arith) refl

few_more : (n most : ℕ) (told : Option (List ℕ)) → n ≤ most → IsFew n told → IsFew most told
few_more n most told less few text e = let it = few text e in (omega (arith, it.0, less), it.1)

code_fits : (n : ℕ) → nat_lt 0 n && nat_le n 65536 ≡ true → n < 2 ^ 64
code_fits n h = grind (arith, nat_tests)

status_fits : (status : CamStatus) → code_of status < 256
status_fits status = search rules

abbrev most_of : Kind → ℕ
most_of kinds.Number = 20
most_of kinds.LongNumber = 20
most_of kinds.Instructions = 20
most_of kinds.Status = 2
most_of kinds.Byte = 2
most_of kinds.Sense = 128
most_of kinds.Stop = 160
most_of kinds.Class = 20

few_field : (kind : Kind) (value : Value) → IsFew (most_of kind) (field_text kind value)
unfolding field_text
few_field kinds.Number (values.Number number) = few_number number
few_field kinds.LongNumber (values.LongNumber number) = few_long_number number
few_field kinds.Instructions (values.Number count) = few_where 20 (nat_lt 0 count && nat_le count 65536) (decimal count) (λ h. let it = few_decimal count (code_fits count h) in (omega (arith, it.0), it.1))
few_field kinds.Status (values.Status status) = few_where 2 (nat_lt 0 (code_of status)) (pair_text (code_of status)) (λ h. (omega arith, shown_pair (code_of status) (status_fits status)))
few_field kinds.Byte (values.Byte byte) = few_where 2 (is_byte byte) (pair_text byte) (λ h. (omega arith, shown_pair byte (ltb-true byte 256 h)))
few_field kinds.Sense (values.Bytes bytes) = few_sense bytes
few_field kinds.Stop (values.Stop stop) = few_stop stop
few_field kinds.Class (values.Number number) = few_number number
few_field kind value = λ text e. absurd cc

abbrev slot_most : Option Kind → ℕ
slot_most None = 0
slot_most (Some kind) = 1 + most_of kind

few_slot : (kind : Option Kind) (value : Option Value) → IsFew (slot_most kind) (slot_text kind value)
few_slot None None = few_text 0 [] (omega arith) refl
few_slot None (Some value) = λ text e. absurd cc
few_slot (Some kind) None = few_where (1 + most_of kind) (may_lack kind) [] (λ h. (omega arith, refl))
few_slot (Some kind) (Some value) = few_append 1 (most_of kind) (1 + most_of kind) (Some (codes " ")) (field_text kind value) (omega arith) (few_text 1 (codes " ") (omega arith) refl) (few_field kind value)

abbrev fields_most : Slots Kind → ℕ
fields_most fields = slot_most fields.first + (slot_most fields.second + (slot_most fields.third + slot_most fields.fourth))

few_fields : (fields : Slots Kind) (held : Slots Value) → IsFew (fields_most fields) (fields_text fields held)
unfolding fields_text
few_fields fields held =
    few_append (slot_most fields.first) (slot_most fields.second + (slot_most fields.third + slot_most fields.fourth)) (fields_most fields) (slot_text fields.first held.first) _ (omega arith) (few_slot fields.first held.first)
    (few_append (slot_most fields.second) (slot_most fields.third + slot_most fields.fourth) (slot_most fields.second + (slot_most fields.third + slot_most fields.fourth)) (slot_text fields.second held.second) _ (omega arith) (few_slot fields.second held.second)
    (few_append (slot_most fields.third) (slot_most fields.fourth) (slot_most fields.third + slot_most fields.fourth) (slot_text fields.third held.third) (slot_text fields.fourth held.fourth) (omega arith) (few_slot fields.third held.third) (few_slot fields.fourth held.fourth)))

-- ---- a line, and an answer

shown_word : (word : Word) → AreShown (word_text word)
shown_word word = search rules

short_word : (word : Word) → nat_le (length (word_text word)) 40 ≡ true
short_word word = search rules

at_most_40 : (n : ℕ) → nat_le n 40 ≡ true → n ≤ 40
at_most_40 n h = grind (arith, nat_tests)

short_fields : (word : Word) → nat_le (fields_most (row_of word).fields) 220 ≡ true
unfolding row_of
short_fields word = search rules

at_most_220 : (n : ℕ) → nat_le n 220 ≡ true → n ≤ 220
at_most_220 n h = grind (arith, nat_tests)

few_line : (word : Word) (held : Slots Value) → IsFew 260 (line_text word held)
few_line word held =
    few_append 40 220 260 (Some (word_text word)) (fields_text (row_of word).fields held) (omega arith)
    (few_text 40 (word_text word) (at_most_40 (length (word_text word)) (short_word word)) (shown_word word))
    (few_more (fields_most (row_of word).fields) 220 (fields_text (row_of word).fields held) (at_most_220 (fields_most (row_of word).fields) (short_fields word)) (few_fields (row_of word).fields held))

few_named : (name : List ℕ) (number : ℕ) → length name ≤ 10 → AreShown name → IsFew 30 (named_number_text name number)
few_named name number few p = few_append 10 20 30 (Some name) (number_text number) (omega arith) (few_text 10 name few p) (few_number number)

few_form : (form : Form) (answer : CallAnswer) → IsFew 60 (form_text form answer)
few_form forms.Ccb (answers.Ccb ccb) = few_more 30 60 (named_number_text (codes "ccb ") ccb.0) (omega arith) (few_named (codes "ccb ") ccb.0 (omega arith) refl)
few_form forms.Start (answers.Ccb ccb) = few_more 30 60 (named_number_text (codes "ccb ") ccb.0) (omega arith) (few_named (codes "ccb ") ccb.0 (omega arith) refl)
few_form forms.Start (answers.Advised ccb advice) =
    few_append 30 30 60 (named_number_text (codes "ccb ") ccb.0) (named_number_text (codes " advice ") advice) (omega arith) (few_named (codes "ccb ") ccb.0 (omega arith) refl) (few_named (codes " advice ") advice (omega arith) refl)
few_form forms.Completed answers.Done = few_text 60 (codes "done") (omega arith) refl
few_form forms.Completed (answers.Started run freeze) =
    few_append 30 30 60 (named_number_text (codes "run ") run) (named_number_text (codes " freeze ") freeze) (omega arith) (few_named (codes "run ") run (omega arith) refl) (few_named (codes " freeze ") freeze (omega arith) refl)
few_form forms.Freeze (answers.Freeze freeze) = few_more 30 60 (named_number_text (codes "freeze ") freeze) (omega arith) (few_named (codes "freeze ") freeze (omega arith) refl)
few_form forms.Left (answers.Left count) = few_more 20 60 (number_text count) (omega arith) (few_number count)
few_form forms.Went (answers.Removed count) = few_more 20 60 (number_text count) (omega arith) (few_number count)
few_form forms.Ok answers.Ok = few_text 60 (codes "ok") (omega arith) refl
few_form form answer = λ text e. absurd cc

shown_code : (refusal : CallRefusal) → AreShown (call_refusal_text refusal)
unfolding refusal_row
shown_code refusal = search rules

short_code : (refusal : CallRefusal) → nat_le (length (call_refusal_text refusal)) 40 ≡ true
unfolding refusal_row
short_code refusal = search rules

few_answer : (row : Row) (answer : CallAnswer) → IsFew 60 (answer_text row answer)
few_answer row (answers.Refused refusal) = few_where 60 (may_be row refusal) (call_refusal_text refusal) (λ h. (omega (arith, at_most_40 (length (call_refusal_text refusal)) (short_code refusal)), shown_code refusal))
few_answer row (answers.Ccb ccb) = few_form row.form (answers.Ccb ccb)
few_answer row (answers.Advised ccb advice) = few_form row.form (answers.Advised ccb advice)
few_answer row answers.Done = few_form row.form answers.Done
few_answer row (answers.Started run freeze) = few_form row.form (answers.Started run freeze)
few_answer row (answers.Freeze freeze) = few_form row.form (answers.Freeze freeze)
few_answer row (answers.Left count) = few_form row.form (answers.Left count)
few_answer row (answers.Removed count) = few_form row.form (answers.Removed count)
few_answer row answers.Ok = few_form row.form answers.Ok

few_told : (entry : Record) → IsFew 60 (told_text entry)
few_told (Called answer call) = few_answer (row_of (word_of call)) answer
few_told (Advance run instructions stop r0) = few_more 20 60 (long_number_text r0) (omega arith) (few_long_number r0)

few_line_of : (entry : Record) → IsFew 323 (line_of entry)
few_line_of entry =
    few_append 260 63 323 (line_text (asked_of entry).0 (asked_of entry).1) (option_append (Some (codes " = ")) (told_text entry)) (omega arith) (few_line (asked_of entry).0 (asked_of entry).1)
    (few_append 3 60 63 (Some (codes " = ")) (told_text entry) (omega arith) (few_text 3 (codes " = ") (omega arith) refl) (few_told entry))

few_sums : (totals : Totals) → IsFew 87 (sums_text totals)
few_sums totals = few_append 3 84 87 (Some (codes "end")) (fields_text SUMS (values_of_sums totals)) (omega arith) (few_text 3 (codes "end") (omega arith) refl) (few_fields SUMS (values_of_sums totals))

short_entry : (version : Version) (entry : Record) (line : List ℕ) → entry_text version entry ≡ Some line → IsShort line
short_entry version entry line e = let it = few_line_of entry line (of_entry version entry line e).1 in record { few = omega (arith, it.0); shown = it.1 }

short_sums : (totals : Totals) (line : List ℕ) → sums_text totals ≡ Some line → IsShort line
short_sums totals line e = let it = few_sums totals line e in record { few = omega (arith, it.0); shown = it.1 }

pub lines_are_short : LinesAreShort
lines_are_short = (short_entry, short_sums)
