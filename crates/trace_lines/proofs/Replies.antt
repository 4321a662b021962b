-- An answer is read as it is printed.
use Rattle.std.proofs.Common.{◌≡◌, ◌<◌, ◌^◌, ◌==◌, ◌||◌, ℕ, Bool, true, false, Option, Some, None, IfSome, List, [], ◌∷◌, ◌++◌, get_or, refl, sym, ap, ◌∙◌, arith, codes, nat_lt, decimal, bytes_eq, append_assoc, append-nil, ◌⊎◌, inl, inr, rules}
use Rattle.std.specs.List.{list_all}
use Rattle.std.specs.Prelude.{find}
use Rattle.std.specs.Option.{option_map}
use Rattle.std.specs.Char.{is_ascii_digit}
use Rattle.std.specs.Fmt.{option_append}
use Rattle.std.proofs.lemmas.Bool.{ltb-true}
use Rattle.std.proofs.lemmas.Bool.Decides.{nat_tests}
use Rattle.ccb.specs.CallRefusalText.{call_refusal_text, refusal_coded, row_of as refusal_row}
use Rattle.ccb.specs.declared.call_refusal.CallRefusal.{CallRefusal}
use Rattle.ccb.specs.declared.call_refusal.RefusalRow.{RefusalRow}
use Rattle.ccb.specs.declared.call_refusal.TheConstants.{REFUSALS}
use Rattle.world_calls.specs.declared.call_answer.CallAnswer.{CallAnswer}
use Rattle.world_calls.specs.declared.call_answer.CallAnswer.TheVariants as answers
use Rattle.trace_lines.specs.declared.table.Form.{Form}
use Rattle.trace_lines.specs.declared.table.Form.TheVariants as forms
use Rattle.trace_lines.specs.declared.table.Row.{Row}
use Rattle.trace_lines.specs.Answers.{named_number_text, advised_answer_text, advised_text, started_text, code_told, refusal_text, form_text, answer_text}
use Rattle.trace_lines.specs.Rows.{may_be}
use Rattle.trace_lines.specs.Texts.{where_true, number_text}
use Rattle.trace_lines.specs.Reading.{IsCut, ends_word, is_black}
use Rattle.trace_lines.specs.Written.{Reads}
use Rattle.trace_lines.proofs.Tests.{passed, both, parts_of, same_text, same_bytes, found_passes, joined}
use Rattle.trace_lines.proofs.Cutting.{cut_once}
use Rattle.trace_lines.proofs.Decimals.{decimal_black, decimal_digits}

cancel : (front a b : List ℕ) → front ++ a ≡ front ++ b → a ≡ b
cancel [] a b e = e
cancel (x ∷ front) a b e = cancel front a b (let tails : front ++ a ≡ front ++ b = cc in tails)

-- ---- a number after its name

named_parts : (name : List ℕ) (number : ℕ) (text : List ℕ) → named_number_text name number ≡ Some text → (y : List ℕ) × (number_text number ≡ Some y) × (text ≡ name ++ y)
named_parts name number text e =
    let parts = parts_of (Some name) (number_text number) text e in
    (parts.1, parts.3, parts.4 ∙ ap (λ (t : List ℕ). t ++ parts.1) (sym (same_text name parts.0 parts.2)))

said_named : (name text inner : List ℕ) (read : Option ℕ) → text ≡ name ++ inner → IfSome read (λ n. number_text n ≡ Some inner) → IfSome read (λ n. named_number_text name n ≡ Some text)
said_named name text inner None front said = tt
said_named name text inner (Some n) front said = ap (option_append (Some name)) said ∙ ap Some (sym front)

pub named_reads : (name text inner : List ℕ) (read : Option ℕ) → text ≡ name ++ inner → Reads number_text inner read → Reads (named_number_text name) text read
named_reads name text inner read front reads = record {
  said = said_named name text inner read front reads.said;
  back = λ n e.
      let parts = named_parts name n text e in
      reads.back n (parts.1 ∙ ap Some (cancel name parts.0 inner (sym parts.2 ∙ front)));
}

pair_same : (run freeze : ℕ) (told : ℕ × ℕ) → run ≡ told.0 → freeze ≡ told.1 → ◌≡◌ {A = Option (ℕ × ℕ)} (Some (run, freeze)) (Some told)
pair_same run freeze told p q = λ i. Some (p i, q i)

-- ---- two numbers, each after its name

-- the first name, and the second one, which begins with a blank
module _ (first second : List ℕ) (text inner word rest : List ℕ) (front : text ≡ first ++ inner) (cut : IsCut inner word rest) where
  abbrev both_text : ℕ × ℕ → Option (List ℕ)
  both_text told = option_append (named_number_text first told.0) (named_number_text (32 ∷ second) told.1)

  both_parts : (told : ℕ × ℕ) → both_text told ≡ Some text → (number_text told.0 ≡ Some word) × (named_number_text (32 ∷ second) told.1 ≡ Some rest)
  both_parts told e =
      let parts = parts_of (named_number_text first told.0) (named_number_text (32 ∷ second) told.1) text e in
      let one = named_parts first told.0 parts.0 parts.2 in
      let two = named_parts (32 ∷ second) told.1 parts.1 parts.3 in
      let whole : first ++ (one.0 ++ parts.1) ≡ first ++ inner =
      sym (append_assoc first one.0 parts.1) ∙ ap (λ (t : List ℕ). t ++ parts.1) (sym one.2) ∙ sym parts.4 ∙ front in
      let digits = passed (nat_lt told.0 (2 ^ 32)) (decimal told.0) one.0 one.1 in
      let fits : told.0 < 2 ^ 64 = omega (arith, ltb-true told.0 (2 ^ 32) digits.0) in
      let joined : one.0 ++ parts.1 ≡ word ++ rest = cancel first (one.0 ++ parts.1) inner whole ∙ cut.whole in
      let ends : ends_word parts.1 ≡ true = ap ends_word two.2 in
      let found = cut_once one.0 word parts.1 rest joined (ap (list_all is_black) (sym digits.1) ∙ decimal_black told.0 fits) ends cut.black cut.ends in
      (one.1 ∙ ap Some found.0, parts.3 ∙ ap Some found.1)

  no_first : Reads number_text word None → Reads both_text text None
  no_first none = record { said = tt; back = λ told e. let there = none.back told.0 (both_parts told e).0 in absurd cc }

  no_second : Reads (named_number_text (32 ∷ second)) rest None → Reads both_text text None
  no_second none = record { said = tt; back = λ told e. let there = none.back told.1 (both_parts told e).1 in absurd cc }

  both_read : (one two : ℕ) → Reads number_text word (Some one) → Reads (named_number_text (32 ∷ second)) rest (Some two) → Reads both_text text (Some (one, two))
  both_read one two reads behind = record {
    said =
        joined (option_append (Some first) (number_text one)) (named_number_text (32 ∷ second) two) (first ++ word) rest (ap (option_append (Some first)) reads.said) behind.said
        ∙ ap Some (append_assoc first word rest ∙ ap (λ (t : List ℕ). first ++ t) (sym cut.whole) ∙ sym front);
    back = λ told e.
        let parts = both_parts told e in
        let a = reads.back told.0 parts.0 in
        let b = behind.back told.1 parts.1 in
        let ones : one ≡ told.0 = cc in
        let twos : two ≡ told.1 = cc in
        pair_same one two told ones twos;
  }

-- a run and its freeze
module _ (text inner word rest : List ℕ) (front : text ≡ codes "run " ++ inner) (cut : IsCut inner word rest) where
  pub no_run : Reads number_text word None → Reads started_text text None
  no_run none = no_first (codes "run ") (codes "freeze ") text inner word rest front cut none

  pub no_freeze : Reads (named_number_text (codes " freeze ")) rest None → Reads started_text text None
  no_freeze none = no_second (codes "run ") (codes "freeze ") text inner word rest front cut none

  pub started_reads : (run freeze : ℕ) → Reads number_text word (Some run) → Reads (named_number_text (codes " freeze ")) rest (Some freeze) → Reads started_text text (Some (run, freeze))
  started_reads run freeze one two = both_read (codes "run ") (codes "freeze ") text inner word rest front cut run freeze one two

-- a CCB and what is advised
module _ (text inner word rest : List ℕ) (front : text ≡ codes "ccb " ++ inner) (cut : IsCut inner word rest) where
  pub no_ccb : Reads number_text word None → Reads advised_text text None
  no_ccb none = no_first (codes "ccb ") (codes "advice ") text inner word rest front cut none

  pub no_advice : Reads (named_number_text (codes " advice ")) rest None → Reads advised_text text None
  no_advice none = no_second (codes "ccb ") (codes "advice ") text inner word rest front cut none

  pub advised_reads : (ccb advice : ℕ) → Reads number_text word (Some ccb) → Reads (named_number_text (codes " advice ")) rest (Some advice) → Reads advised_text text (Some (ccb, advice))
  advised_reads ccb advice one two = both_read (codes "ccb ") (codes "advice ") text inner word rest front cut ccb advice one two

-- ---- what a start is answered

-- a number alone is no two numbers
alone : (text digits : List ℕ) (number : ℕ) (told : ℕ × ℕ) → number_text number ≡ Some digits → text ≡ codes "ccb " ++ digits → advised_text told ≡ Some text → ⊥
alone text digits number told e whole both_e =
    let its = passed (nat_lt number (2 ^ 32)) (decimal number) digits e in
    let fits : number < 2 ^ 64 = omega (arith, ltb-true number (2 ^ 32) its.0) in
    let cut : IsCut digits digits [] = record { whole = sym (append-nil digits); black = ap (list_all is_black) (sym its.1) ∙ decimal_black number fits; ends = refl } in
    let parts = both_parts (codes "ccb ") (codes "advice ") text digits digits [] whole cut told both_e in
    let second = named_parts (codes " advice ") told.1 [] parts.1 in
    let bad : [] ≡ codes " advice " ++ second.0 = second.2 in
    absurd cc

ccb_alone : (number : ℕ) (told : ℕ × ℕ) (text : List ℕ) → named_number_text (codes "ccb ") number ≡ Some text → advised_text told ≡ Some text → ⊥
ccb_alone number told text e both_e =
    let parts = named_parts (codes "ccb ") number text e in
    alone text parts.0 number told parts.1 parts.2 both_e

ccb_in : Option ℕ → Option CallAnswer
ccb_in None = None
ccb_in (Some number) = Some (answers.Ccb (record { 0 = number }))

same_ccb : (a b : ℕ) → ◌≡◌ {A = Option ℕ} (Some a) (Some b) → ◌≡◌ {A = Option CallAnswer} (Some (answers.Ccb (record { 0 = a }))) (Some (answers.Ccb (record { 0 = b })))
unfolding ccb_in
same_ccb a b e = ap ccb_in e

advised_in : Option (ℕ × ℕ) → Option CallAnswer
advised_in None = None
advised_in (Some told) = Some (answers.Advised (record { 0 = told.0 }) told.1)

same_advised : (a b r f : ℕ) → ◌≡◌ {A = Option (ℕ × ℕ)} (Some (a, b)) (Some (r, f)) → ◌≡◌ {A = Option CallAnswer} (Some (answers.Advised (record { 0 = a }) b)) (Some (answers.Advised (record { 0 = r }) f))
unfolding advised_in
same_advised a b r f e = ap advised_in e

one_ccb : (text : List ℕ) (ccb : ℕ) → Reads (named_number_text (codes "ccb ")) text (Some ccb) → (answer : CallAnswer) → form_text forms.Start answer ≡ Some text
    → ◌≡◌ {A = Option CallAnswer} (Some (answers.Ccb (record { 0 = ccb }))) (Some answer)
one_ccb text ccb reads (answers.Ccb other) e = same_ccb ccb other.0 (reads.back other.0 e)
one_ccb text ccb reads (answers.Advised other advice) e = absurd (ccb_alone ccb (other.0, advice) text reads.said e)
one_ccb text ccb reads answer e = absurd cc

pub begun_alone : (text : List ℕ) (ccb : ℕ) → Reads (named_number_text (codes "ccb ")) text (Some ccb) → Reads (form_text forms.Start) text (Some (answers.Ccb (record { 0 = ccb })))
begun_alone text ccb reads = record { said = reads.said; back = λ answer e. one_ccb text ccb reads answer e }

one_advised : (text : List ℕ) (ccb advice : ℕ) → Reads advised_text text (Some (ccb, advice)) → (answer : CallAnswer) → advised_answer_text answer ≡ Some text
    → ◌≡◌ {A = Option CallAnswer} (Some (answers.Advised (record { 0 = ccb }) advice)) (Some answer)
one_advised text ccb advice reads (answers.Advised other told) e = same_advised ccb advice other.0 told (reads.back (other.0, told) e)
one_advised text ccb advice reads answer e = absurd cc

pub with_advice_some : (text : List ℕ) (ccb advice : ℕ) → Reads advised_text text (Some (ccb, advice)) → Reads advised_answer_text text (Some (answers.Advised (record { 0 = ccb }) advice))
with_advice_some text ccb advice reads = record { said = reads.said; back = λ answer e. one_advised text ccb advice reads answer e }

not_advised : (text : List ℕ) → Reads advised_text text None → (answer : CallAnswer) → advised_answer_text answer ≡ Some text → ⊥
not_advised text none (answers.Advised ccb advice) e = let there = none.back (ccb.0, advice) e in absurd cc
not_advised text none answer e = absurd cc

pub with_advice_none : (text : List ℕ) → Reads advised_text text None → Reads advised_answer_text text None
with_advice_none text none = record { said = tt; back = λ answer e. absurd (not_advised text none answer e) }

-- where no number stands alone

said_begun : (text : List ℕ) (read : Option CallAnswer) → IfSome read (λ answer. advised_answer_text answer ≡ Some text) → IfSome read (λ answer. form_text forms.Start answer ≡ Some text)
said_begun text None said = tt
said_begun text (Some (answers.Advised ccb advice)) said = said
said_begun text (Some answer) said = absurd cc

back_begun : (text : List ℕ) (read : Option CallAnswer) → Reads (named_number_text (codes "ccb ")) text None → Reads advised_answer_text text read → (answer : CallAnswer) → form_text forms.Start answer ≡ Some text → read ≡ Some answer
back_begun text read none reads (answers.Ccb ccb) e = let there = none.back ccb.0 e in absurd cc
back_begun text read none reads (answers.Advised ccb advice) e = reads.back (answers.Advised ccb advice) e
back_begun text read none reads answer e = absurd cc

pub begun_advised : (text : List ℕ) (read : Option CallAnswer) → Reads (named_number_text (codes "ccb ")) text None → Reads advised_answer_text text read → Reads (form_text forms.Start) text read
begun_advised text read none reads = record {
  said = said_begun text read reads.said;
  back = λ answer e. back_begun text read none reads answer e;
}

-- ---- what a call that is completed is answered

clash : (text : List ℕ) → bytes_eq text (codes "done") ≡ false → codes "done" ≡ text → ⊥
clash text other is = let same : bytes_eq (codes "done") (codes "done") ≡ false = ap (λ (l : List ℕ). bytes_eq l (codes "done")) is ∙ other in absurd cc

answer_in : Option (ℕ × ℕ) → Option CallAnswer
answer_in None = None
answer_in (Some told) = Some (answers.Started told.0 told.1)

pair_answer : (a b r f : ℕ) → ◌≡◌ {A = Option (ℕ × ℕ)} (Some (a, b)) (Some (r, f)) → ◌≡◌ {A = Option CallAnswer} (Some (answers.Started a b)) (Some (answers.Started r f))
unfolding answer_in
pair_answer a b r f e = ap answer_in e

no_answer : (text : List ℕ) → bytes_eq text (codes "done") ≡ false → Reads started_text text None → (answer : CallAnswer) → form_text forms.Completed answer ≡ Some text → ⊥
no_answer text other none answers.Done e = clash text other (same_text (codes "done") text e)
no_answer text other none (answers.Started run freeze) e = let there = none.back (run, freeze) e in absurd cc
no_answer text other none answer e = absurd cc

one_answer : (text : List ℕ) (run freeze : ℕ) → bytes_eq text (codes "done") ≡ false → Reads started_text text (Some (run, freeze)) → (answer : CallAnswer) → form_text forms.Completed answer ≡ Some text
    → ◌≡◌ {A = Option CallAnswer} (Some (answers.Started run freeze)) (Some answer)
one_answer text run freeze other reads answers.Done e = absurd (clash text other (same_text (codes "done") text e))
one_answer text run freeze other reads (answers.Started r f) e = pair_answer run freeze r f (reads.back (r, f) e)
one_answer text run freeze other reads answer e = absurd cc

pub completed_none : (text : List ℕ) → bytes_eq text (codes "done") ≡ false → Reads started_text text None → Reads (form_text forms.Completed) text None
completed_none text other none = record { said = tt; back = λ answer e. absurd (no_answer text other none answer e) }

pub completed_some : (text : List ℕ) (run freeze : ℕ) → bytes_eq text (codes "done") ≡ false → Reads started_text text (Some (run, freeze)) → Reads (form_text forms.Completed) text (Some (answers.Started run freeze))
completed_some text run freeze other reads = record { said = reads.said; back = λ answer e. one_answer text run freeze other reads answer e }

-- ---- a refusal or another answer

-- refusals have capital letters
abbrev capital : List ℕ → Bool
capital text = get_or text 0 0 == 67 || get_or text 0 0 == 81

one_digit : (c : ℕ) → is_ascii_digit c ≡ true → (c == 67 || c == 81) ≡ false
one_digit c h = grind (arith, nat_tests)

digit_first : (word : List ℕ) → list_all is_ascii_digit word ≡ true → capital word ≡ false
digit_first [] h = refl
digit_first (c ∷ word) h = one_digit c (both (is_ascii_digit c) (list_all is_ascii_digit word) h).0

number_first : (number : ℕ) (text : List ℕ) → number_text number ≡ Some text → capital text ≡ false
number_first number text e =
    let told = passed (nat_lt number (2 ^ 32)) (decimal number) text e in
    let fits : number < 2 ^ 64 = omega (arith, ltb-true number (2 ^ 32) told.0) in
    ap capital (sym told.1) ∙ digit_first (decimal number) (decimal_digits number fits)

first_told : (form : Form) (answer : CallAnswer) (text : List ℕ) → form_text form answer ≡ Some text → capital text ≡ false
first_told forms.Ccb (answers.Ccb ccb) text e = ap capital (named_parts (codes "ccb ") ccb.0 text e).2
first_told forms.Start (answers.Ccb ccb) text e = ap capital (named_parts (codes "ccb ") ccb.0 text e).2
first_told forms.Start (answers.Advised ccb advice) text e =
    let parts = parts_of (named_number_text (codes "ccb ") ccb.0) (named_number_text (codes " advice ") advice) text e in
    ap capital (parts.4 ∙ ap (λ (t : List ℕ). t ++ parts.1) (named_parts (codes "ccb ") ccb.0 parts.0 parts.2).2)
first_told forms.Completed answers.Done text e = ap capital (sym (same_text (codes "done") text e))
first_told forms.Completed (answers.Started run freeze) text e =
    let parts = parts_of (named_number_text (codes "run ") run) (named_number_text (codes " freeze ") freeze) text e in
    ap capital (parts.4 ∙ ap (λ (t : List ℕ). t ++ parts.1) (named_parts (codes "run ") run parts.0 parts.2).2)
first_told forms.Freeze (answers.Freeze freeze) text e = ap capital (named_parts (codes "freeze ") freeze text e).2
first_told forms.Left (answers.Left count) text e = number_first count text e
first_told forms.Went (answers.Removed count) text e = number_first count text e
first_told forms.Ok answers.Ok text e = ap capital (sym (same_text (codes "ok") text e))
first_told form answer text e = absurd cc

capital_code : (refusal : CallRefusal) → capital (call_refusal_text refusal) ≡ true
unfolding refusal_row
capital_code refusal = search rules

first_code : (refusal : CallRefusal) (text : List ℕ) → code_told refusal ≡ Some text → capital text ≡ true
first_code refusal text e = ap capital (sym (same_text (call_refusal_text refusal) text e)) ∙ capital_code refusal

-- what is no refusal is not spelled as one
no_code : (row : Row) (answer : CallAnswer) (refusal : CallRefusal) (text : List ℕ) → form_text row.form answer ≡ Some text → refusal_text row refusal ≡ Some text → ⊥
no_code row answer refusal text e f =
    let told = passed (may_be row refusal) (call_refusal_text refusal) text f in
    let a = first_told row.form answer text e in
    let b = first_code refusal text (ap Some told.1) in
    absurd cc

-- an answer is a refusal, or of its form
abbrev Told : Row → List ℕ → CallAnswer → Type 0
Told row text answer = ((refusal : CallRefusal) × (answer ≡ answers.Refused refusal) × (refusal_text row refusal ≡ Some text)) ⊎ (form_text row.form answer ≡ Some text)

told_of : (row : Row) (answer : CallAnswer) (text : List ℕ) → answer_text row answer ≡ Some text → Told row text answer
told_of row (answers.Refused refusal) text e = inl (refusal, refl, e)
told_of row answer text e = inr e

no_refusal : (form : Form) (refusal : CallRefusal) (text : List ℕ) → form_text form (answers.Refused refusal) ≡ Some text → ⊥
no_refusal forms.Ccb refusal text e = absurd cc
no_refusal forms.Start refusal text e = absurd cc
no_refusal forms.Completed refusal text e = absurd cc
no_refusal forms.Freeze refusal text e = absurd cc
no_refusal forms.Left refusal text e = absurd cc
no_refusal forms.Went refusal text e = absurd cc
no_refusal forms.Ok refusal text e = absurd cc
no_refusal forms.R0 refusal text e = absurd cc

told_as : (row : Row) (answer : CallAnswer) (text : List ℕ) → form_text row.form answer ≡ Some text → answer_text row answer ≡ Some text
told_as row (answers.Refused refusal) text e = absurd (no_refusal row.form refusal text e)
told_as row (answers.Ccb ccb) text e = e
told_as row (answers.Advised ccb advice) text e = e
told_as row answers.Done text e = e
told_as row (answers.Started run freeze) text e = e
told_as row (answers.Freeze freeze) text e = e
told_as row (answers.Left count) text e = e
told_as row (answers.Removed count) text e = e
told_as row answers.Ok text e = e

back_refused : (row : Row) (text : List ℕ) (refusal : CallRefusal) → Reads (refusal_text row) text (Some refusal) → (answer : CallAnswer) → Told row text answer → ◌≡◌ {A = Option CallAnswer} (Some (answers.Refused refusal)) (Some answer)
back_refused row text refusal reads answer told = elim told [
  | inl other ↦ let same = reads.back other.0 other.2 in let its : refusal ≡ other.0 = cc in ap (λ (r : CallRefusal). Some (answers.Refused r)) its ∙ ap Some (sym other.1)
  | inr e ↦ absurd (no_code row answer refusal text e reads.said)
]

pub refused_reads : (row : Row) (text : List ℕ) (refusal : CallRefusal) → Reads (refusal_text row) text (Some refusal) → Reads (answer_text row) text (Some (answers.Refused refusal))
refused_reads row text refusal reads = record {
  said = reads.said;
  back = λ answer e. back_refused row text refusal reads answer (told_of row answer text e);
}

said_formed : (row : Row) (text : List ℕ) (read : Option CallAnswer) → IfSome read (λ answer. form_text row.form answer ≡ Some text) → IfSome read (λ answer. answer_text row answer ≡ Some text)
said_formed row text None said = tt
said_formed row text (Some answer) said = told_as row answer text said

back_formed : (row : Row) (text : List ℕ) (read : Option CallAnswer) → Reads (refusal_text row) text None → Reads (form_text row.form) text read → (answer : CallAnswer) → Told row text answer → read ≡ Some answer
back_formed row text read none reads answer told = elim told [
  | inl other ↦ let there = none.back other.0 other.2 in absurd cc
  | inr e ↦ reads.back answer e
]

pub formed_reads : (row : Row) (text : List ℕ) (read : Option CallAnswer) → Reads (refusal_text row) text None → Reads (form_text row.form) text read → Reads (answer_text row) text read
formed_reads row text read none reads = record {
  said = said_formed row text read reads.said;
  back = λ answer e. back_formed row text read none reads answer (told_of row answer text e);
}

-- ---- a refusal by its code

coded_again : (refusal : CallRefusal) → refusal_coded (call_refusal_text refusal) ≡ Some refusal
unfolding refusal_coded refusal_row
coded_again refusal = search rules

said_coded : (text : List ℕ) (o : Option RefusalRow) → find (λ (row : RefusalRow). bytes_eq (call_refusal_text row.refusal) text) REFUSALS ≡ o → IfSome (option_map (λ (row : RefusalRow). row.refusal) o) (λ refusal. code_told refusal ≡ Some text)
said_coded text None e = tt
said_coded text (Some row) e = ap Some (same_bytes (call_refusal_text row.refusal) text (found_passes (λ (row : RefusalRow). bytes_eq (call_refusal_text row.refusal) text) REFUSALS row e))

pub coded_reads : (text : List ℕ) → Reads code_told text (refusal_coded text)
unfolding refusal_coded
coded_reads text = record {
  said = said_coded text _ refl;
  back = λ refusal e. ap refusal_coded (sym (same_text (call_refusal_text refusal) text e)) ∙ coded_again refusal;
}

-- ---- the row's own refusals

pub own_refusal : (row : Row) (text : List ℕ) (refusal : CallRefusal) → may_be row refusal ≡ true → Reads code_told text (Some refusal) → Reads (refusal_text row) text (Some refusal)
own_refusal row text refusal there reads = record {
  said = ap (λ (b : Bool). where_true b (call_refusal_text refusal)) there ∙ reads.said;
  back = λ other e. reads.back other (ap Some (passed (may_be row other) (call_refusal_text other) text e).1);
}

pub another_refusal : (row : Row) (text : List ℕ) (refusal : CallRefusal) → may_be row refusal ≡ false → Reads code_told text (Some refusal) → Reads (refusal_text row) text None
another_refusal row text refusal absent reads = record {
  said = tt;
  back = λ other e.
      let told = passed (may_be row other) (call_refusal_text other) text e in
      let same = reads.back other (ap Some told.1) in
      let its : refusal ≡ other = cc in
      let there : may_be row refusal ≡ true = ap (may_be row) its ∙ told.0 in
      absurd cc;
}
