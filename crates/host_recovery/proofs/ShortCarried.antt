-- A carried line is as short as any line of a trace, and has no other bytes; so what is too long, or no text, is none.
use Rattle.std.proofs.Common.{◌≡◌, ◌<◌, ◌≤◌, ◌+◌, ◌*◌, ◌^◌, ℕ, Bool, true, false, Option, None, Some, List, [], ◌∷◌, ◌++◌, length, length-append, refl, sym, ap, ◌∙◌, arith, codes, nat_lt, decimal, if◌then◌else◌}
use Rattle.std.specs.List.{list_all}
use Rattle.std.specs.Fmt.{option_append}
use Rattle.std.proofs.lemmas.Bool.{ltb-true}
use Rattle.std.proofs.lemmas.Fmt.{length-decimal-le}
use Rattle.std.specs.Char.{is_ascii_digit}
use Rattle.std.proofs.lemmas.Bool.Decides.{nat_tests}
use Rattle.ccb.specs.Places.{kind_word, number_of}
use Rattle.ccb.specs.declared.place.Place.{Place}
use Rattle.ccb.specs.declared.place.Place.TheVariants as places
use Rattle.freeze_ledger.specs.declared.freeze.Holder.{Holder}
use Rattle.freeze_ledger.specs.declared.freeze.Holder.TheVariants as holders
use Rattle.world_calls.specs.declared.carried_line.CarriedLine.{CarriedLine}
use Rattle.world_calls.specs.declared.carried_line.CarriedLine.TheVariants as lines
use Rattle.world_calls.specs.declared.trace.Version.{Version}
use Rattle.trace_lines.specs.Versions.{has_classes}
use Rattle.trace_lines.specs.Texts.{long_number_text, number_text, where_true}
use Rattle.trace_lines.proofs.Decimals.{decimal_digits}
use Rattle.trace_lines.proofs.Tests.{both, parts_of, passed, same_text}
use Rattle.trace.specs.ShortLines.{IsShort, is_shown}
use Rattle.trace.specs.declared.laws.TheConstants.{LONGEST_LINE}
use Rattle.trace.proofs.Cuts.{IsOneLine}
use Rattle.trace.proofs.Shown.{AreShown, IsFew, shown_both}
use Rattle.trace.proofs.SoFar.{cut_line}
use Rattle.carried_lines.specs.CarriedText.{after_blank, after_blanks, carried_text, class_fields, fields_of, has_neither, kind_of, kind_text, state_fields, state_word}
use Rattle.carried_lines.specs.declared.kind.Kind.{Kind}
use Rattle.carried_lines.specs.declared.kind.Kind.TheVariants as kinds
use Rattle.whole_trace.specs.Continued.{HasNoCarried}
use Rattle.host_recovery.proofs.Cutting.{long_line}

few_text : (most : ℕ) (text : List ℕ) → length text ≤ most → AreShown text → IsFew most (Some text)
few_text most text few shown told e = (omega (arith, few, ap length (same_text text told e)), ap (list_all is_shown) (sym (same_text text told e)) ∙ shown)

few_append : (n m most : ℕ) (a b : Option (List ℕ)) → n + m ≤ most → IsFew n a → IsFew m b → IsFew most (option_append a b)
few_append n m most a b room p q text e =
    let parts = parts_of a b text e in
    let one = p parts.0 parts.2 in
    let two = q parts.1 parts.3 in (
      omega (arith, room, one.0, two.0, ap length parts.4, length-append parts.0 parts.1),
      ap (list_all is_shown) parts.4 ∙ shown_both parts.0 parts.1 one.1 two.1,
    )

few_where : (most : ℕ) (test : Bool) (text : List ℕ) → (test ≡ true → (length text ≤ most) × AreShown text) → IsFew most (where_true test text)
few_where most test text p told e =
    let its = passed test text told e in
    let so = p its.0 in
    (omega (arith, so.0, ap length its.1), ap (list_all is_shown) (sym its.1) ∙ so.1)

-- ---- numbers

shown_digit : (c : ℕ) → is_ascii_digit c ≡ true → is_shown c ≡ true
shown_digit c h = grind (arith, nat_tests)

shown_digits : (word : List ℕ) → list_all is_ascii_digit word ≡ true → AreShown word
shown_digits [] h = refl
shown_digits (c ∷ word) h = let parts = both (is_ascii_digit c) (list_all is_ascii_digit word) h in rw (shown_digit c parts.0, shown_digits word parts.1) refl

few_decimal : (number : ℕ) → number < 2 ^ 64 → (length (decimal number) ≤ 20) × AreShown (decimal number)
few_decimal number fits = (length-decimal-le 20 number (omega arith) (omega arith) fits, shown_digits (decimal number) (decimal_digits number fits))

few_number : (number : ℕ) → IsFew 20 (number_text number)
few_number number = few_where 20 (nat_lt number (2 ^ 32)) (decimal number) (λ h. few_decimal number (omega (arith, ltb-true number (2 ^ 32) h)))

few_long_number : (number : ℕ) → IsFew 20 (long_number_text number)
few_long_number number = few_where 20 (nat_lt number (2 ^ 64)) (decimal number) (λ h. few_decimal number (ltb-true number (2 ^ 64) h))

-- ---- fields

-- each of these fields has 20 bytes at most
abbrev AllFew : List (Option (List ℕ)) → Type 0
AllFew [] = Unit {0}
AllFew (field ∷ fields) = IsFew 20 field × AllFew fields

few_fields : (fields : List (Option (List ℕ))) → AllFew fields → IsFew (21 * length fields) (after_blanks fields)
few_fields [] all = few_text 0 [] (omega arith) refl
few_fields (field ∷ fields) all =
    few_append 21 (21 * length fields) (21 * length (field ∷ fields)) (after_blank field) (after_blanks fields) (omega arith)
    (few_append 1 20 21 (Some (codes " ")) field (omega arith) (few_text 1 (codes " ") (omega arith) refl) all.0) (few_fields fields all.1)

few_place : (place : Place) → IsFew 20 (Some (kind_word place))
few_place (places.Device queue) = few_text 20 (codes "queue") (omega arith) refl
few_place place = few_text 20 (codes "controller") (omega arith) refl

few_state : (is_active : Bool) → IsFew 20 (Some (state_word is_active))
few_state true = few_text 20 (codes "active") (omega arith) refl
few_state false = few_text 20 (codes "waiting") (omega arith) refl

few_freeze : (version : Version) (number : ℕ) (place : Place) (holder : Holder) → AllFew (fields_of version (lines.Freeze (record { number = number; place = place; holder = holder })))
few_freeze version number place (holders.Run run) = (few_number number, (few_place place, (few_number (number_of place), (λ text e. absurd cc, tt))))
few_freeze version number place (holders.Timer due) = (few_number number, (few_place place, (few_number (number_of place), (few_text 20 (codes "timer") (omega arith) refl, (few_long_number due, tt)))))
few_freeze version number place (holders.Guest guest) = (few_number number, (few_place place, (few_number (number_of place), (few_text 20 (codes "guest") (omega arith) refl, (few_number guest, tt)))))

-- what a CCB has of these in a version without them
abbrev plain_fields : Bool → List (Option (List ℕ))
plain_fields neither = if neither then [] else None ∷ []

-- the class and the advice of a CCB, before its other fields
few_class : (there : Bool) (class advice : ℕ) (rest : List (Option (List ℕ))) → AllFew rest → AllFew (class_fields there class advice ++ rest)
few_class true class advice rest all = (few_number class, (few_number advice, all))
few_class false class advice rest all = by (has_neither class advice)
  where
    by : (neither : Bool) → AllFew (plain_fields neither ++ rest)
    by true = all
    by false = ((λ text e. absurd cc), all)

few_classes : (there : Bool) (class advice : ℕ) → length (class_fields there class advice) ≤ 2
few_classes true class advice = omega arith
few_classes false class advice = by (has_neither class advice)
  where
    by : (neither : Bool) → length (plain_fields neither) ≤ 2
    by true = omega arith
    by false = omega arith

few_in : (version : Version) (line : CarriedLine) → AllFew (fields_of version line)
few_in version (lines.Numbers ccb freeze run) = (few_number ccb, (few_number freeze, (few_number run, tt)))
few_in version (lines.Clock reading) = (few_long_number reading, tt)
few_in version (lines.Openings queue openings) = (few_number queue, (few_number openings, tt))
few_in version (lines.Word table index word) = (few_number table, (few_number index, (few_long_number word, tt)))
few_in version (lines.Ccb ccb) = (few_number ccb.number.0, (few_number ccb.queue.0, (few_number ccb.priority, (few_number ccb.retries, (few_number ccb.attempts, few_class (has_classes version) ccb.class ccb.advice (state_fields ccb) (few_state ccb.is_active, tt))))))
few_in version (lines.Freeze freeze) = few_freeze version freeze.number freeze.place freeze.holder

count_of_freeze : (version : Version) (number : ℕ) (place : Place) (holder : Holder) → length (fields_of version (lines.Freeze (record { number = number; place = place; holder = holder }))) ≤ 6
count_of_freeze version number place (holders.Run run) = omega arith
count_of_freeze version number place (holders.Timer due) = omega arith
count_of_freeze version number place (holders.Guest guest) = omega arith

few_there : (version : Version) (line : CarriedLine) → length (fields_of version line) ≤ 8
few_there version (lines.Numbers ccb freeze run) = omega arith
few_there version (lines.Clock reading) = omega arith
few_there version (lines.Openings queue openings) = omega arith
few_there version (lines.Word table index word) = omega arith
few_there version (lines.Ccb ccb) = omega (arith, length-append (class_fields (has_classes version) ccb.class ccb.advice) (state_fields ccb), few_classes (has_classes version) ccb.class ccb.advice)
few_there version (lines.Freeze freeze) = omega (arith, count_of_freeze version freeze.number freeze.place freeze.holder)

few_kind : (kind : Kind) → IsFew 20 (Some (kind_text kind))
few_kind kinds.Numbers = few_text 20 (codes "numbers") (omega arith) refl
few_kind kinds.Clock = few_text 20 (codes "clock") (omega arith) refl
few_kind kinds.Openings = few_text 20 (codes "openings") (omega arith) refl
few_kind kinds.Word = few_text 20 (codes "word") (omega arith) refl
few_kind kinds.Ccb = few_text 20 (codes "ccb") (omega arith) refl
few_kind kinds.Freeze = few_text 20 (codes "freeze") (omega arith) refl

-- ---- lines

pub carried_is_short : (version : Version) (line : CarriedLine) (text : List ℕ) → carried_text version line ≡ Some text → IsShort text
carried_is_short version line text e =
    let it = few_append 20 (21 * length (fields_of version line)) (20 + 21 * length (fields_of version line)) (Some (kind_text (kind_of line))) (after_blanks (fields_of version line)) (omega arith) (few_kind (kind_of line)) (few_fields (fields_of version line) (few_in version line)) text e in
    record { few = omega (arith, it.0, few_there version line); shown = it.1 }

-- with more bytes before the first line feed than a line has, a text begins with none
pub long_is_no_carried : (version : Version) (line rest : List ℕ) → IsOneLine line → LONGEST_LINE < length line → HasNoCarried version (line ++ rest)
long_is_no_carried version line rest one long other more e =
    let c = cut_line (carried_text version other) (Some more) (line ++ rest) e in
    long_line line rest c.0 c.1 one (omega (arith, long, (carried_is_short version other c.0 c.2).few)) c.4
