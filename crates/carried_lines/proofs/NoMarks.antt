-- No text has a line feed or an equals sign, or begins with `end`.
use Rattle.std.proofs.Common.{◌≡◌, ◌≢◌, ◌++◌, ℕ, Bool, true, false, Option, Some, None, List, [], ◌∷◌, refl, sym, ap, ◌∙◌, codes, append_assoc, get_or, arith}
use Rattle.std.specs.Prelude.{if◌then◌else◌}
use Rattle.std.specs.Fmt.{option_append}
use Rattle.std.specs.List.{list_all}
use Rattle.std.proofs.lemmas.List.Folds.{list_all-append}
use Rattle.ccb.specs.Places.{kind_word, number_of as place_number}
use Rattle.ccb.specs.declared.place.Place.{Place}
use Rattle.ccb.specs.declared.place.Place.TheVariants as places
use Rattle.freeze_ledger.specs.declared.freeze.Freeze.{Freeze}
use Rattle.freeze_ledger.specs.declared.freeze.Holder.{Holder}
use Rattle.freeze_ledger.specs.declared.freeze.Holder.TheVariants as holders
use Rattle.world_calls.specs.declared.carried_line.CarriedCcb.{CarriedCcb}
use Rattle.world_calls.specs.declared.carried_line.CarriedLine.{CarriedLine}
use Rattle.world_calls.specs.declared.carried_line.CarriedLine.TheVariants as lines
use Rattle.world_calls.specs.declared.trace.Version.{Version}
use Rattle.trace_lines.specs.Versions.{has_classes}
use Rattle.trace_lines.proofs.Plain.{is_plain, ArePlain, IsPlain, plain_append, plain_text, plain_number, plain_long_number}
use Rattle.trace_lines.proofs.Tests.{both, parts_of, same_text}
use Rattle.carried_lines.specs.declared.kind.Kind.{Kind}
use Rattle.carried_lines.specs.declared.kind.Kind.TheVariants as kinds
use Rattle.carried_lines.specs.CarriedText.{after_blank, after_blanks, carried_text, ccb_fields, class_fields, fields_of, has_neither, state_fields, freeze_fields, holder_fields, kind_of, kind_text, state_word}
use Rattle.carried_lines.specs.Laws.{NoTextHasALineFeed, NoTextIsOfARecord, NoTextIsOfTheEnd}

-- each of these fields is plain
abbrev AllPlain : List (Option (List ℕ)) → Type 0
AllPlain [] = Unit {0}
AllPlain (field ∷ fields) = IsPlain field × AllPlain fields

plain_fields : (fields : List (Option (List ℕ))) → AllPlain fields → IsPlain (after_blanks fields)
plain_fields [] all = plain_text [] refl
plain_fields (field ∷ fields) all =
    plain_append (after_blank field) (after_blanks fields) (plain_append (Some (codes " ")) field (plain_text (codes " ") refl) all.0) (plain_fields fields all.1)

plain_holder : (holder : Holder) → AllPlain (holder_fields holder)
plain_holder (holders.Run run) = (λ text e. absurd cc, tt)
plain_holder (holders.Timer due) = (plain_text (codes "timer") refl, (plain_long_number due, tt))
plain_holder (holders.Guest guest) = (plain_text (codes "guest") refl, (plain_number guest, tt))

plain_kind : (place : Place) → ArePlain (kind_word place)
plain_kind (places.Device queue) = refl
plain_kind place = refl

plain_freeze : (freeze : Freeze) → AllPlain (freeze_fields freeze)
plain_freeze freeze = (plain_number freeze.number, (plain_text (kind_word freeze.place) (plain_kind freeze.place), (plain_number (place_number freeze.place), plain_holder freeze.holder)))

plain_state : (is_active : Bool) → ArePlain (state_word is_active)
plain_state true = refl
plain_state false = refl

plain_test : (test : Bool) (fields : List (Option (List ℕ))) → AllPlain fields → AllPlain ((if test then [] else None ∷ []) ++ fields)
plain_test true fields all = all
plain_test false fields all = (λ text e. absurd cc, all)

plain_class : (there : Bool) (class advice : ℕ) (fields : List (Option (List ℕ))) → AllPlain fields → AllPlain (class_fields there class advice ++ fields)
plain_class true class advice fields all = (plain_number class, (plain_number advice, all))
plain_class false class advice fields all = plain_test (has_neither class advice) fields all

plain_ccb : (version : Version) (ccb : CarriedCcb) → AllPlain (ccb_fields version ccb)
plain_ccb version ccb =
    let state : AllPlain (state_fields ccb) = (plain_text (state_word ccb.is_active) (plain_state ccb.is_active), tt) in
    let class = plain_class (has_classes version) ccb.class ccb.advice (state_fields ccb) state in
    (plain_number ccb.number.0, (plain_number ccb.queue.0, (plain_number ccb.priority, (plain_number ccb.retries, (plain_number ccb.attempts, class)))))

plain_in : (version : Version) (line : CarriedLine) → AllPlain (fields_of version line)
plain_in version (lines.Numbers ccb freeze run) = (plain_number ccb, (plain_number freeze, (plain_number run, tt)))
plain_in version (lines.Clock reading) = (plain_long_number reading, tt)
plain_in version (lines.Openings queue openings) = (plain_number queue, (plain_number openings, tt))
plain_in version (lines.Word table index word) = (plain_number table, (plain_number index, (plain_long_number word, tt)))
plain_in version (lines.Ccb ccb) = plain_ccb version ccb
plain_in version (lines.Freeze freeze) = plain_freeze freeze

plain_word : (kind : Kind) → ArePlain (kind_text kind)
plain_word kinds.Numbers = refl
plain_word kind = refl

pub plain_line : (version : Version) (line : CarriedLine) → IsPlain (carried_text version line)
plain_line version line = plain_append (Some (kind_text (kind_of line))) (after_blanks (fields_of version line)) (plain_text (kind_text (kind_of line)) (plain_word (kind_of line))) (plain_fields (fields_of version line) (plain_in version line))

no_mark : (mark : ℕ) → is_plain mark ≡ false → (version : Version) (line : CarriedLine) (front rest : List ℕ) → carried_text version line ≢ Some (front ++ mark ∷ rest)
no_mark mark is version line front rest e =
    let all = plain_line version line (front ++ mark ∷ rest) e in
    let parts = both (list_all is_plain front) (list_all is_plain (mark ∷ rest)) (sym (list_all-append is_plain front (mark ∷ rest)) ∙ all) in
    let this = both (is_plain mark) (list_all is_plain rest) parts.1 in
    let bad : true ≡ false = sym this.0 ∙ is in
    cc

pub no_line_feed : NoTextHasALineFeed
no_line_feed = no_mark 10 refl

pub no_record : NoTextIsOfARecord
no_record version line asked answered text e is =
    let parts = parts_of asked (option_append (Some (codes " = ")) answered) text e in
    let more = parts_of (Some (codes " = ")) answered parts.1 parts.3 in
    let mark : 32 ∷ 61 ∷ 32 ∷ [] ≡ more.0 = same_text (codes " = ") more.0 more.2 in
    let whole : text ≡ (parts.0 ++ 32 ∷ []) ++ 61 ∷ 32 ∷ more.1 =
    parts.4 ∙ ap (λ (t : List ℕ). parts.0 ++ t) (more.4 ∙ ap (λ (t : List ℕ). t ++ more.1) (sym mark)) ∙ sym (append_assoc parts.0 (32 ∷ []) (61 ∷ 32 ∷ more.1)) in
    no_mark 61 refl version line (parts.0 ++ 32 ∷ []) (32 ∷ more.1) (is ∙ ap Some whole)

-- the letter that a line begins with is not the `e` of `end`, which is 101
first_letter : (kind : Kind) (fields : List ℕ) → get_or (kind_text kind ++ fields) 0 0 ≢ 101
first_letter kinds.Numbers fields e = let bad : 110 ≡ 101 = e in absurd (omega (arith, bad))
first_letter kinds.Clock fields e = let bad : 99 ≡ 101 = e in absurd (omega (arith, bad))
first_letter kinds.Openings fields e = let bad : 111 ≡ 101 = e in absurd (omega (arith, bad))
first_letter kinds.Word fields e = let bad : 119 ≡ 101 = e in absurd (omega (arith, bad))
first_letter kinds.Ccb fields e = let bad : 99 ≡ 101 = e in absurd (omega (arith, bad))
first_letter kinds.Freeze fields e = let bad : 102 ≡ 101 = e in absurd (omega (arith, bad))

pub no_end : NoTextIsOfTheEnd
no_end version line rest e =
    let parts = parts_of (Some (kind_text (kind_of line))) (after_blanks (fields_of version line)) (codes "end" ++ rest) e in
    let word : kind_text (kind_of line) ≡ parts.0 = same_text (kind_text (kind_of line)) parts.0 parts.2 in
    first_letter (kind_of line) parts.1 (ap (λ (t : List ℕ). get_or t 0 0) (ap (λ (t : List ℕ). t ++ parts.1) word ∙ sym parts.4))
