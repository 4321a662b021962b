-- The line of a freeze, there and back; and what holds of the lines of each kind.
use Rattle.std.proofs.Common.{◌≡◌, ◌++◌, ℕ, Bool, true, false, Option, Some, None, List, [], ◌∷◌, refl, sym, ap, ◌∙◌, codes, bytes_eq, inl, inr}
use Rattle.ccb.specs.Places.{kind_word, number_of as place_number}
use Rattle.ccb.specs.declared.place.Place.{Place}
use Rattle.ccb.specs.declared.place.Place.TheVariants as places
use Rattle.freeze_ledger.specs.declared.freeze.Freeze.{Freeze}
use Rattle.freeze_ledger.specs.declared.freeze.Holder.{Holder}
use Rattle.freeze_ledger.specs.declared.freeze.Holder.TheVariants as holders
use Rattle.world_calls.specs.declared.carried_line.CarriedLine.{CarriedLine}
use Rattle.world_calls.specs.declared.carried_line.CarriedLine.TheVariants as lines
use Rattle.world_calls.specs.declared.trace.Version.{Version}
use Rattle.trace_lines.specs.Texts.{number_text, long_number_text}
use Rattle.std.specs.List.{list_all}
use Rattle.trace_lines.specs.Reading.{is_black}
use Rattle.trace_lines.proofs.Tests.{same_bytes, same_text}
use Rattle.carried_lines.specs.declared.kind.Kind.{Kind}
use Rattle.carried_lines.specs.declared.kind.Kind.TheVariants as kinds
use Rattle.carried_lines.specs.CarriedText.{after_blanks, fields_of, freeze_fields, holder_fields, kind_of, place_fields}
use Rattle.carried_lines.specs.FieldReading.{field_in, long_number_in, number_in}
use Rattle.carried_lines.specs.LineReading.{ReadsFields, freeze_in, freeze_parts, guest_in, holder_in, place_in, place_named, place_parts, place_word, timer_in}
use Rattle.carried_lines.proofs.Fronts.{then_some, word_said, word_back, long_said, long_back, short_said, short_back, end_said, end_back}
use Rattle.carried_lines.proofs.EachLine.{chosen, same_line, numbers_each, clock_each, openings_each, word_each, ccb_each}

named : (name word : List ℕ) → list_all is_black name ≡ true → Some name ≡ Some word → list_all is_black word ≡ true
named name word black e = ap (list_all is_black) (sym (same_text name word e)) ∙ black

place_word_is : (word found : List ℕ) → place_word word ≡ Some found → found ≡ word
place_word_is word found e =
    elim (chosen (bytes_eq word (codes "queue")) (Some (codes "queue")) _ found e) [
      | inl it ↦ sym (same_text (codes "queue") found it.1) ∙ sym (same_bytes word (codes "queue") it.0)
      | inr other ↦
          elim (chosen (bytes_eq word (codes "controller")) (Some (codes "controller")) None found other.1) [
            | inl it ↦ sym (same_text (codes "controller") found it.1) ∙ sym (same_bytes word (codes "controller") it.0)
            | inr none ↦ absurd (let bad = none.1 in cc)
          ]
    ]

place_again : (place : Place) → place_word (kind_word place) ≡ Some (kind_word place)
place_again (places.Device queue) = refl
place_again place = refl

place_black : (place : Place) → list_all is_black (kind_word place) ≡ true
place_black (places.Device queue) = refl
place_black place = refl

abbrev is_queue : Place → Bool
is_queue (places.Device queue) = true
is_queue place = false

queue_word : (place : Place) → bytes_eq (kind_word place) (codes "queue") ≡ is_queue place
queue_word (places.Device queue) = refl
queue_word place = refl

by_number : (one other : Place) → is_queue one ≡ is_queue other → place_number one ≡ place_number other → one ≡ other
by_number (places.Device a) (places.Device b) q f = λ i. places.Device (record { 0 = f i })
by_number (places.Device a) other q f = absurd (let bad = q in cc)
by_number one (places.Device b) q f = absurd (let bad = q in cc)
by_number one other q f = cc

-- a place is known by its parts
same_place : (one other : Place) → kind_word one ≡ kind_word other → place_number one ≡ place_number other → one ≡ other
same_place one other e f = by_number one other (sym (queue_word one) ∙ ap (λ (w : List ℕ). bytes_eq w (codes "queue")) e ∙ queue_word other) f

abbrev parts_fields : List ℕ × ℕ → List (Option (List ℕ))
parts_fields parts = Some parts.0 ∷ number_text parts.1 ∷ []

place_said : (text : List ℕ) (found : (List ℕ × ℕ) × List ℕ) (fields : List (Option (List ℕ))) → place_in text ≡ Some found → after_blanks fields ≡ Some found.1 → after_blanks (parts_fields found.0 ++ fields) ≡ Some text
unfolding place_in
place_said text found fields e fs =
    let field = then_some (field_in text) _ found e in
    let number = then_some (number_in field.0.1) _ found field.2 in
    let named = then_some (place_named field.0.0 number.0.0) _ found number.2 in
    let word = then_some (place_word field.0.0) _ named.0 named.1 in
    let is : (named.0, number.0.1) ≡ found = cc in
    let parts : (word.0, number.0.0) ≡ named.0 = cc in
    let rest : after_blanks fields ≡ Some number.0.1 = fs ∙ ap (λ (p : (List ℕ × ℕ) × List ℕ). Some p.1) (sym is) in
    let here = word_said text field.0 (number_text number.0.0 ∷ fields) field.1 (short_said field.0.1 number.0 fields number.1 rest) in
    ap (λ (p : (List ℕ × ℕ) × List ℕ). after_blanks (parts_fields p.0 ++ fields)) (sym is)
    ∙ ap (λ (p : List ℕ × ℕ). after_blanks (parts_fields p ++ fields)) (sym parts)
    ∙ ap (λ (w : List ℕ). after_blanks (Some w ∷ number_text number.0.0 ∷ fields)) (place_word_is field.0.0 word.0 word.1) ∙ here

place_back : (place : Place) (fields : List (Option (List ℕ))) (text : List ℕ) → after_blanks (place_fields place ++ fields) ≡ Some text → (rest : List ℕ) × (place_in text ≡ Some (place_parts place, rest)) × (after_blanks fields ≡ Some rest)
unfolding place_in
place_back place fields text e =
    let its = word_back (Some (kind_word place)) (number_text (place_number place) ∷ fields) text (λ w f. named (kind_word place) w (place_black place) f) e in
    let number = short_back (place_number place) fields its.1 its.3 in
    let word : place_word its.0 ≡ Some (kind_word place) = ap place_word (sym (same_text (kind_word place) its.0 its.2)) ∙ place_again place in
    (number.0, rw (its.4, number.1, word) refl, number.2)

timer_said : (text : List ℕ) (holder : Holder) → timer_in text ≡ Some holder → (due : ℕ) × (holders.Timer due ≡ holder) × (after_blanks (long_number_text due ∷ []) ≡ Some text)
unfolding timer_in
timer_said text holder e =
    let due = then_some (long_number_in text) _ holder e in
    let last = end_said (holders.Timer due.0.0) due.0.1 holder due.2 in
    (due.0.0, last.1, long_said text due.0 [] due.1 last.0)

guest_said : (text : List ℕ) (holder : Holder) → guest_in text ≡ Some holder → (guest : ℕ) × (holders.Guest guest ≡ holder) × (after_blanks (number_text guest ∷ []) ≡ Some text)
unfolding guest_in
guest_said text holder e =
    let guest = then_some (number_in text) _ holder e in
    let last = end_said (holders.Guest guest.0.0) guest.0.1 holder guest.2 in
    (guest.0.0, last.1, short_said text guest.0 [] guest.1 last.0)

holder_said : (text : List ℕ) (holder : Holder) → holder_in text ≡ Some holder → after_blanks (holder_fields holder) ≡ Some text
unfolding holder_in
holder_said text holder e =
    let field = then_some (field_in text) _ holder e in
    elim (chosen (bytes_eq field.0.0 (codes "timer")) (timer_in field.0.1) _ holder field.2) [
      | inl it ↦
          let due = timer_said field.0.1 holder it.1 in
          let here = word_said text field.0 (long_number_text due.0 ∷ []) field.1 due.2 in
          ap (λ (h : Holder). after_blanks (holder_fields h)) (sym due.1)
          ∙ ap (λ (w : List ℕ). after_blanks (Some w ∷ long_number_text due.0 ∷ [])) (sym (same_bytes field.0.0 (codes "timer") it.0)) ∙ here
      | inr other ↦
          elim (chosen (bytes_eq field.0.0 (codes "guest")) (guest_in field.0.1) None holder other.1) [
            | inl it ↦
                let guest = guest_said field.0.1 holder it.1 in
                let here = word_said text field.0 (number_text guest.0 ∷ []) field.1 guest.2 in
                ap (λ (h : Holder). after_blanks (holder_fields h)) (sym guest.1)
                ∙ ap (λ (w : List ℕ). after_blanks (Some w ∷ number_text guest.0 ∷ [])) (sym (same_bytes field.0.0 (codes "guest") it.0)) ∙ here
            | inr none ↦ absurd (let bad = none.1 in cc)
          ]
    ]

timer_back : (due : ℕ) (text : List ℕ) → after_blanks (long_number_text due ∷ []) ≡ Some text → timer_in text ≡ Some (holders.Timer due)
unfolding timer_in
timer_back due text e = let a = long_back due [] text e in rw a.1 (end_back (holders.Timer due) a.0 a.2)

guest_back : (guest : ℕ) (text : List ℕ) → after_blanks (number_text guest ∷ []) ≡ Some text → guest_in text ≡ Some (holders.Guest guest)
unfolding guest_in
guest_back guest text e = let a = short_back guest [] text e in rw a.1 (end_back (holders.Guest guest) a.0 a.2)

holder_back : (holder : Holder) (text : List ℕ) → after_blanks (holder_fields holder) ≡ Some text → holder_in text ≡ Some holder
unfolding holder_in
holder_back (holders.Run run) text e = absurd cc
holder_back (holders.Timer due) text e =
    let its = word_back (Some (codes "timer")) (long_number_text due ∷ []) text (λ w f. named (codes "timer") w refl f) e in
    rw (its.4, sym (same_text (codes "timer") its.0 its.2)) (timer_back due its.1 its.3)
holder_back (holders.Guest guest) text e =
    let its = word_back (Some (codes "guest")) (number_text guest ∷ []) text (λ w f. named (codes "guest") w refl f) e in
    rw (its.4, sym (same_text (codes "guest") its.0 its.2)) (guest_back guest its.1 its.3)

freeze_said : (text : List ℕ) (freeze : Freeze) → freeze_in text ≡ Some (freeze_parts freeze) → after_blanks (freeze_fields freeze) ≡ Some text
unfolding freeze_in
freeze_said text freeze e =
    let number = then_some (number_in text) _ (freeze_parts freeze) e in
    let place = then_some (place_in number.0.1) _ (freeze_parts freeze) number.2 in
    let holder = then_some (holder_in place.0.1) _ (freeze_parts freeze) place.2 in
    let is : (number.0.0, (place.0.0, holder.0)) ≡ freeze_parts freeze = cc in
    let fields : after_blanks (number_text number.0.0 ∷ (parts_fields place.0.0 ++ holder_fields holder.0)) ≡ Some text =
    short_said text number.0 (parts_fields place.0.0 ++ holder_fields holder.0) number.1 (place_said number.0.1 place.0 (holder_fields holder.0) place.1 (holder_said place.0.1 holder.0 holder.1)) in
    ap (λ (p : ℕ × ((List ℕ × ℕ) × Holder)). after_blanks (number_text p.0 ∷ (parts_fields p.1.0 ++ holder_fields p.1.1))) (sym is) ∙ fields

freeze_back : (freeze : Freeze) (text : List ℕ) → after_blanks (freeze_fields freeze) ≡ Some text → freeze_in text ≡ Some (freeze_parts freeze)
unfolding freeze_in
freeze_back freeze text e =
    let number = short_back freeze.number (place_fields freeze.place ++ holder_fields freeze.holder) text e in
    let place = place_back freeze.place (holder_fields freeze.holder) number.0 number.2 in
    rw (number.1, place.1, holder_back freeze.holder place.0 place.2) refl

-- and so is a freeze
same_freeze : (one other : Freeze) → freeze_parts one ≡ freeze_parts other → one ≡ other
same_freeze one other e =
    let place : one.place ≡ other.place = same_place one.place other.place (ap (λ (p : ℕ × ((List ℕ × ℕ) × Holder)). p.1.0.0) e) (ap (λ (p : ℕ × ((List ℕ × ℕ) × Holder)). p.1.0.1) e) in
    let number : one.number ≡ other.number = ap (λ (p : ℕ × ((List ℕ × ℕ) × Holder)). p.0) e in
    let holder : one.holder ≡ other.holder = ap (λ (p : ℕ × ((List ℕ × ℕ) × Holder)). p.1.1) e in
    λ i. record { number = number i; place = place i; holder = holder i }

same_parts : (one other : ℕ × ((List ℕ × ℕ) × Holder)) → Some one ≡ Some other → one ≡ other
same_parts one other e = cc

module _ (version : Version) where
  no_freeze_each : (text : List ℕ) (line : CarriedLine) → freeze_in text ≡ None → kind_of line ≡ kinds.Freeze → after_blanks (fields_of version line) ≡ Some text → None ≡ Some line
  no_freeze_each text (lines.Freeze freeze) none k e = let there = freeze_back freeze text e in absurd cc
  no_freeze_each text line none k e = absurd cc

  pub no_freeze_reads : (text : List ℕ) → freeze_in text ≡ None → ReadsFields version kinds.Freeze text None
  no_freeze_reads text none = record { said = tt; back = λ line k f. no_freeze_each text line none k f }

  freeze_each : (text : List ℕ) (read : Freeze) (line : CarriedLine) → freeze_in text ≡ Some (freeze_parts read) → kind_of line ≡ kinds.Freeze → after_blanks (fields_of version line) ≡ Some text → Some (lines.Freeze read) ≡ Some line
  freeze_each text read (lines.Freeze freeze) is k e =
      let parts : freeze_parts read ≡ freeze_parts freeze = same_parts (freeze_parts read) (freeze_parts freeze) (sym is ∙ freeze_back freeze text e) in
      ap (λ (f : Freeze). Some (lines.Freeze f)) (same_freeze read freeze parts)
  freeze_each text read line is k e = absurd cc

  pub freeze_reads : (text : List ℕ) (read : Freeze) → freeze_in text ≡ Some (freeze_parts read) → ReadsFields version kinds.Freeze text (Some (lines.Freeze read))
  freeze_reads text read is = record { said = (refl, freeze_said text read is); back = λ line k f. freeze_each text read line is k f }

  -- a line of a freeze
  freeze_of : (text : List ℕ) (line : CarriedLine) → kind_of line ≡ kinds.Freeze → after_blanks (fields_of version line) ≡ Some text → (freeze : Freeze) × (Some line ≡ Some (lines.Freeze freeze)) × (freeze_in text ≡ Some (freeze_parts freeze))
  freeze_of text (lines.Freeze freeze) k e = (freeze, refl, freeze_back freeze text e)
  freeze_of text line k e = absurd cc

  -- two lines of a kind with the same fields are one
  pub same_fields : (kind : Kind) (one other : CarriedLine) (text : List ℕ) → kind_of one ≡ kind → kind_of other ≡ kind → after_blanks (fields_of version one) ≡ Some text → after_blanks (fields_of version other) ≡ Some text → one ≡ other
  same_fields kinds.Numbers one other text k l e f = same_line one other (sym (numbers_each version text one k e) ∙ numbers_each version text other l f)
  same_fields kinds.Clock one other text k l e f = same_line one other (sym (clock_each version text one k e) ∙ clock_each version text other l f)
  same_fields kinds.Openings one other text k l e f = same_line one other (sym (openings_each version text one k e) ∙ openings_each version text other l f)
  same_fields kinds.Word one other text k l e f = same_line one other (sym (word_each version text one k e) ∙ word_each version text other l f)
  same_fields kinds.Ccb one other text k l e f = same_line one other (sym (ccb_each version text one k e) ∙ ccb_each version text other l f)
  same_fields kinds.Freeze one other text k l e f = let first = freeze_of text one k e in same_line one other (first.1 ∙ freeze_each text first.0 other first.2 l f)
