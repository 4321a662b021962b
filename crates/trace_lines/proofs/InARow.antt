-- A line's fields are read one after the other, and its word before them.
use Rattle.std.proofs.Common.{◌≡◌, ◌||◌, ◌==◌, not, ℕ, Bool, true, false, Option, Some, None, List, [], ◌∷◌, ◌++◌, length, refl, sym, ap, ◌∙◌, arith, codes, append-nil, Bor, cond}
use Rattle.std.specs.Fmt.{option_append}
use Rattle.std.specs.Option.{is_none}
use Rattle.std.proofs.lemmas.Bool.Decides.{nat_tests}
use Rattle.trace_lines.specs.declared.kind.Kind.{Kind}
use Rattle.trace_lines.specs.declared.kind.Slots.{Slots}
use Rattle.trace_lines.specs.declared.value.Value.{Value}
use Rattle.trace_lines.specs.declared.word.Word.{Word}
use Rattle.trace_lines.specs.Calls.{word_text}
use Rattle.trace_lines.specs.Rows.{row_of, word_named}
use Rattle.trace_lines.specs.Texts.{field_text}
use Rattle.trace_lines.specs.Lines.{may_lack, slot_text, fields_text, line_text}
use Rattle.trace_lines.specs.Reading.{ends_word, is_last, is_behind, is_last_at, are_last, IsCut, ReadsSlot, ReadsFields, ReadsLine}
use Rattle.trace_lines.proofs.Cutting.{cut_once}
use Rattle.trace_lines.proofs.Rows.{word_black, row_stops, found_again, found_is}
use Rattle.trace_lines.proofs.Tests.{three, parts_of, passed, joined, same_text}

was_not : (a : Bool) → not a ≡ true → a ≡ false
was_not true h = absurd cc
was_not false h = refl

no_stop : (a : Bool) → (not a || false) ≡ true → a ≡ false
no_stop true h = absurd cc
no_stop false h = refl

either : (stop : Bool) → cond stop true true ≡ true
either true = refl
either false = refl

clash : (n : ℕ) → n ≡ 0 → (n == 0) ≡ false → ⊥
clash n is not_so = grind (arith, nat_tests)

no_bytes : (bytes : List ℕ) → (length bytes == 0) ≡ true → bytes ≡ []
no_bytes [] h = refl
no_bytes (b ∷ bytes) h = absurd (grind (arith, nat_tests))

same_slots : {a b d g : Option Value} (held : Slots Value) → a ≡ held.first → b ≡ held.second → d ≡ held.third → g ≡ held.fourth
    → ◌≡◌ {A = Option (Slots Value)} (Some (record { first = a; second = b; third = d; fourth = g })) (Some held)
same_slots held p q r s = λ i. Some (record { first = p i; second = q i; third = r i; fourth = s i })

pairs : (a b : Word) (x y : Slots Value) → a ≡ b → x ≡ y → ◌≡◌ {A = Option (Word × Slots Value)} (Some (a, x)) (Some (b, y))
pairs a b x y p q = λ i. Some (p i, q i)

-- ---- what may follow

ends_slot : (kind : Option Kind) (value : Option Value) (told rest : List ℕ) → slot_text kind value ≡ Some told → ends_word rest ≡ true → ends_word (told ++ rest) ≡ true
ends_slot None None told rest e h = let none : [] ≡ told = cc in ap (λ (t : List ℕ). ends_word (t ++ rest)) (sym none) ∙ h
ends_slot None (Some value) told rest e h = absurd cc
ends_slot (Some kind) None told rest e h = let its = passed (may_lack kind) [] told e in ap (λ (t : List ℕ). ends_word (t ++ rest)) (sym its.1) ∙ h
ends_slot (Some kind) (Some value) told rest e h =
    let parts = parts_of (Some (codes " ")) (field_text kind value) told e in
    let front : codes " " ≡ parts.0 = cc in
    ap (λ (t : List ℕ). ends_word (t ++ rest)) (parts.4 ∙ ap (λ (t : List ℕ). t ++ parts.1) (sym front))

ends_last : (kind : Option Kind) (value : Option Value) (told : List ℕ) → slot_text kind value ≡ Some told → ends_word told ≡ true
ends_last kind value told e = ap ends_word (sym (append-nil told)) ∙ ends_slot kind value told [] e refl

ends_more : (kind : Option Kind) (value : Option Value) (o : Option (List ℕ)) (told : List ℕ) → ((r : List ℕ) → o ≡ Some r → ends_word r ≡ true) → option_append (slot_text kind value) o ≡ Some told → ends_word told ≡ true
ends_more kind value o told ends e =
    let parts = parts_of (slot_text kind value) o told e in
    ap ends_word parts.4 ∙ ends_slot kind value parts.0 parts.1 parts.2 (ends parts.1 parts.3)

behind_plain : (kind : Option Kind) (rest : List ℕ) → is_last_at kind ≡ false → ends_word rest ≡ true → is_behind kind rest ≡ true
behind_plain None rest plain h = refl
behind_plain (Some kind) rest plain h = rw plain h

behind_nothing : (kind : Option Kind) → is_behind kind [] ≡ true
behind_nothing None = refl
behind_nothing (Some kind) = either (is_last kind)

behind_third : (third fourth : Option Kind) (value : Option Value) (rest : List ℕ) → (not (is_last_at third) || is_none fourth) ≡ true → slot_text fourth value ≡ Some rest → is_behind third rest ≡ true
behind_third third None None rest last e = let none : [] ≡ rest = cc in ap (is_behind third) (sym none) ∙ behind_nothing third
behind_third third None (Some value) rest last e = absurd cc
behind_third third (Some kind) value rest last e = behind_plain third rest (no_stop (is_last_at third) last) (ends_last (Some kind) value rest e)

-- ---- one slot after another

step : (kind : Option Kind) (text : List ℕ) (held : Option Value) (rest : Bor (List ℕ)) → ReadsSlot kind text held (Some rest) → (value : Option Value) (o : Option (List ℕ)) → option_append (slot_text kind value) o ≡ Some text
    → ((r : List ℕ) → o ≡ Some r → is_behind kind r ≡ true) → (o ≡ Some rest.now) × (held ≡ value)
step kind text held rest reads value o e behind =
    let parts = parts_of (slot_text kind value) o text e in
    let found = reads.back value parts.0 parts.1 parts.2 parts.4 (behind parts.1 parts.3) in
    (parts.3 ∙ ap Some (sym found.1), found.0)

stuck : (kind : Option Kind) (text : List ℕ) (held : Option Value) → ReadsSlot kind text held None → (value : Option Value) (o : Option (List ℕ)) → option_append (slot_text kind value) o ≡ Some text
    → ((r : List ℕ) → o ≡ Some r → is_behind kind r ≡ true) → ⊥
stuck kind text held reads value o e behind =
    let parts = parts_of (slot_text kind value) o text e in
    (reads.back value parts.0 parts.1 parts.2 parts.4 (behind parts.1 parts.3)).1

with_nothing : (o : Option (List ℕ)) (text : List ℕ) → o ≡ Some text → option_append o (Some []) ≡ Some text
with_nothing o text e = rw e (ap Some (append-nil text))

forth : (kind : Option Kind) (text : List ℕ) (held : Option Value) (rest : Bor (List ℕ)) → ReadsSlot kind text held (Some rest) → (o : Option (List ℕ)) → o ≡ Some rest.now → option_append (slot_text kind held) o ≡ Some text
forth kind text held rest reads o e = let said = reads.said in joined (slot_text kind held) o said.0 rest.now said.1 e ∙ ap Some (sym said.2)

-- ---- four of them

pub record Lasts (fields : Slots Kind) : Type 0 where
  pub first : is_last_at fields.first ≡ false
  pub second : is_last_at fields.second ≡ false
  pub third : (not (is_last_at fields.third) || is_none fields.fourth) ≡ true

lasts : (fields : Slots Kind) → are_last fields ≡ true → Lasts fields
lasts fields h =
    let parts = three (not (is_last_at fields.first)) (not (is_last_at fields.second)) (not (is_last_at fields.third) || is_none fields.fourth) h in
    record { first = was_not (is_last_at fields.first) parts.0; second = was_not (is_last_at fields.second) parts.1; third = parts.2 }

abbrev from_fourth : Slots Kind → Slots Value → Option (List ℕ)
from_fourth fields held = slot_text fields.fourth held.fourth

abbrev from_third : Slots Kind → Slots Value → Option (List ℕ)
from_third fields held = option_append (slot_text fields.third held.third) (from_fourth fields held)

abbrev from_second : Slots Kind → Slots Value → Option (List ℕ)
from_second fields held = option_append (slot_text fields.second held.second) (from_third fields held)

module _ (fields : Slots Kind) (held : Slots Value) where
  ends_fourth : (r : List ℕ) → from_fourth fields held ≡ Some r → ends_word r ≡ true
  ends_fourth r e = ends_last fields.fourth held.fourth r e

  ends_third : (r : List ℕ) → from_third fields held ≡ Some r → ends_word r ≡ true
  ends_third r e = ends_more fields.third held.third (from_fourth fields held) r ends_fourth e

  ends_second : (r : List ℕ) → from_second fields held ≡ Some r → ends_word r ≡ true
  ends_second r e = ends_more fields.second held.second (from_third fields held) r ends_third e

  pub ends_fields : (r : List ℕ) → fields_text fields held ≡ Some r → ends_word r ≡ true
  unfolding fields_text
  ends_fields r e = ends_more fields.first held.first (from_second fields held) r ends_second e

module _ (fields : Slots Kind) (text : List ℕ) where
  pub fails_first : (a : Option Value) → ReadsSlot fields.first text a None → ReadsFields fields text None
  unfolding fields_text
  fails_first a ra = record {
    said = tt;
    back = λ last held e.
        let l = lasts fields last in
        absurd (stuck fields.first text a ra held.first (from_second fields held) e (λ r f. behind_plain fields.first r l.first (ends_second fields held r f)));
  }

  module _ (a : Option Value) (t : Bor (List ℕ)) (ra : ReadsSlot fields.first text a (Some t)) where
    one : are_last fields ≡ true → (held : Slots Value) → fields_text fields held ≡ Some text → (from_second fields held ≡ Some t.now) × (a ≡ held.first)
    unfolding fields_text
    one last held e =
        let l = lasts fields last in
        step fields.first text a t ra held.first (from_second fields held) e (λ r f. behind_plain fields.first r l.first (ends_second fields held r f))

    pub fails_second : (b : Option Value) → ReadsSlot fields.second t.now b None → ReadsFields fields text None
    fails_second b rb = record {
      said = tt;
      back = λ last held e.
          let l = lasts fields last in
          absurd (stuck fields.second t.now b rb held.second (from_third fields held) (one last held e).0 (λ r f. behind_plain fields.second r l.second (ends_third fields held r f)));
    }

    module _ (b : Option Value) (u : Bor (List ℕ)) (rb : ReadsSlot fields.second t.now b (Some u)) where
      two : are_last fields ≡ true → (held : Slots Value) → fields_text fields held ≡ Some text → (from_third fields held ≡ Some u.now) × (b ≡ held.second)
      two last held e =
          let l = lasts fields last in
          step fields.second t.now b u rb held.second (from_third fields held) (one last held e).0 (λ r f. behind_plain fields.second r l.second (ends_third fields held r f))

      pub fails_third : (d : Option Value) → ReadsSlot fields.third u.now d None → ReadsFields fields text None
      fails_third d rd = record {
        said = tt;
        back = λ last held e.
            let l = lasts fields last in
            absurd (stuck fields.third u.now d rd held.third (from_fourth fields held) (two last held e).0 (λ r f. behind_third fields.third fields.fourth held.fourth r l.third f));
      }

      module _ (d : Option Value) (v : Bor (List ℕ)) (rd : ReadsSlot fields.third u.now d (Some v)) where
        three_read : are_last fields ≡ true → (held : Slots Value) → fields_text fields held ≡ Some text → (from_fourth fields held ≡ Some v.now) × (d ≡ held.third)
        three_read last held e =
            let l = lasts fields last in
            step fields.third u.now d v rd held.third (from_fourth fields held) (two last held e).0 (λ r f. behind_third fields.third fields.fourth held.fourth r l.third f)

        nothing_behind : (r : List ℕ) → Some [] ≡ Some r → is_behind fields.fourth r ≡ true
        nothing_behind r f = let none : [] ≡ r = cc in ap (is_behind fields.fourth) (sym none) ∙ behind_nothing fields.fourth

        pub fails_fourth : (g : Option Value) → ReadsSlot fields.fourth v.now g None → ReadsFields fields text None
        fails_fourth g rg = record {
          said = tt;
          back = λ last held e.
              absurd (stuck fields.fourth v.now g rg held.fourth (Some []) (with_nothing (from_fourth fields held) v.now (three_read last held e).0) nothing_behind);
        }

        module _ (g : Option Value) (w : Bor (List ℕ)) (rg : ReadsSlot fields.fourth v.now g (Some w)) where
          four_read : are_last fields ≡ true → (held : Slots Value) → fields_text fields held ≡ Some text → (Some [] ≡ Some w.now) × (g ≡ held.fourth)
          four_read last held e = step fields.fourth v.now g w rg held.fourth (Some []) (with_nothing (from_fourth fields held) v.now (three_read last held e).0) nothing_behind

          pub something_left : (length w.now == 0) ≡ false → ReadsFields fields text None
          something_left left = record {
            said = tt;
            back = λ last held e.
                let none : [] ≡ w.now = same_text [] w.now (four_read last held e).0 in
                absurd (clash (length w.now) (ap length (sym none)) left);
          }

          pub all_read : (length w.now == 0) ≡ true → ReadsFields fields text (Some (record { first = a; second = b; third = d; fourth = g }))
          unfolding fields_text
          all_read ended = record {
            said =
                let none : w.now ≡ [] = no_bytes w.now ended in
                let told = rg.said in
                let fourth : slot_text fields.fourth g ≡ Some v.now = told.1 ∙ ap Some (sym (told.2 ∙ ap (λ (x : List ℕ). told.0 ++ x) none ∙ append-nil told.0)) in
                let third = forth fields.third u.now d v rd (slot_text fields.fourth g) fourth in
                let second = forth fields.second t.now b u rb (option_append (slot_text fields.third d) (slot_text fields.fourth g)) third in
                forth fields.first text a t ra (option_append (slot_text fields.second b) (option_append (slot_text fields.third d) (slot_text fields.fourth g))) second;
            back = λ last held e. same_slots held (one last held e).1 (two last held e).1 (three_read last held e).1 (four_read last held e).1;
          }

-- ---- the word before them

module _ (text name rest : List ℕ) (cut : IsCut text name rest) where
  front : (word : Word) (held : Slots Value) → line_text word held ≡ Some text → (word_text word ≡ name) × (fields_text (row_of word).fields held ≡ Some rest)
  front word held e =
      let parts = parts_of (Some (word_text word)) (fields_text (row_of word).fields held) text e in
      let its : word_text word ≡ parts.0 = same_text (word_text word) parts.0 parts.2 in
      let joined_so : word_text word ++ parts.1 ≡ name ++ rest = ap (λ (t : List ℕ). t ++ parts.1) its ∙ sym parts.4 ∙ cut.whole in
      let found = cut_once (word_text word) name parts.1 rest joined_so (word_black word) (ends_fields (row_of word).fields held parts.1 parts.3) cut.black cut.ends in
      (found.0, parts.3 ∙ ap Some found.1)

  again : (word : Word) (held : Slots Value) → line_text word held ≡ Some text → word_named name ≡ Some word
  again word held e = ap word_named (sym (front word held e).0) ∙ found_again word

  pub no_word : word_named name ≡ None → ReadsLine text None
  no_word none = record { said = tt; back = λ word held e. let there = again word held e in absurd cc }

  module _ (found : Word) (is : word_named name ≡ Some found) where
    same : (word : Word) (held : Slots Value) → line_text word held ≡ Some text → found ≡ word
    same word held e = let there = again word held e in cc

    pub no_fields : ReadsFields (row_of found).fields rest None → ReadsLine text None
    no_fields none = record {
      said = tt;
      back = λ word held e.
          let it = same word held e in
          let there = none.back (row_stops found) held (ap (λ (w : Word). fields_text (row_of w).fields held) it ∙ (front word held e).1) in
          absurd cc;
    }

    pub line_read : (held : Slots Value) → ReadsFields (row_of found).fields rest (Some held) → ReadsLine text (Some (found, held))
    line_read held reads = record {
      said = joined (Some (word_text found)) (fields_text (row_of found).fields held) name rest (ap Some (found_is name found is)) reads.said ∙ ap Some (sym cut.whole);
      back = λ word other e.
          let it = same word other e in
          let there = reads.back (row_stops found) other (ap (λ (w : Word). fields_text (row_of w).fields other) it ∙ (front word other e).1) in
          let held_same : held ≡ other = cc in
          pairs found word held other it held_same;
    }
