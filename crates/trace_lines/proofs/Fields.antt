-- What is spelled of a field stands in one word, but for where a run stopped.
use Rattle.std.proofs.Common.{◌≡◌, ◌≢◌, ◌<◌, ◌^◌, ◌/◌, ◌%◌, ◌&&◌, ◌==◌, length, ℕ, Bool, true, false, Option, Some, None, List, [], ◌∷◌, ◌++◌, refl, sym, ap, ◌∙◌, arith, codes, nat_lt, nat_le, decimal, append-nil, Bor}
use Rattle.std.specs.Prelude.{flat_map}
use Rattle.std.specs.List.{list_all}
use Rattle.std.specs.Fmt.{option_append, digit_glyph}
use Rattle.std.proofs.lemmas.Bool.{ltb-true}
use Rattle.std.proofs.lemmas.Bool.Decides.{nat_tests}
use Rattle.std.proofs.lemmas.List.Folds.{list_all-append}
use Rattle.std.proofs.lemmas.List.Concat.{flat_map-cons}
use Rattle.ccb.specs.Status.{code_of}
use Rattle.trace_lines.specs.declared.kind.Kind.{Kind}
use Rattle.trace_lines.specs.declared.kind.Kind.TheVariants as kinds
use Rattle.trace_lines.specs.declared.value.Value.{Value}
use Rattle.trace_lines.specs.declared.value.Value.TheVariants as values
use Rattle.trace_lines.specs.Texts.{where_true, pair_text, is_byte, sense_text, field_text}
use Rattle.trace_lines.specs.Lines.{may_lack, slot_text}
use Rattle.trace_lines.specs.Reading.{is_black, is_last, is_nothing, is_behind, IsCutFor, ReadsSlot}
use Rattle.trace_lines.specs.Written.{IsPut, Reads}
use Rattle.trace_lines.proofs.Tests.{both, passed}
use Rattle.trace_lines.proofs.Cutting.{cut_once}
use Rattle.trace_lines.proofs.Decimals.{decimal_black}

by_size : (digit : ℕ) (small : Bool) → nat_lt digit 10 ≡ small → is_black (digit_glyph false digit) ≡ true
by_size digit true e = rw e (grind (arith, nat_tests))
by_size digit false e = rw e (grind (arith, nat_tests))

black_glyph : (digit : ℕ) → is_black (digit_glyph false digit) ≡ true
black_glyph digit = by_size digit (nat_lt digit 10) refl

black_pair : (byte : ℕ) → list_all is_black (pair_text byte) ≡ true
black_pair byte = rw (black_glyph (byte / 16), black_glyph (byte % 16)) refl

black_pairs : (bytes : List ℕ) → list_all is_black (flat_map pair_text bytes) ≡ true
black_pairs [] = refl
black_pairs (b ∷ bytes) =
    ap (list_all is_black) (flat_map-cons pair_text b bytes) ∙ list_all-append is_black (pair_text b) (flat_map pair_text bytes) ∙ rw (black_pair b, black_pairs bytes) refl

black_sense : (bytes text : List ℕ) → sense_text bytes ≡ Some text → list_all is_black text ≡ true
black_sense [] text e = let same : codes "-" ≡ text = cc in ap (list_all is_black) (sym same)
black_sense (b ∷ bytes) text e = let told = passed _ (flat_map pair_text (b ∷ bytes)) text e in ap (list_all is_black) (sym told.1) ∙ black_pairs (b ∷ bytes)

-- a number's digits
black_number : (test : Bool) (number : ℕ) (text : List ℕ) → (test ≡ true → number < 2 ^ 64) → where_true test (decimal number) ≡ Some text → list_all is_black text ≡ true
black_number test number text fits e = let told = passed test (decimal number) text e in ap (list_all is_black) (sym told.1) ∙ decimal_black number (fits told.0)

black_two : (test : Bool) (byte : ℕ) (text : List ℕ) → where_true test (pair_text byte) ≡ Some text → list_all is_black text ≡ true
black_two test byte text e = let told = passed test (pair_text byte) text e in ap (list_all is_black) (sym told.1) ∙ black_pair byte

-- no field but where a run stopped has a blank
pub field_black : (kind : Kind) (value : Value) (text : List ℕ) → is_last kind ≡ false → field_text kind value ≡ Some text → list_all is_black text ≡ true
unfolding field_text
field_black kinds.Number (values.Number number) text plain e = black_number (nat_lt number (2 ^ 32)) number text (λ h. omega (arith, ltb-true number (2 ^ 32) h)) e
field_black kinds.LongNumber (values.LongNumber number) text plain e = black_number (nat_lt number (2 ^ 64)) number text (λ h. ltb-true number (2 ^ 64) h) e
field_black kinds.Instructions (values.Number count) text plain e = black_number (nat_lt 0 count && nat_le count 65536) count text (λ h. grind (arith, nat_tests)) e
field_black kinds.Status (values.Status status) text plain e = black_two (nat_lt 0 (code_of status)) (code_of status) text e
field_black kinds.Byte (values.Byte byte) text plain e = black_two (is_byte byte) byte text e
field_black kinds.Sense (values.Bytes bytes) text plain e = black_sense bytes text e
field_black kinds.Stop value text plain e = absurd cc
field_black kinds.Class value text plain e = absurd cc
field_black kind value text plain e = absurd cc

-- ---- a field in front

nothing_left : (rest : List ℕ) → is_nothing rest ≡ true → rest ≡ []
nothing_left [] h = refl
nothing_left (b ∷ rest) h = absurd cc

-- the field and what is after it are found
found_field : (kind : Kind) (value : Value) (text word after told rest : List ℕ) (stop : Bool) → is_last kind ≡ stop → IsCutFor kind text word after → field_text kind value ≡ Some told → text ≡ told ++ rest
    → is_behind (Some kind) rest ≡ true → (word ≡ told) × (after ≡ rest)
found_field kind value text word after told rest true is cut e whole behind =
    let none : rest ≡ [] = nothing_left rest (rw is at behind) in
    let here : after ≡ [] = cut.all is in
    let left : text ≡ word = cut.whole ∙ ap (λ (t : List ℕ). word ++ t) here ∙ append-nil word in
    let right : text ≡ told = whole ∙ ap (λ (t : List ℕ). told ++ t) none ∙ append-nil told in
    (sym left ∙ right, here ∙ sym none)
found_field kind value text word after told rest false is cut e whole behind =
    let first = cut.first is in
    cut_once word told after rest (sym cut.whole ∙ whole) first.black first.ends (field_black kind value told is e) (rw is at behind)

spelled_behind : (o : Option (List ℕ)) (told : List ℕ) → option_append (Some (codes " ")) o ≡ Some told → (y : List ℕ) × (o ≡ Some y) × (told ≡ 32 ∷ y)
spelled_behind None told e = absurd cc
spelled_behind (Some y) told e = (y, refl, cc)

tail_of : (a b : List ℕ) → 32 ∷ a ≡ 32 ∷ b → a ≡ b
tail_of a b e = cc

-- a field that is left out has no text, and may be left out
slot_lacks : (kind : Kind) (told : List ℕ) → slot_text (Some kind) None ≡ Some told → (may_lack kind ≡ true) × (told ≡ [])
slot_lacks kind told e = let its = passed (may_lack kind) [] told e in (its.0, sym its.1)

-- what may be left out comes last
lacks_last : (kind : Kind) → may_lack kind ≡ true → is_last kind ≡ true
lacks_last kinds.Class h = refl
lacks_last kind h = absurd cc

-- where it is left out nothing stands there
nothing_there : (kind : Kind) (text told rest : List ℕ) → slot_text (Some kind) None ≡ Some told → text ≡ told ++ rest → is_behind (Some kind) rest ≡ true → text ≡ []
nothing_there kind text told rest e whole behind =
    let lacks = slot_lacks kind told e in
    let last = lacks_last kind lacks.0 in
    whole ∙ ap (λ (t : List ℕ). t ++ rest) lacks.1 ∙ nothing_left rest (rw last at behind)

no_front : (kind : Kind) (value : Option Value) (text told rest : List ℕ) → (may_lack kind ≡ true → text ≢ []) → ((rest : List ℕ) → text ≢ 32 ∷ rest) → slot_text (Some kind) value ≡ Some told → text ≡ told ++ rest
    → is_behind (Some kind) rest ≡ true → ⊥
no_front kind None text told rest some apart e whole behind = some (slot_lacks kind told e).0 (nothing_there kind text told rest e whole behind)
no_front kind (Some v) text told rest some apart e whole behind =
    let parts = spelled_behind (field_text kind v) told e in
    apart (parts.0 ++ rest) (whole ∙ ap (λ (t : List ℕ). t ++ rest) parts.2)

-- nothing stands there that is no field
pub no_slot : (kind : Kind) (text : List ℕ) (held : Option Value) → (may_lack kind ≡ true → text ≢ []) → ((rest : List ℕ) → text ≢ 32 ∷ rest) → ReadsSlot (Some kind) text held None
no_slot kind text held some apart = record {
  said = tt;
  back = λ value told rest e whole behind. absurd (no_front kind value text told rest some apart e whole behind);
}

no_blank_there : (told rest : List ℕ) → [] ≡ (32 ∷ told) ++ rest → ⊥
no_blank_there told rest e = cc

-- a field that is left out, at the end of the text
lacked : (kind : Kind) (text : List ℕ) (value : Option Value) (told rest : List ℕ) → text ≡ [] → slot_text (Some kind) value ≡ Some told → text ≡ told ++ rest → (None ≡ value) × (rest ≡ [])
lacked kind text None told rest none e whole =
    let lacks = slot_lacks kind told e in
    (refl, ap (λ (t : List ℕ). t ++ rest) (sym lacks.1) ∙ sym whole ∙ none)
lacked kind text (Some v) told rest none e whole =
    let parts = spelled_behind (field_text kind v) told e in
    absurd (no_blank_there parts.0 rest (sym none ∙ whole ∙ ap (λ (t : List ℕ). t ++ rest) parts.2))

nothing_so : (text : List ℕ) → (length text == 0) ≡ true → text ≡ []
nothing_so [] h = refl
nothing_so (b ∷ text) h = absurd (grind (arith, nat_tests))

pub left_out : (kind : Kind) (text : Bor (List ℕ)) → (may_lack kind && (length text.now == 0)) ≡ true → ReadsSlot (Some kind) text.now None (Some text)
left_out kind text h =
    let tests = both (may_lack kind) (length text.now == 0) h in
    let none = nothing_so text.now tests.1 in
    record {
      said = ([], ap (λ (b : Bool). where_true b []) tests.0, refl);
      back = λ value told rest e whole behind.
          let its = lacked kind text.now value told rest none e whole in
          (its.0, none ∙ sym its.1);
    }

-- else what may be left out is there
pub some_there : (kind : Kind) (text : List ℕ) → (may_lack kind && (length text == 0)) ≡ false → may_lack kind ≡ true → text ≢ []
some_there kind text h lacks none =
    let is : (may_lack kind && (length text == 0)) ≡ true = ap (λ (b : Bool). b && (length text == 0)) lacks ∙ ap (λ (t : List ℕ). length t == 0) none in
    let bad : true ≡ false = sym is ∙ h in
    cc

-- ---- a field that is left out, as it is printed

pub lack_put : (kind : Kind) (old : List ℕ) → may_lack kind ≡ true → IsPut (slot_text (Some kind) None) old old
lack_put kind old h = ap (λ (b : Bool). option_append (Some old) (where_true b [])) h ∙ ap Some (append-nil old)

pub lack_none : (kind : Kind) → may_lack kind ≡ false → slot_text (Some kind) None ≡ None
lack_none kind h = ap (λ (b : Bool). where_true b []) h

no_blank_here : (inner : List ℕ) → 32 ∷ inner ≡ [] → ⊥
no_blank_here inner e = cc

module _ (kind : Kind) (text inner word after : List ℕ) (front : text ≡ 32 ∷ inner) (cut : IsCutFor kind inner word after) where
  -- a value that is spelled in front
  front_value : (value : Option Value) (told rest : List ℕ) → slot_text (Some kind) value ≡ Some told → text ≡ told ++ rest → is_behind (Some kind) rest ≡ true
      → (v : Value) × (value ≡ Some v) × (field_text kind v ≡ Some word) × (after ≡ rest)
  front_value None told rest e whole behind = absurd (no_blank_here inner (sym front ∙ nothing_there kind text told rest e whole behind))
  front_value (Some v) told rest e whole behind =
      let parts = spelled_behind (field_text kind v) told e in
      let joined : inner ≡ parts.0 ++ rest = tail_of inner (parts.0 ++ rest) (sym front ∙ whole ∙ ap (λ (t : List ℕ). t ++ rest) parts.2) in
      let found = found_field kind v inner word after parts.0 rest (is_last kind) refl cut parts.1 joined behind in
      (v, refl, parts.1 ∙ ap Some (sym found.0), found.1)

  pub unread_slot : (held : Option Value) → Reads (field_text kind) word None → ReadsSlot (Some kind) text held None
  unread_slot held none = record {
    said = tt;
    back = λ value told rest e whole behind.
        let parts = front_value value told rest e whole behind in
        let there = none.back parts.0 parts.2 in
        absurd cc;
  }

  pub read_slot : (v : Value) (rest_ref : Bor (List ℕ)) → rest_ref.now ≡ after → Reads (field_text kind) word (Some v) → ReadsSlot (Some kind) text (Some v) (Some rest_ref)
  read_slot v rest_ref is reads = record {
    said = (32 ∷ word, ap (option_append (Some (codes " "))) reads.said, front ∙ ap (λ (t : List ℕ). 32 ∷ t) (cut.whole ∙ ap (λ (t : List ℕ). word ++ t) (sym is)));
    back = λ value told rest e whole behind.
        let parts = front_value value told rest e whole behind in
        let there = reads.back parts.0 parts.2 in
        (there ∙ sym parts.1, is ∙ parts.3);
  }
