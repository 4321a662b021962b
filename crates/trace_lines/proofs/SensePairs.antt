-- A word of pairs of digits, and its bytes.
use Rattle.std.proofs.Common.{◌≡◌, ◌<◌, ◌≤◌, ◌+◌, ◌&&◌, ℕ, Bool, true, false, Option, Some, None, List, [], ◌∷◌, ◌++◌, length, take, get_or, refl, sym, ap, ◌∙◌, arith, nat_lt, nat_le, append_assoc, append-nil, length-append, add-one, ◌-◌, ◌/◌, ◌%◌, drop, inl, inr, SomeIff}
use Rattle.std.specs.Prelude.{◌⊎◌}
use Rattle.std.specs.Fmt.{digit_glyph}
use Rattle.std.proofs.Math.ListN.{set}
use Rattle.std.proofs.Math.Seq.{take-suc-set}
use Rattle.std.proofs.lemmas.List.{take_all}
use Rattle.std.proofs.lemmas.Bool.Decides.{nat_tests}
use Rattle.std.specs.Prelude.{flat_map, if◌then◌else◌}
use Rattle.std.specs.List.{list_all}
use Rattle.std.specs.Option.{option_map}
use Rattle.std.proofs.lemmas.Bool.{ltb-true, lt-ltb}
use Rattle.std.proofs.lemmas.List.Concat.{flat_map-cons}
use Rattle.base.specs.Hexadecimal.{is_digit, pair_value}
use Rattle.trace_lines.specs.Texts.{pair_text, is_byte, bytes_text}
use Rattle.trace_lines.specs.Written.{Reads}
use Rattle.trace_lines.proofs.Tests.{passed, both, three}
use Rattle.trace_lines.proofs.Pairs.{byte_of_pair, pair_of_byte}

-- the bytes of pairs of digits
pub bytes_in : List ℕ → Option (List ℕ)
bytes_in [] = Some []
bytes_in (high ∷ []) = None
bytes_in (high ∷ low ∷ rest) = if is_digit high && is_digit low then option_map (λ more. pair_value high low ∷ more) (bytes_in rest) else None

-- the word is read as what was read so far and what the rest is read as
pub record IsReadSoFar (word bytes rest : List ℕ) : Type 0 where
  pub is : bytes_in word ≡ option_map (λ more. bytes ++ more) (bytes_in rest)

option_push : (xs : List ℕ) (v : ℕ) (o : Option (List ℕ)) → option_map (λ (more : List ℕ). xs ++ more) (option_map (λ (more : List ℕ). v ∷ more) o) ≡ option_map (λ (more : List ℕ). (xs ++ v ∷ []) ++ more) o
option_push xs v None = refl
option_push xs v (Some more) = ap Some (sym (append_assoc xs (v ∷ []) more))

option_same : (f : List ℕ → List ℕ) (o : Option (List ℕ)) (v : List ℕ) → option_map f o ≡ Some v → (more : List ℕ) × (o ≡ Some more) × (f more ≡ v)
option_same f None v e = absurd cc
option_same f (Some more) v e = (more, refl, cc)

in_front : (high low : ℕ) (rest : List ℕ) → is_digit high ≡ true → is_digit low ≡ true → bytes_in (high ∷ low ∷ rest) ≡ option_map (λ more. pair_value high low ∷ more) (bytes_in rest)
unfolding bytes_in
in_front high low rest h l = rw (h, l) refl

not_front : (high low : ℕ) (rest : List ℕ) → (is_digit high && is_digit low) ≡ false → bytes_in (high ∷ low ∷ rest) ≡ None
unfolding bytes_in
not_front high low rest h = rw h refl

-- what two elements and the rest of a list are
pub parted : (rest : List ℕ) → 2 ≤ length rest → rest ≡ get_or rest 0 0 ∷ get_or rest 1 0 ∷ take (length rest - 2) (drop 2 rest)
parted [] long = absurd (omega arith)
parted (x ∷ []) long = absurd (omega arith)
parted (x ∷ y ∷ rest) long = ap (λ (t : List ℕ). x ∷ y ∷ t) (sym (take_all (length (x ∷ y ∷ rest) - 2) rest (omega arith)))

-- ---- one pair more

pub one_pair : (word bytes rest : List ℕ) (count byte : ℕ) → count < length bytes → 2 ≤ length rest → is_digit (get_or rest 0 0) ≡ true → is_digit (get_or rest 1 0) ≡ true
    → byte ≡ pair_value (get_or rest 0 0) (get_or rest 1 0) → IsReadSoFar word (take count bytes) rest
    → IsReadSoFar word (take (count + 1) (set bytes count byte)) (take (length rest - 2) (drop 2 rest))
one_pair word bytes rest count byte room long h l value so_far =
    let tail = take (length rest - 2) (drop 2 rest) in
    let front : bytes_in rest ≡ option_map (λ more. byte ∷ more) (bytes_in tail) =
    ap bytes_in (parted rest long) ∙ in_front (get_or rest 0 0) (get_or rest 1 0) tail h l ∙ ap (λ (v : ℕ). option_map (λ (more : List ℕ). v ∷ more) (bytes_in tail)) (sym value) in
    let taken : take (count + 1) (set bytes count byte) ≡ take count bytes ++ byte ∷ [] = rw add-one (take-suc-set bytes count byte room) in
    record {
      is = so_far.is ∙ ap (option_map (λ (more : List ℕ). take count bytes ++ more)) front ∙ option_push (take count bytes) byte (bytes_in tail)
          ∙ ap (λ (xs : List ℕ). option_map (λ (more : List ℕ). xs ++ more) (bytes_in tail)) (sym taken);
    }

-- ---- a word and its bytes

empty_word : (v : List ℕ) → bytes_in [] ≡ Some v → v ≡ []
unfolding bytes_in
empty_word v e = cc

single : (high : ℕ) → bytes_in (high ∷ []) ≡ None
unfolding bytes_in
single high = refl

split_front : (high low : ℕ) (rest v : List ℕ) (test : Bool) → (is_digit high && is_digit low) ≡ test → bytes_in (high ∷ low ∷ rest) ≡ Some v
    → (more : List ℕ) × (bytes_in rest ≡ Some more) × (v ≡ pair_value high low ∷ more) × (is_digit high ≡ true) × (is_digit low ≡ true)
split_front high low rest v true digits e =
    let ds = both (is_digit high) (is_digit low) digits in
    let found = option_same (λ (more : List ℕ). pair_value high low ∷ more) (bytes_in rest) v (sym (in_front high low rest ds.0 ds.1) ∙ e) in
    (found.0, found.1, sym found.2, ds.0, ds.1)
split_front high low rest v false digits e = let none = not_front high low rest digits in absurd cc

pub text_of_bytes : (word v : List ℕ) → bytes_in word ≡ Some v → (flat_map pair_text v ≡ word) × (list_all is_byte v ≡ true)
text_of_bytes [] v e = let none = empty_word v e in rw none (refl, refl)
text_of_bytes (high ∷ []) v e = let none = single high in absurd cc
text_of_bytes (high ∷ low ∷ rest) v e =
    let parts = split_front high low rest v (is_digit high && is_digit low) refl e in
    let inner = text_of_bytes rest parts.0 parts.1 in
    let pair = pair_of_byte high low parts.3 parts.4 in
    let test : nat_lt (pair_value high low) 256 ≡ true = lt-ltb (pair_value high low) 256 pair.0 in
    let text : flat_map pair_text (pair_value high low ∷ parts.0) ≡ high ∷ low ∷ rest =
    flat_map-cons pair_text (pair_value high low) parts.0 ∙ ap (λ (t : List ℕ). t ++ flat_map pair_text parts.0) pair.1 ∙ ap (λ (t : List ℕ). high ∷ low ∷ t) inner.0 in
    let bytes : list_all is_byte (pair_value high low ∷ parts.0) ≡ true = rw (test, inner.1) refl in
    (ap (flat_map pair_text) parts.2 ∙ text, ap (list_all is_byte) parts.2 ∙ bytes)

pub bytes_again : (v : List ℕ) → list_all is_byte v ≡ true → bytes_in (flat_map pair_text v) ≡ Some v
unfolding bytes_in
bytes_again [] all = refl
bytes_again (b ∷ bs) all =
    let parts = both (is_byte b) (list_all is_byte bs) all in
    let pair = byte_of_pair b (ltb-true b 256 parts.0) in
    let inner = bytes_again bs parts.1 in
    ap bytes_in (flat_map-cons pair_text b bs) ∙ in_front (digit_glyph false (b / 16)) (digit_glyph false (b % 16)) (flat_map pair_text bs) pair.0 pair.1
    ∙ ap (option_map (λ (more : List ℕ). pair_value (digit_glyph false (b / 16)) (digit_glyph false (b % 16)) ∷ more)) inner ∙ ap (λ (n : ℕ). Some (n ∷ bs)) pair.2

-- ---- what is read of a word

pub record Spelled (word v : List ℕ) : Type 0 where
  pub read : bytes_in word ≡ Some v
  pub some : 0 < length v
  pub few : length v ≤ 64

pub spelled : (word v : List ℕ) → bytes_text v ≡ Some word → Spelled word v
spelled word v e =
    let told = passed (nat_lt 0 (length v) && nat_le (length v) 64 && list_all is_byte v) (flat_map pair_text v) word e in
    let tests = three (nat_lt 0 (length v)) (nat_le (length v) 64) (list_all is_byte v) told.0 in
    record {
      read = ap bytes_in (sym told.1) ∙ bytes_again v tests.2;
      some = ltb-true 0 (length v) tests.0;
      few = grind (arith, nat_tests);
    }

-- nothing has this text
pub unread : (word : List ℕ) → bytes_in word ≡ None → Reads bytes_text word None
unread word none = record { said = tt; back = λ v e. let it = (spelled word v e).read in absurd cc }

none_behind : (word xs rest : List ℕ) → IsReadSoFar word xs rest → bytes_in rest ≡ None → Reads bytes_text word None
none_behind word xs rest so_far none = unread word (so_far.is ∙ ap (option_map (λ (more : List ℕ). xs ++ more)) none)

pub first_fails : (a b : Bool) → a ≡ false → (a && b) ≡ false
first_fails a b e = rw e refl

pub second_fails : (a b : Bool) → b ≡ false → (a && b) ≡ false
second_fails true b e = e
second_fails false b e = refl

-- two codes of which one is no digit
pub no_digit : (word xs rest : List ℕ) → IsReadSoFar word xs rest → 2 ≤ length rest → (is_digit (get_or rest 0 0) && is_digit (get_or rest 1 0)) ≡ false → Reads bytes_text word None
no_digit word xs rest so_far long fails = none_behind word xs rest so_far (ap bytes_in (parted rest long) ∙ not_front (get_or rest 0 0) (get_or rest 1 0) (take (length rest - 2) (drop 2 rest)) fails)

more_than : (xs rest v more : List ℕ) → 64 ≤ length xs → 0 < length rest → flat_map pair_text more ≡ rest → length v ≡ length xs + length more → length v ≤ 64 → ⊥
more_than xs rest v [] long some text sum few = let empty : length rest ≡ 0 = ap length (sym text) in omega arith
more_than xs rest v (m ∷ more) long some text sum few = omega arith

-- 64 bytes and more
pub too_many : (word xs rest : List ℕ) → IsReadSoFar word xs rest → 64 ≤ length xs → 0 < length rest → Reads bytes_text word None
too_many word xs rest so_far long some = record {
  said = tt;
  back = λ v e.
      let it = spelled word v e in
      let found = option_same (λ (more : List ℕ). xs ++ more) (bytes_in rest) v (sym so_far.is ∙ it.read) in
      absurd (more_than xs rest v found.0 long some (text_of_bytes rest found.0 found.1).0 (ap length (sym found.2) ∙ length-append xs found.0) it.few);
}

whole_of : (word xs v : List ℕ) → IsReadSoFar word xs [] → bytes_in word ≡ Some v → v ≡ xs ++ []
unfolding bytes_in
whole_of word xs v so_far e = let is = so_far.is in cc

-- a code is left over, or nothing was read
pub nothing_whole : (word xs rest : List ℕ) → IsReadSoFar word xs rest → length rest < 2 → (length xs ≡ 0) ⊎ (0 < length rest) → Reads bytes_text word None
nothing_whole word xs [] so_far short (inl none) = record {
  said = tt;
  back = λ v e.
      let it = spelled word v e in
      let same : v ≡ xs ++ [] = whole_of word xs v so_far it.read in
      absurd (omega (arith, it.some, ap length same ∙ length-append xs []));
}
nothing_whole word xs [] so_far short (inr left) = absurd (omega arith)
nothing_whole word xs (x ∷ []) so_far short which = none_behind word xs (x ∷ []) so_far (single x)
nothing_whole word xs (x ∷ y ∷ rest) so_far short which = absurd (omega arith)

whole_read : (word xs : List ℕ) → IsReadSoFar word xs [] → bytes_in word ≡ Some xs
unfolding bytes_in
whole_read word xs so_far = so_far.is ∙ ap Some (append-nil xs)

-- all of it was read
pub whole : (word xs rest : List ℕ) (read : Option (List ℕ)) → IsReadSoFar word xs rest → length rest ≡ 0 → 0 < length xs → length xs ≤ 64 → SomeIff read (length xs ≤ 64) xs → Reads bytes_text word read
whole word xs rest None so_far end some few is = absurd (is few)
whole word xs (x ∷ rest) (Some v) so_far end some few is = absurd (omega arith)
whole word xs [] (Some v) so_far end some few is =
    let read : bytes_in word ≡ Some xs = whole_read word xs so_far in
    let text = text_of_bytes word xs read in
    let first : nat_lt 0 (length xs) ≡ true = lt-ltb 0 (length xs) some in
    let last : nat_le (length xs) 64 ≡ true = grind (arith, nat_tests) in
    let told : bytes_text xs ≡ Some word = rw (first, last, text.1) (ap Some text.0) in
    record {
      said = ap bytes_text is.1 ∙ told;
      back = λ u e. let it = (spelled word u e).read in let same : xs ≡ u = cc in ap Some (is.1 ∙ same);
    }
