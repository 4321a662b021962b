-- The words that a program is printed with are read again: registers, decimal numbers, and constants of base 16.
use Rattle.std.proofs.Common.{◌≡◌, ◌<◌, ◌+◌, ◌*◌, ◌/◌, ◌%◌, ◌^◌, ℕ, Bool, true, false, ◌||◌, ◌&&◌, nat_eq, List, [], ◌∷◌, length, Option, Some, None, codes, bytes_eq, refl, sym, ap, ◌∙◌, inl, inr, arith, rules, lit<}
use Rattle.std.specs.Prelude.{decimal, flat_map, is_some}
use Rattle.std.specs.List.{list_all, AllByRecursion}
use Rattle.std.specs.Int.{w64, to_be_bytes}
use Rattle.std.specs.Fmt.{digits}
use Rattle.std.proofs.lemmas.Str.Parse.{IsNumeralModel, IsDigitsTest, FoldsDigits, numerals_by_fold}
use Rattle.std.proofs.lemmas.Fmt.{digits_decimal, digits_value-decimal, decimal_nonempty}
use Rattle.std.proofs.lemmas.Bool.{lt-ltb, eqb-true}
use Rattle.std.proofs.lemmas.Nat.{from_be_bytes-to_be_bytes_8, div-add-mod'}
use Rattle.std.proofs.lemmas.Grind.{common_steps}
use Rattle.bpf_insn.specs.declared.reg.Reg.{Reg}
use Rattle.bpf_insn.specs.declared.reg.Reg.TheVariants.{R0, R1, R2, R3, R4, R5, R6, R7, R8, R9, R10}
use Rattle.bpf_asm.specs.Bytes.{is_letter, is_digit, is_hexadecimal_digit, is_word}
use Rattle.bpf_asm.specs.Numbers.{is_name, is_hexadecimal, number_of, digit_of, value_after, below_64_bits, is_the_mark, is_some_mark, is_token}
use Rattle.bpf_asm.specs.Reading.{register_of}
use Rattle.bpf_asm.specs.Canon.{register_text, byte_text, word_text, digit_text}
use Rattle.bpf_asm.proofs.Scanning.{tested}

-- ---- digits

abbrev all_digits : List ℕ → Type 0
all_digits bytes = list_all is_digit bytes ≡ true

digits_test : IsDigitsTest all_digits
unfolding is_digit
digits_test = search rules

digits_fold : FoldsDigits (value_after 10)
unfolding digit_of
digits_fold = search rules

own : IsNumeralModel all_digits (value_after 10 0)
own = numerals_by_fold all_digits digits_test (value_after 10) digits_fold

-- what reading needs to know of a word: letters, digits and `_` alone, and at least one
pub record IsWord (word : List ℕ) : Type 0 where
  pub alone : list_all is_word word ≡ true
  pub long : 0 < length word

digit_is_word : (b : ℕ) → is_digit b ≡ true → is_word b ≡ true
unfolding is_digit is_word
digit_is_word b h = grind (arith, common_steps)

hexadecimal_is_word : (b : ℕ) → is_hexadecimal_digit b ≡ true → is_word b ≡ true
unfolding is_hexadecimal_digit is_word
hexadecimal_is_word b h = grind (arith, common_steps)

pub both : (a b : Bool) → (a && b) ≡ true → (a ≡ true) × (b ≡ true)
both true b h = (refl, h)
both false b h = absurd cc

digits_are_words : (bytes : List ℕ) → list_all is_digit bytes ≡ true → list_all is_word bytes ≡ true
digits_are_words [] h = refl
digits_are_words (b ∷ bytes) h =
    let parts = both (is_digit b) (list_all is_digit bytes) h in
    rw (digit_is_word b parts.0, digits_are_words bytes parts.1) refl

hexadecimal_are_words : (bytes : List ℕ) → list_all is_hexadecimal_digit bytes ≡ true → list_all is_word bytes ≡ true
hexadecimal_are_words [] h = refl
hexadecimal_are_words (b ∷ bytes) h =
    let parts = both (is_hexadecimal_digit b) (list_all is_hexadecimal_digit bytes) h in
    rw (hexadecimal_is_word b parts.0, hexadecimal_are_words bytes parts.1) refl

other : (b mark : ℕ) → is_word b ≡ true → is_word mark ≡ false → nat_eq b mark ≡ false
other b mark h apart = elim (tested (nat_eq b mark)) [ inl e ↦ absurd (let same : b ≡ mark = eqb-true b mark e in let twice : true ≡ false = sym h ∙ ap is_word same ∙ apart in cc) | inr e ↦ e ]

-- a word is no mark
pub no_mark : (mark : ℕ) (word : List ℕ) → is_word mark ≡ false → IsWord word → is_the_mark mark word ≡ false
no_mark mark [] apart w = absurd (omega (arith, w.long))
no_mark mark (b ∷ bytes) apart w =
    let first = both (is_word b) (list_all is_word bytes) w.alone in
    rw (other b mark first.0 apart) refl

-- ---- decimal numbers

module _ (n : ℕ) (fits : n < 2 ^ 64) where
  decimal_digits : list_all is_digit (decimal n) ≡ true
  decimal_digits = digits_decimal own n fits

  pub decimal_word : IsWord (decimal n)
  decimal_word = record { alone = digits_are_words (decimal n) decimal_digits; long = decimal_nonempty n fits }

digit_is_no_x : (b : ℕ) → is_digit b ≡ true → nat_eq b 120 ≡ false
unfolding is_digit
digit_is_no_x b h = grind (arith, common_steps)

digit_is_no_r : (b : ℕ) → is_digit b ≡ true → nat_eq b 114 ≡ false
unfolding is_digit
digit_is_no_r b h = grind (arith, common_steps)

false_right : (a : Bool) → (a && false) ≡ false
false_right true = refl
false_right false = refl

-- decimal digits do not begin with `0x`
no_prefix : (bytes : List ℕ) → list_all is_digit bytes ≡ true → is_hexadecimal bytes ≡ false
no_prefix [] h = refl
no_prefix (a ∷ []) h = rw false_right refl
no_prefix (a ∷ b ∷ bytes) h =
    let parts = both (is_digit a) (list_all is_digit (b ∷ bytes)) h in
    let second = both (is_digit b) (list_all is_digit bytes) parts.1 in
    rw (digit_is_no_x b second.0, false_right) refl

pub decimal_number : (n : ℕ) → n < 2 ^ 64 → number_of (decimal n) ≡ Some (Some n)
unfolding number_of
decimal_number n fits =
    rw (no_prefix (decimal n) (decimal_digits n fits), lt-ltb 0 (length (decimal n)) (decimal_nonempty n fits), decimal_digits n fits, digits_value-decimal own n fits, lt-ltb n (2 ^ 64) fits) refl

no_register_digits : (bytes : List ℕ) → list_all is_digit bytes ≡ true → register_of bytes ≡ None
unfolding register_of
no_register_digits [] h = refl
no_register_digits (b ∷ bytes) h =
    let first = both (is_digit b) (list_all is_digit bytes) h in
    rw (digit_is_no_r b first.0) refl

pub decimal_no_register : (n : ℕ) → n < 2 ^ 64 → register_of (decimal n) ≡ None
decimal_no_register n fits = no_register_digits (decimal n) (decimal_digits n fits)

digit_is_no_l : (b : ℕ) → is_digit b ≡ true → nat_eq b 108 ≡ false
unfolding is_digit
digit_is_no_l b h = grind (arith, common_steps)

no_local_digits : (bytes : List ℕ) → list_all is_digit bytes ≡ true → bytes_eq bytes (codes "local") ≡ false
no_local_digits [] h = refl
no_local_digits (b ∷ bytes) h =
    let first = both (is_digit b) (list_all is_digit bytes) h in
    rw (digit_is_no_l b first.0) refl

pub decimal_no_local : (n : ℕ) → n < 2 ^ 64 → bytes_eq (decimal n) (codes "local") ≡ false
decimal_no_local n fits = no_local_digits (decimal n) (decimal_digits n fits)

or_left : (a b c : Bool) → b ≡ true → (a || b || c) ≡ true
or_left true b c h = refl
or_left false true c h = refl
or_left false false c h = absurd cc

number_is_token : (word : List ℕ) (value : Option ℕ) → number_of word ≡ Some value → is_token word ≡ true
unfolding is_token
number_is_token word value e = or_left (is_name word) (is_some (number_of word)) (is_some_mark word) (ap is_some e)

pub decimal_token : (n : ℕ) → n < 2 ^ 64 → is_token (decimal n) ≡ true
decimal_token n fits = number_is_token (decimal n) (Some n) (decimal_number n fits)

-- ---- registers

pub record IsRegister (reg : Reg) : Type 0 where
  pub found : register_of (register_text reg) ≡ Some reg
  pub word : IsWord (register_text reg)
  pub token : is_token (register_text reg) ≡ true

pub is_register : (reg : Reg) → IsRegister reg
unfolding digits register_of is_word is_letter is_digit is_token number_of
is_register R0 = record { found = refl; word = record { alone = refl; long = lit< tt }; token = refl }
is_register R1 = record { found = refl; word = record { alone = refl; long = lit< tt }; token = refl }
is_register R2 = record { found = refl; word = record { alone = refl; long = lit< tt }; token = refl }
is_register R3 = record { found = refl; word = record { alone = refl; long = lit< tt }; token = refl }
is_register R4 = record { found = refl; word = record { alone = refl; long = lit< tt }; token = refl }
is_register R5 = record { found = refl; word = record { alone = refl; long = lit< tt }; token = refl }
is_register R6 = record { found = refl; word = record { alone = refl; long = lit< tt }; token = refl }
is_register R7 = record { found = refl; word = record { alone = refl; long = lit< tt }; token = refl }
is_register R8 = record { found = refl; word = record { alone = refl; long = lit< tt }; token = refl }
is_register R9 = record { found = refl; word = record { alone = refl; long = lit< tt }; token = refl }
is_register R10 = record { found = refl; word = record { alone = refl; long = lit< tt }; token = refl }

-- ---- constants of base 16

digit_is : (d : ℕ) → d < 16 → digit_of (digit_text d) ≡ d
unfolding digit_of
digit_is d h = grind (arith, common_steps)

digit_is_hexadecimal : (d : ℕ) → d < 16 → is_hexadecimal_digit (digit_text d) ≡ true
unfolding is_hexadecimal_digit
digit_is_hexadecimal d h = grind (arith, common_steps)

abbrev AreBytes : List ℕ → Type 0
AreBytes bytes = AllByRecursion (λ b. b < 256) bytes

high_digit : (b : ℕ) → b < 256 → b / 16 < 16
high_digit b h = omega (arith, div-add-mod' b 16)

low_digit : (b : ℕ) → b % 16 < 16
low_digit b = grind (arith, common_steps)

two_digits : (b : ℕ) → b / 16 * 16 + b % 16 ≡ b
two_digits b = div-add-mod' b 16

bytes_are_hexadecimal : (bytes : List ℕ) → AreBytes bytes → list_all is_hexadecimal_digit (flat_map byte_text bytes) ≡ true
bytes_are_hexadecimal [] h = refl
bytes_are_hexadecimal (b ∷ bytes) h = rw (digit_is_hexadecimal (b / 16) (high_digit b h.0), digit_is_hexadecimal (b % 16) (low_digit b)) (bytes_are_hexadecimal bytes h.1)

-- the number whose bytes these are after those of the number so far
abbrev bytes_after : ℕ → List ℕ → ℕ
bytes_after value [] = value
bytes_after value (b ∷ bytes) = bytes_after (value * 256 + b) bytes

value_of_bytes : (value : ℕ) (bytes : List ℕ) → AreBytes bytes → value_after 16 value (flat_map byte_text bytes) ≡ bytes_after value bytes
value_of_bytes value [] h = refl
value_of_bytes value (b ∷ bytes) h =
    let next : (value * 16 + b / 16) * 16 + b % 16 ≡ value * 256 + b = omega (arith, two_digits b) in
    rw (digit_is (b / 16) (high_digit b h.0), digit_is (b % 16) (low_digit b), next) (value_of_bytes (value * 256 + b) bytes h.1)

word_bytes : (n : ℕ) → n < 2 ^ 64 → bytes_after 0 (to_be_bytes w64 n) ≡ n
word_bytes n h = omega (arith, from_be_bytes-to_be_bytes_8 n h)

below_256 : (m : ℕ) → m % 256 < 256
below_256 m = grind (arith, common_steps)

be_bytes_are : (n : ℕ) → AreBytes (to_be_bytes w64 n)
be_bytes_are n = (below_256 _, (below_256 _, (below_256 _, (below_256 _, (below_256 _, (below_256 _, (below_256 _, (below_256 _, tt))))))))

-- `0x` and digits
hexadecimal_number : (bytes : List ℕ) → list_all is_hexadecimal_digit bytes ≡ true → 0 < length bytes → number_of (48 ∷ 120 ∷ bytes) ≡ Some (below_64_bits (value_after 16 0 bytes))
unfolding number_of
hexadecimal_number bytes all long = rw (lt-ltb 0 (length bytes) long, all) refl

hexadecimal_alone : (bytes : List ℕ) → list_all is_hexadecimal_digit bytes ≡ true → list_all is_word (48 ∷ 120 ∷ bytes) ≡ true
unfolding is_word
hexadecimal_alone bytes all = hexadecimal_are_words bytes all

below : (n : ℕ) → n < 2 ^ 64 → below_64_bits n ≡ Some n
below n h = rw (lt-ltb n (2 ^ 64) h) refl

module _ (n : ℕ) (fits : n < 2 ^ 64) where
  pub constant_number : number_of (word_text n) ≡ Some (Some n)
  unfolding word_text
  constant_number =
      hexadecimal_number (flat_map byte_text (to_be_bytes w64 n)) (bytes_are_hexadecimal (to_be_bytes w64 n) (be_bytes_are n)) (lit< tt)
      ∙ ap (λ value. Some (below_64_bits value)) (value_of_bytes 0 (to_be_bytes w64 n) (be_bytes_are n) ∙ word_bytes n fits) ∙ ap (λ value. Some value) (below n fits)

  pub constant_token : is_token (word_text n) ≡ true
  constant_token = number_is_token (word_text n) (Some n) constant_number

pub constant_word : (n : ℕ) → IsWord (word_text n)
unfolding word_text
constant_word n = record { alone = hexadecimal_alone (flat_map byte_text (to_be_bytes w64 n)) (bytes_are_hexadecimal (to_be_bytes w64 n) (be_bytes_are n)); long = lit< tt }
