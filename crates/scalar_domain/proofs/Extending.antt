-- The low bits of a word, extended by their sign, by two shifts; and what 32 bits make of words by what 64 bits do.
use Rattle.std.proofs.Common.{◌≡◌, ℕ, suc, ◌+◌, ◌-◌, ◌*◌, ◌/◌, ◌%◌, ◌^◌, ◌<◌, ◌≤◌, ℤ, pos, negsuc, ap, sym, ◌∙◌, arith, div-le_self, mod-eq_of_lt, bit_and}
use Rattle.std.specs.Int.{Width, w8, w16, w32, w64, cast_signed, cast_unsigned, int_shr}
use Rattle.std.proofs.lemmas.Bool.{cases_lt, le-ltb}
use Rattle.std.proofs.lemmas.Int.{to_z_pos}
use Rattle.std.proofs.lemmas.Nat.{and_mask}
use mir.Val.{sel, bits, hbits}
use mathlib.Core.Logic.{⊎_elim}
use Rattle.bpf_insn.specs.declared.insn.AluOp.TheVariants.{Sub}
use Rattle.bpf_insn.specs.declared.insn.Width.{Width as InsnWidth}
use Rattle.bpf_insn.specs.declared.insn.Width.TheVariants.{Bits32, Bits64}
use Rattle.bpf_insn.specs.declared.insn.InPlaceOp.TheVariants.{Neg}
use Rattle.bpf_insn.specs.declared.insn.ByteOrder.{ByteOrder}
use Rattle.bpf_insn.specs.declared.insn.ByteOrder.TheVariants.{Little}
use Rattle.bpf_insn.specs.declared.insn.WordSize.{WordSize}
use Rattle.bpf_insn.specs.declared.insn.WordSize.TheVariants.{Word16, Word32, Word64}
use Rattle.bpf_words.specs.Words.{low, alu_of, in_place, swap, size_of, extended}
use Rattle.scalar_domain.proofs.Places.{signed_below, signed_above}

pub is_negative : (width : Width) (w : ℕ) → 2 ^ hbits width ≤ w → cast_signed width w ≡ negsuc (2 ^ bits width - suc w)
is_negative width w large = ap (λ b. sel b (pos w) (negsuc (2 ^ bits width - suc w))) (le-ltb w (2 ^ hbits width) large)

pub extension_of_8 : (w : ℕ) → cast_unsigned w64 (int_shr (cast_signed w64 (w * 2 ^ 56 % 2 ^ 64)) 56) ≡ cast_unsigned w64 (cast_signed w8 (low w8 w))
extension_of_8 w =
    let m = w % 2 ^ 8 in
    let x = w * 2 ^ 56 % 2 ^ 64 in
    ⊎_elim
    (λ lt.
    let left : cast_unsigned w64 (int_shr (cast_signed w64 x) 56) ≡ x / 2 ^ 56 = ap (λ (z : ℤ). cast_unsigned w64 (int_shr z 56)) (signed_below x (omega arith)) in
    let right : cast_unsigned w64 (cast_signed w8 m) ≡ m = ap (λ (z : ℤ). cast_unsigned w64 z) (to_z_pos w8 m lt) in
    let middle : x / 2 ^ 56 ≡ m = omega arith in
    left ∙ middle ∙ sym right)
    (λ ge.
    let left : cast_unsigned w64 (int_shr (cast_signed w64 x) 56) ≡ 2 ^ 64 - suc ((2 ^ 64 - suc x) / 2 ^ 56) = ap (λ (z : ℤ). cast_unsigned w64 (int_shr z 56)) (signed_above x (omega arith)) in
    let right : cast_unsigned w64 (cast_signed w8 m) ≡ 2 ^ 64 - suc (2 ^ 8 - suc m) = ap (λ (z : ℤ). cast_unsigned w64 z) (is_negative w8 m ge) in
    let middle : 2 ^ 64 - suc ((2 ^ 64 - suc x) / 2 ^ 56) ≡ 2 ^ 64 - suc (2 ^ 8 - suc m) = omega arith in
    left ∙ middle ∙ sym right)
    (cases_lt m (2 ^ 7))

pub extension_of_16 : (w : ℕ) → cast_unsigned w64 (int_shr (cast_signed w64 (w * 2 ^ 48 % 2 ^ 64)) 48) ≡ cast_unsigned w64 (cast_signed w16 (low w16 w))
extension_of_16 w =
    let m = w % 2 ^ 16 in
    let x = w * 2 ^ 48 % 2 ^ 64 in
    ⊎_elim
    (λ lt.
    let left : cast_unsigned w64 (int_shr (cast_signed w64 x) 48) ≡ x / 2 ^ 48 = ap (λ (z : ℤ). cast_unsigned w64 (int_shr z 48)) (signed_below x (omega arith)) in
    let right : cast_unsigned w64 (cast_signed w16 m) ≡ m = ap (λ (z : ℤ). cast_unsigned w64 z) (to_z_pos w16 m lt) in
    let middle : x / 2 ^ 48 ≡ m = omega arith in
    left ∙ middle ∙ sym right)
    (λ ge.
    let left : cast_unsigned w64 (int_shr (cast_signed w64 x) 48) ≡ 2 ^ 64 - suc ((2 ^ 64 - suc x) / 2 ^ 48) = ap (λ (z : ℤ). cast_unsigned w64 (int_shr z 48)) (signed_above x (omega arith)) in
    let right : cast_unsigned w64 (cast_signed w16 m) ≡ 2 ^ 64 - suc (2 ^ 16 - suc m) = ap (λ (z : ℤ). cast_unsigned w64 z) (is_negative w16 m ge) in
    let middle : 2 ^ 64 - suc ((2 ^ 64 - suc x) / 2 ^ 48) ≡ 2 ^ 64 - suc (2 ^ 16 - suc m) = omega arith in
    left ∙ middle ∙ sym right)
    (cases_lt m (2 ^ 15))

pub extension_of_32 : (w : ℕ) → cast_unsigned w64 (int_shr (cast_signed w64 (w * 2 ^ 32 % 2 ^ 64)) 32) ≡ cast_unsigned w64 (cast_signed w32 (low w32 w))
extension_of_32 w =
    let m = w % 2 ^ 32 in
    let x = w * 2 ^ 32 % 2 ^ 64 in
    ⊎_elim
    (λ lt.
    let left : cast_unsigned w64 (int_shr (cast_signed w64 x) 32) ≡ x / 2 ^ 32 = ap (λ (z : ℤ). cast_unsigned w64 (int_shr z 32)) (signed_below x (omega arith)) in
    let right : cast_unsigned w64 (cast_signed w32 m) ≡ m = ap (λ (z : ℤ). cast_unsigned w64 z) (to_z_pos w32 m lt) in
    let middle : x / 2 ^ 32 ≡ m = omega arith in
    left ∙ middle ∙ sym right)
    (λ ge.
    let left : cast_unsigned w64 (int_shr (cast_signed w64 x) 32) ≡ 2 ^ 64 - suc ((2 ^ 64 - suc x) / 2 ^ 32) = ap (λ (z : ℤ). cast_unsigned w64 (int_shr z 32)) (signed_above x (omega arith)) in
    let right : cast_unsigned w64 (cast_signed w32 m) ≡ 2 ^ 64 - suc (2 ^ 32 - suc m) = ap (λ (z : ℤ). cast_unsigned w64 z) (is_negative w32 m ge) in
    let middle : 2 ^ 64 - suc ((2 ^ 64 - suc x) / 2 ^ 32) ≡ 2 ^ 64 - suc (2 ^ 32 - suc m) = omega arith in
    left ∙ middle ∙ sym right)
    (cases_lt m (2 ^ 31))

pub half_extension_of_8 : (w : ℕ) → extended w8 w32 w ≡ low w32 (cast_unsigned w64 (cast_signed w8 (low w8 w)))
half_extension_of_8 w =
    let m = w % 2 ^ 8 in
    ⊎_elim
    (λ lt. ap (λ (z : ℤ). cast_unsigned w32 z % 2 ^ 32) (to_z_pos w8 m lt) ∙ sym (ap (λ (z : ℤ). cast_unsigned w64 z % 2 ^ 32) (to_z_pos w8 m lt)))
    (λ ge.
    let middle : (2 ^ 32 - suc (2 ^ 8 - suc m)) % 2 ^ 32 ≡ (2 ^ 64 - suc (2 ^ 8 - suc m)) % 2 ^ 32 = omega arith in
    ap (λ (z : ℤ). cast_unsigned w32 z % 2 ^ 32) (is_negative w8 m ge) ∙ middle ∙ sym (ap (λ (z : ℤ). cast_unsigned w64 z % 2 ^ 32) (is_negative w8 m ge)))
    (cases_lt m (2 ^ 7))

pub half_extension_of_16 : (w : ℕ) → extended w16 w32 w ≡ low w32 (cast_unsigned w64 (cast_signed w16 (low w16 w)))
half_extension_of_16 w =
    let m = w % 2 ^ 16 in
    ⊎_elim
    (λ lt. ap (λ (z : ℤ). cast_unsigned w32 z % 2 ^ 32) (to_z_pos w16 m lt) ∙ sym (ap (λ (z : ℤ). cast_unsigned w64 z % 2 ^ 32) (to_z_pos w16 m lt)))
    (λ ge.
    let middle : (2 ^ 32 - suc (2 ^ 16 - suc m)) % 2 ^ 32 ≡ (2 ^ 64 - suc (2 ^ 16 - suc m)) % 2 ^ 32 = omega arith in
    ap (λ (z : ℤ). cast_unsigned w32 z % 2 ^ 32) (is_negative w16 m ge) ∙ middle ∙ sym (ap (λ (z : ℤ). cast_unsigned w64 z % 2 ^ 32) (is_negative w16 m ge)))
    (cases_lt m (2 ^ 15))

-- a signed word of 64 bits as that of its low half
pub sign_kept : (m : ℕ) → m < 2 ^ 32 → cast_signed w64 (cast_unsigned w64 (cast_signed w32 m)) ≡ cast_signed w32 m
sign_kept m fits = ⊎_elim
    (λ lt. ap (λ (z : ℤ). cast_signed w64 (cast_unsigned w64 z)) (to_z_pos w32 m lt) ∙ signed_below m (omega arith) ∙ sym (to_z_pos w32 m lt))
    (λ ge.
    let x = 2 ^ 64 - suc (2 ^ 32 - suc m) in
    let same : 2 ^ 64 - suc x ≡ 2 ^ 32 - suc m = omega arith in
    ap (λ (z : ℤ). cast_signed w64 (cast_unsigned w64 z)) (is_negative w32 m ge) ∙ signed_above x (omega arith) ∙ ap negsuc same ∙ sym (is_negative w32 m ge))
    (cases_lt m (2 ^ 31))

pub cut_once : (n : ℕ) → low w32 n ≡ low w32 (low w64 n)
cut_once n = omega arith

pub half_sub : (a b : ℕ) → b < 2 ^ 32 → low w32 (a + (2 ^ 32 - b)) ≡ low w32 (low w64 (a + (2 ^ 64 - b)))
half_sub a b fits = omega arith

-- a signed word shifted right: in both widths alike
pub half_arsh : (m k : ℕ) → m < 2 ^ 32 → low w32 (cast_unsigned w32 (int_shr (cast_signed w32 m) k)) ≡ low w32 (cast_unsigned w64 (int_shr (cast_signed w32 m) k))
half_arsh m k fits = ⊎_elim
    (λ lt. ap (λ (z : ℤ). low w32 (cast_unsigned w32 (int_shr z k))) (to_z_pos w32 m lt) ∙ sym (ap (λ (z : ℤ). low w32 (cast_unsigned w64 (int_shr z k))) (to_z_pos w32 m lt)))
    (λ ge.
    let j = (2 ^ 32 - suc m) / 2 ^ k in
    let middle : (2 ^ 32 - suc j) % 2 ^ 32 ≡ (2 ^ 64 - suc j) % 2 ^ 32 = omega (arith, div-le_self (2 ^ 32 - suc m) (2 ^ k)) in
    ap (λ (z : ℤ). low w32 (cast_unsigned w32 (int_shr z k))) (is_negative w32 m ge) ∙ middle ∙ sym (ap (λ (z : ℤ). low w32 (cast_unsigned w64 (int_shr z k))) (is_negative w32 m ge)))
    (cases_lt m (2 ^ 31))

pub shifted_word : (w k : ℕ) → w < 2 ^ 64 → low w64 (cast_unsigned w64 (int_shr (cast_signed w64 w) k)) ≡ cast_unsigned w64 (int_shr (cast_signed w64 w) k)
shifted_word w k fits = ⊎_elim
    (λ lt. let e = ap (λ (z : ℤ). cast_unsigned w64 (int_shr z k)) (signed_below w lt) in ap (low w64) e ∙ mod-eq_of_lt (omega (arith, div-le_self w (2 ^ k))) ∙ sym e)
    (λ ge. let e = ap (λ (z : ℤ). cast_unsigned w64 (int_shr z k)) (signed_above w ge) in ap (low w64) e ∙ mod-eq_of_lt (omega arith) ∙ sym e)
    (cases_lt w (2 ^ 63))

pub shifted_plain : (w k : ℕ) → w < 2 ^ 63 → cast_unsigned w64 (int_shr (cast_signed w64 w) k) ≡ w / 2 ^ k
shifted_plain w k small = ap (λ (z : ℤ). cast_unsigned w64 (int_shr z k)) (signed_below w small)

pub shifted_fits : (w k : ℕ) → w < 2 ^ 64 → cast_unsigned w64 (int_shr (cast_signed w64 w) k) < 2 ^ 64
shifted_fits w k fits = omega (arith, shifted_word w k fits)

pub minus : (width : InsnWidth) (w : ℕ) → w < 2 ^ 64 → in_place (Neg width) w ≡ alu_of width Sub 0 w
minus Bits64 w fits = omega arith
minus Bits32 w fits = omega arith

pub little : (size : WordSize) (w : ℕ) → w < 2 ^ 64 → swap Little size w ≡ low w64 (bit_and w (2 ^ bits (size_of size) - 1))
little Word16 w fits = omega (arith, and_mask w 16)
little Word32 w fits = omega (arith, and_mask w 32)
little Word64 w fits = omega (arith, and_mask w 64)

pub swap_most : (order : ByteOrder) (size : WordSize) (w : ℕ) → swap order size w ≤ 2 ^ bits (size_of size) - 1
swap_most order Word16 w = omega arith
swap_most order Word32 w = omega arith
swap_most order Word64 w = omega arith

pub arsh_of_half : (m k : ℕ) → m < 2 ^ 32 → low w32 (cast_unsigned w32 (int_shr (cast_signed w32 m) k)) ≡ low w32 (cast_unsigned w64 (int_shr (cast_signed w64 (cast_unsigned w64 (int_shr (cast_signed w64 (m * 2 ^ 32 % 2 ^ 64)) 32))) k))
arsh_of_half m k fits =
    let whole : m % 2 ^ 32 ≡ m = mod-eq_of_lt fits in
    let word : cast_unsigned w64 (int_shr (cast_signed w64 (m * 2 ^ 32 % 2 ^ 64)) 32) ≡ cast_unsigned w64 (cast_signed w32 m) = extension_of_32 m ∙ ap (λ n. cast_unsigned w64 (cast_signed w32 n)) whole in
    half_arsh m k fits ∙ sym (ap (λ (z : ℤ). low w32 (cast_unsigned w64 (int_shr z k))) (ap (cast_signed w64) word ∙ sign_kept m fits))

-- the low half of a word extended by its sign
pub low_of_extended : (m : ℕ) → m < 2 ^ 32 → low w32 (cast_unsigned w64 (cast_signed w32 m)) ≡ m
low_of_extended m fits = ⊎_elim
    (λ lt. ap (λ (z : ℤ). low w32 (cast_unsigned w64 z)) (to_z_pos w32 m lt) ∙ mod-eq_of_lt fits)
    (λ ge. ap (λ (z : ℤ). low w32 (cast_unsigned w64 z)) (is_negative w32 m ge) ∙ omega arith)
    (cases_lt m (2 ^ 31))
