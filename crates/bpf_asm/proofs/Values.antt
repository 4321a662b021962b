-- The value of digits, as it is reckoned from the front: it never sinks.
use Rattle.std.proofs.Common.{◌≡◌, ◌<◌, ◌≤◌, ◌+◌, ◌*◌, ◌^◌, ℕ, suc, List, [], ◌∷◌, length, drop, get_or, Some, None, refl, sym, ap, ◌∙◌, arith, drop-cons}
use Rattle.std.proofs.lemmas.Bool.{le-ltb, lt-ltb}
use Rattle.std.proofs.lemmas.List.{drop_all}
use Rattle.std.proofs.Math.Nat.{le-mul_of_pos_right}
use Rattle.bpf_asm.specs.Numbers.{value_after, below_64_bits, digit_of}

grows : (radix value : ℕ) (bytes : List ℕ) → 1 ≤ radix → value ≤ value_after radix value bytes
grows radix value [] h = omega arith
grows radix value (b ∷ bytes) h =
    let ih = grows radix (value * radix + digit_of b) bytes h in
    omega (arith, ih, le-mul_of_pos_right value h)

-- one digit more
pub value_step : (radix value total i : ℕ) (bytes : List ℕ) → i < length bytes → value_after radix value (drop i bytes) ≡ total → value_after radix (value * radix + digit_of (get_or bytes i 0)) (drop (suc i) bytes) ≡ total
value_step radix value total i bytes h e = sym (ap (value_after radix value) (drop-cons bytes i 0 h)) ∙ e

-- where the value so far is too great, the whole is
pub too_great : (radix value total i : ℕ) (bytes : List ℕ) → 1 ≤ radix → i < length bytes → value_after radix value (drop i bytes) ≡ total → 2 ^ 64 ≤ value * radix + digit_of (get_or bytes i 0) → below_64_bits total ≡ None
too_great radix value total i bytes h within e over =
    let step = value_step radix value total i bytes within e in
    let more = grows radix (value * radix + digit_of (get_or bytes i 0)) (drop (suc i) bytes) h in
    let far : 2 ^ 64 ≤ total = omega (arith, over, more, step) in
    rw (le-ltb total (2 ^ 64) far) refl

pub just_so : (radix value total i : ℕ) (bytes : List ℕ) → length bytes ≤ i → value < 2 ^ 64 → value_after radix value (drop i bytes) ≡ total → Some value ≡ below_64_bits total
just_so radix value total i bytes past small e =
    let same : value ≡ total = sym (ap (value_after radix value) (drop_all i bytes past)) ∙ e in
    rw (← same, lt-ltb value (2 ^ 64) small) refl
