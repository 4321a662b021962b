-- A text is cut at its first blank in one way.
use Rattle.std.proofs.Common.{◌≡◌, ◌≢◌, ◌<◌, ◌==◌, ℕ, zero, suc, true, List, [], ◌∷◌, ◌++◌, length, take, drop, get_or, refl, sym, arith, append-nil, take-append-drop}
use Rattle.std.specs.List.{list_all}
use Rattle.std.proofs.lemmas.Bool.Decides.{nat_tests}
use Rattle.trace_lines.specs.Reading.{is_black, ends_word, IsCut}
use Rattle.trace_lines.proofs.Tests.{both}

black_one : (b : ℕ) → b ≢ 32 → is_black b ≡ true
black_one b apart = grind (arith, nat_tests)

black_front : (k : ℕ) (bytes : List ℕ) → ((i : ℕ) → i < k → get_or bytes i 0 ≢ 32) → list_all is_black (take k bytes) ≡ true
black_front zero bytes apart = refl
black_front (suc k) [] apart = refl
black_front (suc k) (b ∷ bytes) apart = rw (black_one b (apart 0 (omega arith)), black_front k bytes (λ i h. apart (suc i) (omega arith))) refl

black_all : (bytes : List ℕ) → ((i : ℕ) → i < length bytes → get_or bytes i 0 ≢ 32) → list_all is_black bytes ≡ true
black_all [] apart = refl
black_all (b ∷ bytes) apart = rw (black_one b (apart 0 (omega arith)), black_all bytes (λ i h. apart (suc i) (omega arith))) refl

blank_one : (b : ℕ) → b ≡ 32 → (b == 32) ≡ true
blank_one b is = grind (arith, nat_tests)

ends_behind : (k : ℕ) (bytes : List ℕ) → k < length bytes → get_or bytes k 0 ≡ 32 → ends_word (drop k bytes) ≡ true
ends_behind zero [] within is = refl
ends_behind zero (b ∷ bytes) within is = blank_one b is
ends_behind (suc k) [] within is = refl
ends_behind (suc k) (b ∷ bytes) within is = ends_behind k bytes (omega arith) is

-- at the first blank
pub cut_at : (bytes : List ℕ) (k : ℕ) → k < length bytes → get_or bytes k 0 ≡ 32 → ((i : ℕ) → i < k → get_or bytes i 0 ≢ 32) → IsCut bytes (take k bytes) (drop k bytes)
cut_at bytes k within is apart = record {
  whole = sym (take-append-drop k bytes);
  black = black_front k bytes apart;
  ends = ends_behind k bytes within is;
}

-- where there is none
pub cut_nowhere : (bytes : List ℕ) → ((i : ℕ) → i < length bytes → get_or bytes i 0 ≢ 32) → IsCut bytes bytes []
cut_nowhere bytes apart = record { whole = sym (append-nil bytes); black = black_all bytes apart; ends = refl }

clash : (b : ℕ) → (b == 32) ≡ true → is_black b ≡ true → ⊥
clash b blank black = grind (arith, nat_tests)

-- black bytes before a rest that ends a word are there in one way
pub cut_once : (w v r s : List ℕ) → w ++ r ≡ v ++ s → list_all is_black w ≡ true → ends_word r ≡ true → list_all is_black v ≡ true → ends_word s ≡ true → (w ≡ v) × (r ≡ s)
cut_once [] [] r s e bw er bv es = (refl, e)
cut_once [] (b ∷ v) r s e bw er bv es =
    let here : ends_word (b ∷ (v ++ s)) ≡ true = rw e at er in
    let first = (both (is_black b) (list_all is_black v) bv).0 in
    absurd (clash b here first)
cut_once (a ∷ w) [] r s e bw er bv es =
    let here : ends_word (a ∷ (w ++ r)) ≡ true = rw (sym e) at es in
    let first = (both (is_black a) (list_all is_black w) bw).0 in
    absurd (clash a here first)
cut_once (a ∷ w) (b ∷ v) r s e bw er bv es =
    let ps = both (is_black a) (list_all is_black w) bw in
    let qs = both (is_black b) (list_all is_black v) bv in
    let heads : a ≡ b = cc in
    let tails : w ++ r ≡ v ++ s = cc in
    let more = cut_once w v r s tails ps.1 er qs.1 es in
    (cc (heads, more.0), more.1)
