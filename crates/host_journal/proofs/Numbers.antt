-- Lists of numbers: what holds of each, and what is among them.
use Rattle.std.proofs.Common.{◌≡◌, ◌<◌, ◌≤◌, ◌&&◌, ◌||◌, ◌==◌, ◌⊎◌, inl, inr, ℕ, zero, suc, Bool, true, false, List, [], ◌∷◌, length, get_or, refl, ap, subst, arith, nat_le}
use Rattle.std.specs.List.{list_all}
use Rattle.std.specs.Char.{is_ascii_digit}
use Rattle.std.proofs.lemmas.Bool.{both_ways, eqb-true, leb-true}
use Rattle.std.proofs.lemmas.Bool.Decides.{nat_tests}
use Rattle.host_journal.specs.Listings.{AreNone, AreSegments, AreWhole, IsGreatest, IsLeast, are_own, has}

pub both : (a b : Bool) → (a && b) ≡ true → (a ≡ true) × (b ≡ true)
both true true e = (refl, refl)
both true false e = (refl, e)
both false b e = absurd (let bad : false ≡ true = e in cc)

pub both_so : (a b : Bool) → a ≡ true → b ≡ true → (a && b) ≡ true
both_so a b p q = rw (p, q) refl

pub all_at : {A : Type 0} (p : A → Bool) (xs : List A) (k : ℕ) (d : A) → list_all p xs ≡ true → k < length xs → p (get_or xs k d) ≡ true
all_at p [] k d all within = absurd (omega arith)
all_at p (x ∷ xs) zero d all within = (both (p x) (list_all p xs) all).0
all_at p (x ∷ xs) (suc k) d all within = all_at p xs k d (both (p x) (list_all p xs) all).1 (omega arith)

pub all_each : (p : ℕ → Bool) (xs : List ℕ) → ((k : ℕ) → k < length xs → p (get_or xs k 0) ≡ true) → list_all p xs ≡ true
all_each p [] each = refl
all_each p (x ∷ xs) each = both_so (p x) (list_all p xs) (each zero (omega arith)) (all_each p xs (λ k within. each (suc k) (omega arith)))

or_rest : (a b : Bool) → (a || b) ≡ true → a ≡ false → b ≡ true
or_rest true b e no_a = absurd (let bad : true ≡ false = no_a in cc)
or_rest false b e no_a = e

there_behind : (x : ℕ) (xs : List ℕ) (n : ℕ) (first : Bool) → x == n ≡ first → has (x ∷ xs) n ≡ true → (has xs n ≡ true → (k : ℕ) × (k < length xs) × (get_or xs k 0 ≡ n))
    → (k : ℕ) × (k < length (x ∷ xs)) × (get_or (x ∷ xs) k 0 ≡ n)
there_behind x xs n true e is later = (zero, omega arith, eqb-true x n e)
there_behind x xs n false e is later = let rest = later (or_rest (x == n) (has xs n) is e) in (suc rest.0, omega (arith, rest.1), rest.2)

pub there : (xs : List ℕ) (n : ℕ) → has xs n ≡ true → (k : ℕ) × (k < length xs) × (get_or xs k 0 ≡ n)
there [] n is = absurd (let bad : false ≡ true = is in cc)
there (x ∷ xs) n is = there_behind x xs n (x == n) refl is (λ later. there xs n later)

pub digit_fits : (code : ℕ) → is_ascii_digit code ≡ true → (48 ≤ code) × (code ≤ 57)
digit_fits code is = grind (arith, nat_tests)

-- ---- the ends

within_at : (segments : List ℕ) (first last k : ℕ) → list_all (λ number. nat_le first number && nat_le number last) segments ≡ true → k < length segments → (first ≤ get_or segments k 0) × (get_or segments k 0 ≤ last)
within_at segments first last k all within =
    let its = both (nat_le first (get_or segments k 0)) (nat_le (get_or segments k 0) last) (all_at (λ number. nat_le first number && nat_le number last) segments k 0 all within) in
    (leb-true first (get_or segments k 0) its.0, leb-true (get_or segments k 0) last its.1)

pub ends_are : (segments manifests : List ℕ) (first last least greatest : ℕ) → AreSegments segments manifests first last → IsLeast segments least → IsGreatest segments greatest → (first ≡ least) × (last ≡ greatest)
ends_are segments manifests first last least greatest are low high =
    let at_low = within_at segments first last low.0.0 are.within low.0.1 in
    let at_high = within_at segments first last high.0.0 are.within high.0.1 in
    let first_there = there segments first (are.whole first (omega arith) are.some).0 in
    let last_there = there segments last (are.whole last are.some (omega arith)).0 in
    let below = low.1 first_there.0 first_there.1 in
    let above = high.1 last_there.0 last_there.1 in
    (omega (arith, at_low.0, low.0.2, below, first_there.2), omega (arith, at_high.1, high.0.2, above, last_there.2))

pub are_segments : (segments manifests : List ℕ) (least greatest : ℕ) → IsLeast segments least → IsGreatest segments greatest → AreWhole segments manifests least greatest → are_own manifests least greatest ≡ true
    → AreSegments segments manifests least greatest
are_segments segments manifests least greatest low high whole own = record {
  some = let above = high.1 low.0.0 low.0.1 in omega (arith, above, low.0.2);
  within = all_each (λ number. nat_le least number && nat_le number greatest) segments
      (λ k within. let below = low.1 k within in let above = high.1 k within in grind (arith, nat_tests, below, above));
  whole = whole;
  own = own;
}

pub are_no_segments : (segments manifests : List ℕ) (least greatest : ℕ) → IsLeast segments least → IsGreatest segments greatest → (AreWhole segments manifests least greatest → ⊥) ⊎ (are_own manifests least greatest ≡ false)
    → (AreNone segments manifests → ⊥) × ((first last : ℕ) → AreSegments segments manifests first last → ⊥)
are_no_segments segments manifests least greatest low high refused = (
  λ none. let empty = ap length none.none in omega (arith, low.0.1, empty),
  λ first last are.
      let same = ends_are segments manifests first last least greatest are low high in
      elim refused [
        | inl bad ↦ bad (subst (λ (n : ℕ). AreWhole segments manifests n greatest) same.0 (subst (λ (n : ℕ). AreWhole segments manifests first n) same.1 are.whole))
        | inr bad ↦ both_ways (are_own manifests least greatest) bad (subst (λ (n : ℕ). are_own manifests n greatest ≡ true) same.0 (subst (λ (n : ℕ). are_own manifests first n ≡ true) same.1 are.own))
      ],
)

pub in_order : (segments : List ℕ) (least greatest : ℕ) → IsLeast segments least → IsGreatest segments greatest → least ≤ greatest
in_order segments least greatest low high = let above = high.1 low.0.0 low.0.1 in omega (arith, above, low.0.2)
