-- Names that are read one after the other: what is known of them.
use Rattle.std.proofs.Common.{◌≡◌, ◌∙◌, ◌<◌, ◌+◌, not, ℕ, zero, suc, Bool, true, false, List, [], ◌∷◌, ◌++◌, length, take, get_or, map, refl, sym, ap, subst, append-nil, arith, add-one}
use Rattle.std.specs.Prelude.{flat_map}
use Rattle.std.specs.List.{list_all}
use Rattle.std.proofs.lemmas.Bool.{both_ways}
use Rattle.std.proofs.lemmas.Grind.{flat_map-append}
use Rattle.std.proofs.lemmas.List.Folds.{list_all-append}
use Rattle.host_journal.specs.declared.names.NameKind.{NameKind}
use Rattle.host_journal.specs.Listings.{AreKnown, is_foreign, manifest_in, manifests_in, segment_in, segments_in}
use Rattle.host_journal.specs.Names.{kind_of}
use Rattle.host_journal.proofs.Numbers.{all_at, both_so}

pub map_at : {S : Type 0} (f : S → List ℕ) (xs : List S) (i : ℕ) (x : S) → i < length xs → x ≡ get_or xs i x → get_or (map f xs) i [] ≡ f x
map_at f [] i x within is = absurd (omega arith)
map_at f (y ∷ ys) zero x within is = ap f (sym is)
map_at f (y ∷ ys) (suc i) x within is = map_at f ys i x (omega arith) is

pub map_length : {S : Type 0} (f : S → List ℕ) (xs : List S) → length (map f xs) ≡ length xs
map_length f [] = refl
map_length f (x ∷ xs) = ap suc (map_length f xs)

pub seen_more : {S : Type 0} (f : S → List ℕ) (xs : List S) (i : ℕ) (x : S) → i < length xs → x ≡ get_or xs i x → take (suc i) (map f xs) ≡ take i (map f xs) ++ f x ∷ []
seen_more f [] i x within is = absurd (omega arith)
seen_more f (y ∷ ys) zero x within is = ap (λ (t : List ℕ). t ∷ []) (ap f (sym is))
seen_more f (y ∷ ys) (suc i) x within is = ap (λ (t : List (List ℕ)). f y ∷ t) (seen_more f ys i x (omega arith) is)

pub known_more : {S : Type 0} (f : S → List ℕ) (xs : List S) (i : ℕ) (x : S) → i < length xs → x ≡ get_or xs i x → AreKnown (take i (map f xs)) → is_foreign (kind_of (f x)) ≡ false → AreKnown (take (i + 1) (map f xs))
known_more f xs i x within is known own =
    let p : List ℕ → Bool = λ name. not (is_foreign (kind_of name)) in
    ap (λ (n : ℕ). list_all p (take n (map f xs))) (add-one i) ∙ ap (list_all p) (seen_more f xs i x within is) ∙ list_all-append p (take i (map f xs)) (f x ∷ [])
    ∙ both_so (list_all p (take i (map f xs))) (list_all p (f x ∷ [])) known (both_so (p (f x)) true (ap not own) refl)

flat_more : {S : Type 0} (g : List ℕ → List ℕ) (f : S → List ℕ) (xs : List S) (i : ℕ) (x : S) → i < length xs → x ≡ get_or xs i x → flat_map g (take (i + 1) (map f xs)) ≡ flat_map g (take i (map f xs)) ++ g (f x)
flat_more g f xs i x within is =
    ap (λ (n : ℕ). flat_map g (take n (map f xs))) (add-one i) ∙ ap (flat_map g) (seen_more f xs i x within is) ∙ flat_map-append g (take i (map f xs)) (f x ∷ [])
    ∙ ap (λ (t : List ℕ). flat_map g (take i (map f xs)) ++ t) (append-nil (g (f x)))

pub segments_more : {S : Type 0} (f : S → List ℕ) (xs : List S) (i : ℕ) (x : S) (kind : NameKind) (old new : List ℕ) → i < length xs → x ≡ get_or xs i x → kind ≡ kind_of (f x)
    → old ≡ segments_in (take i (map f xs)) → new ≡ old ++ segment_in kind → new ≡ segments_in (take (i + 1) (map f xs))
segments_more f xs i x kind old new within is same was added =
    added ∙ ap (λ (k : NameKind). old ++ segment_in k) same ∙ ap (λ (t : List ℕ). t ++ segment_in (kind_of (f x))) was ∙ sym (flat_more (λ name. segment_in (kind_of name)) f xs i x within is)

pub manifests_more : {S : Type 0} (f : S → List ℕ) (xs : List S) (i : ℕ) (x : S) (kind : NameKind) (old new : List ℕ) → i < length xs → x ≡ get_or xs i x → kind ≡ kind_of (f x)
    → old ≡ manifests_in (take i (map f xs)) → new ≡ old ++ manifest_in kind → new ≡ manifests_in (take (i + 1) (map f xs))
manifests_more f xs i x kind old new within is same was added =
    added ∙ ap (λ (k : NameKind). old ++ manifest_in k) same ∙ ap (λ (t : List ℕ). t ++ manifest_in (kind_of (f x))) was ∙ sym (flat_more (λ name. manifest_in (kind_of name)) f xs i x within is)

-- one that is foreign
pub not_known : {S : Type 0} (f : S → List ℕ) (xs : List S) (i : ℕ) (x : S) → i < length xs → x ≡ get_or xs i x → is_foreign (kind_of (f x)) ≡ true → AreKnown (map f xs) → ⊥
not_known f xs i x within is foreign known =
    let p : List ℕ → Bool = λ name. not (is_foreign (kind_of name)) in
    let at : p (get_or (map f xs) i []) ≡ true = all_at p (map f xs) i [] known (subst (λ (n : ℕ). i < n) (sym (map_length f xs)) within) in
    both_ways (p (f x)) (ap not foreign) (sym (ap p (map_at f xs i x within is)) ∙ at)
