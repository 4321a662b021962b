-- How waiting CCBs stand in a heap: what an exchange of one with the one above it leaves, and that the first is the least.
use Rattle.std.proofs.Common.{◌≡◌, ℕ, zero, suc, ◌+◌, ◌-◌, ◌*◌, ◌/◌, ◌^◌, ◌<◌, ◌≤◌, ◌≢◌, List, [], ◌∷◌, length, get_or, set, inl, inr, refl, ap, sym, subst, ◌∙◌, arith}
use Rattle.std.proofs.lemmas.Bool.Decides.{eqb_tells}
use Rattle.std.proofs.lemmas.List.{get_or_default, get_or-set_other, get_or-take, length-set, length-take-le}
use Rattle.std.proofs.lemmas.List.Edits.{swapped_from_swap, length-swap}
use Rattle.std.proofs.lemmas.Nat.{pow-add}
use Rattle.std.proofs.Math.Nat.{pow-succ'}
use Rattle.std.specs.List.{swap, swap_remove, All}
use Rattle.dev_queue.specs.declared.waiting_ccb.WaitingCcb.{WaitingCcb}
use Rattle.dev_queue.specs.Waiting.{StartsFirst}
use Rattle.dev_queue.specs.Heap.{IsUnder, IsHeap, IsFirstUnder, MayRise, MaySink}

starts_itself : (p : WaitingCcb) → StartsFirst p p
starts_itself p = (omega arith, λ _. omega arith)

starts_along : (p q r : WaitingCcb) → StartsFirst p q → StartsFirst q r → StartsFirst p r
starts_along p q r h g = (omega (arith, h.0, g.0), λ e. omega (arith, h.0, g.0, h.1, g.1, e))

-- the pair at the first place starts no later than any
first_along : (ps : List WaitingCcb) (fuel k : ℕ) (d : WaitingCcb) → IsHeap ps → k ≤ fuel → k < length ps → StartsFirst (get_or ps 0 d) (get_or ps k d)
first_along ps fuel zero d h le l = starts_itself (get_or ps 0 d)
first_along ps zero (suc k) d h le l = absurd (omega arith)
first_along ps (suc fuel) (suc k) d h le l =
    starts_along _ (get_or ps (k / 2) d) _
    (first_along ps fuel (k / 2) d h (omega arith) (omega arith))
    (h (k / 2) (suc k) d (omega arith, omega arith) l)

pub first_least : (ps : List WaitingCcb) (x : WaitingCcb) → 0 < length ps → get_or ps 0 x ≡ x → IsHeap ps → All (StartsFirst x) ps
first_least [] x some is h k d l = absurd (omega arith)
first_least (p ∷ ps) x some is h k d l =
    subst (λ (o : WaitingCcb). StartsFirst o (get_or (p ∷ ps) k d)) is (first_along (p ∷ ps) k k d h (omega arith) l)

-- with equal pairs in the place of both
starts_as : (p o q r : WaitingCcb) → p ≡ o → q ≡ r → StartsFirst o r → StartsFirst p q
starts_as p o q r e f h = subst (λ (x : WaitingCcb). StartsFirst x q) (sym e) (subst (λ (x : WaitingCcb). StartsFirst o x) (sym f) h)

-- what is read of two places is so whatever is read after the end
pub read_as : (ps : List WaitingCcb) (i j : ℕ) (d e x : WaitingCcb) → i < length ps → j < length ps → StartsFirst (get_or ps i d) (get_or ps j e) → StartsFirst (get_or ps i x) (get_or ps j x)
read_as ps i j d e x l m h = starts_as _ (get_or ps i d) _ (get_or ps j e) (get_or_default ps i x d l) (get_or_default ps j x e m) h

-- the pair here, which starts before the one above it, changes places with that
pub risen : (xs ys : List WaitingCcb) (here up : ℕ) → MayRise xs here → IsUnder up here → here < length xs →
    ((d : WaitingCcb) → StartsFirst (get_or xs here d) (get_or xs up d)) → ys ≡ swap xs here up → MayRise ys up
risen xs ys here up may under inside before is =
    let long : length ys ≡ length xs = ap length is ∙ length-swap xs here up in
    let swapped = λ (d : WaitingCcb). swapped_from_swap xs ys here up d inside (omega arith) is in
    let at : (d : WaitingCcb) → get_or ys here d ≡ get_or xs up d = λ d. (swapped d).0 in
    let over : (d : WaitingCcb) → get_or ys up d ≡ get_or xs here d = λ d. (swapped d).1 in
    let else : (d : WaitingCcb) (m : ℕ) → m ≢ here → m ≢ up → get_or ys m d ≡ get_or xs m d = λ d. (swapped d).2 in
    record {
      others = λ above place d u l ne.
          elim (eqb_tells place here) [
            | inl e ↦
                let same : above ≡ up = omega (arith, e.1) in
                starts_as _ (get_or xs here d) _ (get_or xs up d) (ap (λ m. get_or ys m d) same ∙ over d) (ap (λ m. get_or ys m d) e.1 ∙ at d) (before d)
            | inr e ↦ elim (eqb_tells above here) [
              | inl f ↦
                  starts_as _ (get_or xs up d) _ (get_or xs place d) (ap (λ m. get_or ys m d) f.1 ∙ at d) (else d place e.1 ne)
                  (may.around up place d under (omega (arith, f.1), omega (arith, f.1)) (omega arith))
              | inr f ↦ elim (eqb_tells above up) [
                | inl g ↦
                    starts_as _ (get_or xs here d) _ (get_or xs place d) (ap (λ m. get_or ys m d) g.1 ∙ over d) (else d place e.1 ne)
                    (starts_along _ (get_or xs up d) _ (before d) (may.others up place d (omega (arith, g.1), omega (arith, g.1)) (omega arith) e.1))
                | inr g ↦
                    starts_as _ (get_or xs above d) _ (get_or xs place d) (else d above f.1 g.1) (else d place e.1 ne)
                    (may.others above place d u (omega arith) e.1)
              ]
            ]
          ];
      around = λ above place d u v l.
          let top : get_or ys above d ≡ get_or xs above d = else d above (λ e. omega (arith, e)) (λ e. omega (arith, e)) in
          let step : StartsFirst (get_or xs above d) (get_or xs up d) = may.others above up d u (omega arith) (λ e. omega (arith, e)) in
          elim (eqb_tells place here) [
            | inl e ↦ starts_as _ (get_or xs above d) _ (get_or xs up d) top (ap (λ m. get_or ys m d) e.1 ∙ at d) step
            | inr e ↦
                starts_as _ (get_or xs above d) _ (get_or xs place d) top (else d place e.1 (λ g. omega (arith, g)))
                (starts_along _ (get_or xs up d) _ step (may.others up place d v (omega arith) e.1))
          ];
    }

-- a heap is one but for any pair
pub sinks_anywhere : (ps : List WaitingCcb) (here : ℕ) → IsHeap ps → MaySink ps here
sinks_anywhere ps here h = record {
  others = λ above place d u l ne. h above place d u l;
  around = λ above place d u v l. starts_along _ (get_or ps here d) _ (h above here d u (omega arith)) (h here place d v l);
}

-- the first pair is gone, and the last one stands in its place
pub sinks_on : (xs ys : List WaitingCcb) (x : WaitingCcb) → 0 < length xs → MaySink xs 0 → ys ≡ swap_remove xs 0 x → MaySink ys 0
sinks_on xs ys x some may is =
    let moved : List WaitingCcb = set xs 0 (get_or xs (length xs - 1) x) in
    let long : length ys ≡ length xs - 1 = ap length is ∙ length-take-le (length xs - 1) moved (omega (arith, length-set xs 0 (get_or xs (length xs - 1) x))) in
    let stays : (m : ℕ) (d : WaitingCcb) → m ≢ 0 → m < length ys → get_or ys m d ≡ get_or xs m d =
    λ m d ne l. ap (λ ps. get_or ps m d) is ∙ (get_or-take (length xs - 1) moved m d (omega (arith, l, long)) ∙ get_or-set_other xs 0 m (get_or xs (length xs - 1) x) d ne) in
    record {
      others = λ above place d u l ne.
          starts_as _ (get_or xs above d) _ (get_or xs place d) (stays above d ne (omega (arith, u.0, l))) (stays place d (λ e. omega (arith, u.0, e)) l)
          (may.others above place d u (omega (arith, l, long)) ne);
      around = λ above place d u v l. absurd (omega (arith, u.0));
    }

-- the pair here changes places with the one above it, which starts no later
pub lifted_is : (xs ys : List WaitingCcb) (here up : ℕ) (d : WaitingCcb) → IsUnder up here → here < length xs → ys ≡ swap xs here up → get_or ys up d ≡ get_or xs here d
lifted_is xs ys here up d under inside is = (swapped_from_swap xs ys here up d inside (omega arith) is).1

pub lifted : (xs ys : List WaitingCcb) (here up : ℕ) → MaySink xs here → IsUnder up here → here < length xs → ys ≡ swap xs here up → MaySink ys up
lifted xs ys here up may under inside is =
    let long : length ys ≡ length xs = ap length is ∙ length-swap xs here up in
    let swapped = λ (d : WaitingCcb). swapped_from_swap xs ys here up d inside (omega arith) is in
    let at : (d : WaitingCcb) → get_or ys here d ≡ get_or xs up d = λ d. (swapped d).0 in
    let over : (d : WaitingCcb) → get_or ys up d ≡ get_or xs here d = λ d. (swapped d).1 in
    let else : (d : WaitingCcb) (m : ℕ) → m ≢ here → m ≢ up → get_or ys m d ≡ get_or xs m d = λ d. (swapped d).2 in
    record {
      others = λ above place d u l ne.
          elim (eqb_tells above here) [
            | inl e ↦
                starts_as _ (get_or xs up d) _ (get_or xs place d) (ap (λ m. get_or ys m d) e.1 ∙ at d) (else d place (λ g. omega (arith, g, e.1)) (λ g. omega (arith, g, e.1)))
                (may.around up place d under (omega (arith, e.1), omega (arith, e.1)) (omega arith))
            | inr e ↦ elim (eqb_tells place up) [
              | inl f ↦
                  starts_as _ (get_or xs above d) _ (get_or xs here d) (else d above e.1 ne) (ap (λ m. get_or ys m d) f.1 ∙ over d)
                  (starts_along _ (get_or xs up d) _ (may.others above up d (omega (arith, f.1), omega (arith, f.1)) (omega arith) e.1) (may.others up here d under inside (λ g. omega (arith, g))))
              | inr f ↦
                  starts_as _ (get_or xs above d) _ (get_or xs place d) (else d above e.1 ne) (else d place (λ g. ne (omega (arith, g))) f.1)
                  (may.others above place d u (omega arith) e.1)
            ]
          ];
      around = λ above place d u v l.
          let top : get_or ys above d ≡ get_or xs above d = else d above (λ e. omega (arith, e)) (λ e. omega (arith, e)) in
          let step : StartsFirst (get_or xs above d) (get_or xs up d) = may.others above up d u (omega arith) (λ e. omega (arith, e)) in
          elim (eqb_tells place here) [
            | inl e ↦ starts_as _ (get_or xs above d) _ (get_or xs up d) top (ap (λ m. get_or ys m d) e.1 ∙ at d) step
            | inr e ↦
                starts_as _ (get_or xs above d) _ (get_or xs place d) top (else d place e.1 (λ g. omega (arith, g)))
                (starts_along _ (get_or xs up d) _ step (may.others up place d v (omega arith) (λ g. omega (arith, g))))
          ];
    }

-- it is at the first place, or the one above it starts no later
pub risen_up : (ps : List WaitingCcb) → MayRise ps 0 → IsHeap ps
risen_up ps may above place d u l = may.others above place d u l (λ e. omega (arith, e))

pub risen_far : (ps : List WaitingCcb) (here up : ℕ) → MayRise ps here → IsUnder up here → ((d : WaitingCcb) → StartsFirst (get_or ps up d) (get_or ps here d)) → IsHeap ps
risen_far ps here up may under behind above place d u l =
    elim (eqb_tells place here) [
      | inl e ↦
          let same : above ≡ up = omega (arith, e.1) in
          starts_as _ (get_or ps up d) _ (get_or ps here d) (ap (λ m. get_or ps m d) same) (ap (λ m. get_or ps m d) e.1) (behind d)
      | inr e ↦ may.others above place d u l e.1
    ]

-- the pair here, which starts after the first under it, changes places with that
pub sunk : (xs ys : List WaitingCcb) (here down : ℕ) → MaySink xs here → IsFirstUnder xs here down →
    ((d : WaitingCcb) → StartsFirst (get_or xs down d) (get_or xs here d)) → ys ≡ swap xs here down → MaySink ys down
sunk xs ys here down may first before is =
    let under : IsUnder here down = first.under in
    let inside : down < length xs = first.inside in
    let long : length ys ≡ length xs = ap length is ∙ length-swap xs here down in
    let swapped = λ (d : WaitingCcb). swapped_from_swap xs ys here down d (omega arith) inside is in
    let at : (d : WaitingCcb) → get_or ys here d ≡ get_or xs down d = λ d. (swapped d).0 in
    let below : (d : WaitingCcb) → get_or ys down d ≡ get_or xs here d = λ d. (swapped d).1 in
    let else : (d : WaitingCcb) (m : ℕ) → m ≢ here → m ≢ down → get_or ys m d ≡ get_or xs m d = λ d. (swapped d).2 in
    record {
      others = λ above place d u l ne.
          elim (eqb_tells above here) [
            | inl e ↦ elim (eqb_tells place down) [
              | inl f ↦ starts_as _ (get_or xs down d) _ (get_or xs here d) (ap (λ m. get_or ys m d) e.1 ∙ at d) (ap (λ m. get_or ys m d) f.1 ∙ below d) (before d)
              | inr f ↦
                  starts_as _ (get_or xs down d) _ (get_or xs place d) (ap (λ m. get_or ys m d) e.1 ∙ at d) (else d place (λ g. omega (arith, g, e.1)) f.1)
                  (first.least place d (omega (arith, e.1), omega (arith, e.1)) (omega arith))
            ]
            | inr e ↦ elim (eqb_tells place here) [
              | inl f ↦
                  starts_as _ (get_or xs above d) _ (get_or xs down d) (else d above e.1 ne) (ap (λ m. get_or ys m d) f.1 ∙ at d)
                  (may.around above down d (omega (arith, f.1), omega (arith, f.1)) under inside)
              | inr f ↦
                  starts_as _ (get_or xs above d) _ (get_or xs place d) (else d above e.1 ne) (else d place f.1 (λ g. e.1 (omega (arith, g))))
                  (may.others above place d u (omega arith) e.1)
            ]
          ];
      around = λ above place d u v l.
          let same : above ≡ here = omega arith in
          starts_as _ (get_or xs down d) _ (get_or xs place d) (ap (λ m. get_or ys m d) same ∙ at d) (else d place (λ g. omega (arith, g)) (λ g. omega (arith, g)))
          (may.others down place d v (omega arith) (λ g. omega (arith, g)));
    }

-- none is under it, or the first of these starts no earlier
pub sunk_down : (ps : List WaitingCcb) (here : ℕ) → MaySink ps here → length ps ≤ 2 * here + 1 → IsHeap ps
sunk_down ps here may none above place d u l = may.others above place d u l (λ e. omega (arith, e))

pub sunk_far : (ps : List WaitingCcb) (here down : ℕ) → MaySink ps here → IsFirstUnder ps here down → ((d : WaitingCcb) → StartsFirst (get_or ps here d) (get_or ps down d)) → IsHeap ps
sunk_far ps here down may first behind above place d u l =
    elim (eqb_tells above here) [
      | inl e ↦
          starts_as _ (get_or ps here d) _ (get_or ps place d) (ap (λ m. get_or ps m d) e.1) refl
          (starts_along _ (get_or ps down d) _ (behind d) (first.least place d (omega (arith, e.1), omega (arith, e.1)) l))
      | inr e ↦ may.others above place d u l e.1
    ]

-- one level up there are half as many places
pub level_up : (level place up : ℕ) → place + 1 ≤ 2 ^ level → 0 < place → IsUnder up place → (1 ≤ level) × (up + 1 ≤ 2 ^ (level - 1))
level_up zero place up h some under = absurd (omega arith)
level_up (suc level) place up h some under =
    let same : suc level - 1 ≡ level = omega arith in
    (omega arith, omega (arith, pow-succ' 2 level, ap (λ n. 2 ^ n) same))

-- and one level down twice as many
pub level_down : (level place down : ℕ) → 2 ^ level ≤ place + 1 → IsUnder place down → 2 ^ (level + 1) ≤ down + 1
level_down level place down h under = omega (arith, pow-add 2 level 1)
