-- The values that a list of slots finds, where each finds one and no slot is listed twice: after a change of one, one more
-- and one fewer.
use Rattle.std.proofs.Common.{◌≡◌, ◌≢◌, ℕ, zero, suc, ◌<◌, List, [], ◌∷◌, ◌++◌, length, get_or, set, Option, Some, None, IsSome, All, refl, ap, sym, ◌∙◌, arith, true≢false}
use Rattle.std.specs.List.{remove, cons_option, filter_map}
use Rattle.std.proofs.lemmas.List.Elements.{All-head, All-tail, filter_map-append}
use Rattle.cam_numbered_slots.specs.Invariant.{AreApart}

pub later_apart : (u : ℕ) (us : List ℕ) → AreApart (u ∷ us) → AreApart us
later_apart u us h = λ i j d l w. h (suc i) (suc j) d (omega arith) (omega arith)

pub first_apart : (u : ℕ) (us : List ℕ) (k d : ℕ) → AreApart (u ∷ us) → k < length us → u ≢ get_or us k d
first_apart u us k d h l = h 0 (suc k) d (omega arith) (omega arith)

module _ {T : Type 0} where
  pub there : (o : Option T) → IsSome o → (v : T) × (o ≡ Some v)
  there None h = absurd (true≢false (sym h))
  there (Some v) h = (v, refl)

  -- the first slot's value stands first
  pub first_is : (f : ℕ → Option T) (u : ℕ) (us : List ℕ) (v : T) → f u ≡ Some v → filter_map f (u ∷ us) ≡ v ∷ filter_map f us
  first_is f u us v e = ap (λ (o : Option T). cons_option o (filter_map f us)) e

  -- where each slot finds the same, so do all
  pub same_values : (f g : ℕ → Option T) (us : List ℕ) → All (λ u. g u ≡ f u) us → filter_map g us ≡ filter_map f us
  same_values f g [] h = refl
  same_values f g (u ∷ us) h =
      ap (λ (o : Option T). cons_option o (filter_map g us)) (All-head (λ (x : ℕ). g x ≡ f x) u us h)
      ∙ ap (λ (vs : List T). cons_option (f u) vs) (same_values f g us (All-tail (λ (x : ℕ). g x ≡ f x) u us h))

  pub values_length : (f : ℕ → Option T) (us : List ℕ) → All (λ u. IsSome (f u)) us → length (filter_map f us) ≡ length us
  values_length f [] h = refl
  values_length f (u ∷ us) h =
      let it = there (f u) (All-head (λ (x : ℕ). IsSome (f x)) u us h) in
      ap length (first_is f u us it.0 it.1) ∙ ap suc (values_length f us (All-tail (λ (x : ℕ). IsSome (f x)) u us h))

  -- what the slot at a place finds is the value at that place
  pub found_there : (f : ℕ → Option T) (us : List ℕ) (k d : ℕ) (e : T) → All (λ u. IsSome (f u)) us → k < length us → f (get_or us k d) ≡ Some (get_or (filter_map f us) k e)
  found_there f [] k d e h l = absurd (omega arith)
  found_there f (u ∷ us) zero d e h l =
      let it = there (f u) (All-head (λ (x : ℕ). IsSome (f x)) u us h) in
      it.1 ∙ ap (λ (vs : List T). Some (get_or vs 0 e)) (sym (first_is f u us it.0 it.1))
  found_there f (u ∷ us) (suc k) d e h l =
      let it = there (f u) (All-head (λ (x : ℕ). IsSome (f x)) u us h) in
      found_there f us k d e (All-tail (λ (x : ℕ). IsSome (f x)) u us h) (omega arith)
      ∙ ap (λ (vs : List T). Some (get_or vs (suc k) e)) (sym (first_is f u us it.0 it.1))

  pub values_removed : (f : ℕ → Option T) (us : List ℕ) (k : ℕ) → All (λ u. IsSome (f u)) us → k < length us → filter_map f (remove us k) ≡ remove (filter_map f us) k
  values_removed f [] k h l = absurd (omega arith)
  values_removed f (u ∷ us) zero h l =
      let it = there (f u) (All-head (λ (x : ℕ). IsSome (f x)) u us h) in
      ap (λ (vs : List T). remove vs 0) (sym (first_is f u us it.0 it.1))
  values_removed f (u ∷ us) (suc k) h l =
      let it = there (f u) (All-head (λ (x : ℕ). IsSome (f x)) u us h) in
      first_is f u (remove us k) it.0 it.1
      ∙ ap (λ (vs : List T). it.0 ∷ vs) (values_removed f us k (All-tail (λ (x : ℕ). IsSome (f x)) u us h) (omega arith))
      ∙ ap (λ (vs : List T). remove vs (suc k)) (sym (first_is f u us it.0 it.1))

  pub values_set : (f g : ℕ → Option T) (us : List ℕ) (k : ℕ) (w : T) → All (λ u. IsSome (f u)) us → AreApart us → k < length us → g (get_or us k 0) ≡ Some w → ((u : ℕ) → u ≢ get_or us k 0 → g u ≡ f u) → filter_map g us ≡ set (filter_map f us) k w
  values_set f g [] k w h a l now others = absurd (omega arith)
  values_set f g (u ∷ us) zero w h a l now others =
      let it = there (f u) (All-head (λ (x : ℕ). IsSome (f x)) u us h) in
      first_is g u us w now
      ∙ ap (λ (vs : List T). w ∷ vs) (same_values f g us (λ i d b. others (get_or us i d) (λ e. first_apart u us i d a b (sym e))))
      ∙ ap (λ (vs : List T). set vs 0 w) (sym (first_is f u us it.0 it.1))
  values_set f g (u ∷ us) (suc k) w h a l now others =
      let it = there (f u) (All-head (λ (x : ℕ). IsSome (f x)) u us h) in
      let first : g u ≡ Some it.0 = others u (first_apart u us k 0 a (omega arith)) ∙ it.1 in
      first_is g u us it.0 first
      ∙ ap (λ (vs : List T). it.0 ∷ vs) (values_set f g us k w (All-tail (λ (x : ℕ). IsSome (f x)) u us h) (later_apart u us a) (omega arith) now others)
      ∙ ap (λ (vs : List T). set vs (suc k) w) (sym (first_is f u us it.0 it.1))

  pub values_push : (f g : ℕ → Option T) (us : List ℕ) (s : ℕ) (v : T) → All (λ u. g u ≡ f u) us → g s ≡ Some v → filter_map g (us ++ s ∷ []) ≡ filter_map f us ++ v ∷ []
  values_push f g us s v same now =
      filter_map-append g us (s ∷ [])
      ∙ (ap (λ (vs : List T). vs ++ filter_map g (s ∷ [])) (same_values f g us same)
      ∙ ap (λ (vs : List T). filter_map f us ++ vs) (first_is g s [] v now))
