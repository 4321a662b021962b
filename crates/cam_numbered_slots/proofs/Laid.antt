-- Which slots are used and which are free, and what stands in them, after a value more, one that is changed and one fewer.
use Rattle.std.proofs.Common.{◌≡◌, ◌≢◌, ℕ, ◌+◌, ◌<◌, List, [], ◌∷◌, ◌++◌, length, get_or, set, Option, Some, None, IsSome, All, inl, inr, refl, ap, sym, subst, ◌∙◌, arith, true≢false}
use Rattle.std.specs.List.{remove}
use Rattle.std.proofs.lemmas.Bool.{cases_eq, cases_lt}
use Rattle.std.proofs.lemmas.List.{get_or-set_same, get_or-set_other, get_or_past, get_or_append_left, get_or_push, get_or_default, length-set, length_push}
use Rattle.std.proofs.lemmas.List.Edits.{length-remove, get_or-remove_below, get_or-remove_above}
use Rattle.std.proofs.lemmas.List.Elements.{All-push}
use Rattle.std.proofs.lemmas.List.Quantifiers.{all_pairs_push, all_pairs_remove}
use Rattle.cam_numbered_slots.specs.Invariant.{AreApart, AreSlots, IsFull, IsFree, value_at, values_in}
use Rattle.cam_numbered_slots.proofs.Values.{values_push, values_removed, values_set, same_values}

abbrev Differ : ℕ → ℕ → Type 0
Differ one other = one ≢ other

-- all but the last, and the last
all_front : (P : ℕ → Type 0) (xs : List ℕ) (y : ℕ) → All P (xs ++ y ∷ []) → All P xs
all_front P xs y h = λ k d l. subst P (get_or_append_left xs (y ∷ []) d k l) (h k d (omega (arith, length_push xs y, l)))

all_last : (P : ℕ → Type 0) (xs : List ℕ) (y : ℕ) → All P (xs ++ y ∷ []) → P y
all_last P xs y h = subst P (get_or_push xs y y (length xs) refl) (h (length xs) y (omega (arith, length_push xs y)))

apart_front : (xs : List ℕ) (y : ℕ) → AreApart (xs ++ y ∷ []) → AreApart xs
apart_front xs y h = λ i j d lt l same.
    let li : i < length xs = omega (arith, lt, l) in
    h i j d lt (omega (arith, length_push xs y, l)) (get_or_append_left xs (y ∷ []) d i li ∙ (same ∙ sym (get_or_append_left xs (y ∷ []) d j l)))

apart_last : (xs : List ℕ) (y : ℕ) → AreApart (xs ++ y ∷ []) → (k d : ℕ) → k < length xs → get_or xs k d ≢ y
apart_last xs y h k d l same =
    h k (length xs) d l (omega (arith, length_push xs y)) (get_or_append_left xs (y ∷ []) d k l ∙ (same ∙ sym (get_or_push xs y d (length xs) refl)))

-- what is left without one stood at another place
left : (us : List ℕ) (k : ℕ) → AreApart us → k < length us → (j d : ℕ) → j < length (remove us k) → (i : ℕ) × (i < length us) × (get_or (remove us k) j d ≡ get_or us i 0) × (get_or us i 0 ≢ get_or us k 0)
left us k apart l j d within =
    let fewer : length (remove us k) + 1 ≡ length us = length-remove us k l in
    elim (cases_lt j k) [
      | inl below ↦
          let lj : j < length us = omega (arith, below, l) in
          (j, lj, get_or-remove_below us k d j below l ∙ get_or_default us j d 0 lj, apart j k 0 below l)
      | inr behind ↦
          let lj : j + 1 < length us = omega (arith, fewer, within) in
          (j + 1, lj, get_or-remove_above us k d j behind l ∙ get_or_default us (j + 1) d 0 lj, λ same. apart k (j + 1) 0 (omega arith) lj (sym same))
    ]

module _ {T : Type 0} where
  pub full_within : (slots : List (Option T)) (s : ℕ) → IsFull slots s → s < length slots
  full_within slots s h =
      elim (cases_lt s (length slots)) [
        | inl l ↦ l
        | inr past ↦ absurd (true≢false (sym (subst IsSome (get_or_past slots s None past) h)))
      ]

  -- a slot with a value is another than one without
  unlike : (slots : List (Option T)) (s u : ℕ) → IsFull slots u → value_at slots s ≡ None → u ≢ s
  unlike slots s u full none same = true≢false (sym (subst IsSome (ap (value_at slots) same ∙ none) full))

  kept_full : (slots : List (Option T)) (s u : ℕ) (o : Option T) → u ≢ s → IsFull slots u → IsFull (set slots s o) u
  kept_full slots s u o other h = subst IsSome (sym (get_or-set_other slots s u o None other)) h

  kept_free : (slots : List (Option T)) (s u : ℕ) (o : Option T) → u ≢ s → IsFree slots u → IsFree (set slots s o) u
  kept_free slots s u o other h = (omega (arith, length-set slots s o, h.0), get_or-set_other slots s u o None other ∙ h.1)

  pub full_at : (used : List ℕ) (slots : List (Option T)) (free : List ℕ) (k d : ℕ) → AreSlots used slots free → k < length used → IsFull slots (get_or used k d)
  full_at used slots free k d h l = h.full k d l

  -- a value is put into a slot that is free
  pub last_free : (used : List ℕ) (slots : List (Option T)) (rest : List ℕ) (s : ℕ) → AreSlots used slots (rest ++ s ∷ []) → IsFree slots s
  last_free used slots rest s h = all_last (IsFree slots) rest s h.free

  pub slots_put : (used : List ℕ) (slots : List (Option T)) (rest : List ℕ) (s : ℕ) (v : T) → AreSlots used slots (rest ++ s ∷ []) → AreSlots (used ++ s ∷ []) (set slots s (Some v)) rest
  slots_put used slots rest s v h =
      let this = last_free used slots rest s h in
      record {
        full = All-push (IsFull (set slots s (Some v))) used s
            (λ k d l. kept_full slots s (get_or used k d) (Some v) (unlike slots s (get_or used k d) (h.full k d l) this.1) (h.full k d l))
            (subst IsSome (sym (get_or-set_same slots s (Some v) None this.0)) refl);
        apart = all_pairs_push Differ used s h.apart (λ k d l. unlike slots s (get_or used k d) (h.full k d l) this.1);
        free = λ k d l. kept_free slots s (get_or rest k d) (Some v) (apart_last rest s h.free_apart k d l) (all_front (IsFree slots) rest s h.free k d l);
        free_apart = apart_front rest s h.free_apart;
        total = omega (arith, h.total, length_push used s, length_push rest s, length-set slots s (Some v));
      }

  pub values_put : (used : List ℕ) (slots : List (Option T)) (rest : List ℕ) (s : ℕ) (v : T) → AreSlots used slots (rest ++ s ∷ []) → values_in (used ++ s ∷ []) (set slots s (Some v)) ≡ values_in used slots ++ v ∷ []
  values_put used slots rest s v h =
      let this = last_free used slots rest s h in
      values_push (value_at slots) (value_at (set slots s (Some v))) used s v
      (λ k d l. get_or-set_other slots s (get_or used k d) (Some v) None (unlike slots s (get_or used k d) (h.full k d l) this.1))
      (get_or-set_same slots s (Some v) None this.0)

  -- or into one more
  pub slots_more : (used : List ℕ) (slots : List (Option T)) (v : T) → AreSlots used slots [] → AreSlots (used ++ length slots ∷ []) (slots ++ Some v ∷ []) []
  slots_more used slots v h = record {
    full = All-push (IsFull (slots ++ Some v ∷ [])) used (length slots)
        (λ k d l. subst IsSome (sym (get_or_append_left slots (Some v ∷ []) None (get_or used k d) (full_within slots (get_or used k d) (h.full k d l)))) (h.full k d l))
        (subst IsSome (sym (get_or_push slots (Some v) None (length slots) refl)) refl);
    apart = all_pairs_push Differ used (length slots) h.apart (λ k d l same. omega (arith, full_within slots (get_or used k d) (h.full k d l), same));
    free = λ k d l. absurd (omega arith);
    free_apart = λ i j d lt l. absurd (omega arith);
    total = omega (arith, h.total, length_push used (length slots), length_push slots (Some v));
  }

  pub values_more : (used : List ℕ) (slots : List (Option T)) (v : T) → AreSlots used slots [] → values_in (used ++ length slots ∷ []) (slots ++ Some v ∷ []) ≡ values_in used slots ++ v ∷ []
  values_more used slots v h =
      values_push (value_at slots) (value_at (slots ++ Some v ∷ [])) used (length slots) v
      (λ k d l. get_or_append_left slots (Some v ∷ []) None (get_or used k d) (full_within slots (get_or used k d) (h.full k d l)))
      (get_or_push slots (Some v) None (length slots) refl)

  -- a value is taken out
  pub slots_taken : (used : List ℕ) (slots : List (Option T)) (free : List ℕ) (k s : ℕ) → AreSlots used slots free → k < length used → get_or used k 0 ≡ s → AreSlots (remove used k) (set slots s None) (free ++ s ∷ [])
  slots_taken used slots free k s h l is =
      let within : s < length slots = full_within slots s (subst (IsFull slots) is (h.full k 0 l)) in
      record {
        full = λ j d w.
            let it = left used k h.apart l j d w in
            subst (IsFull (set slots s None)) (sym it.2) (kept_full slots s (get_or used it.0 0) None (λ same. it.3 (same ∙ sym is)) (h.full it.0 0 it.1));
        apart = all_pairs_remove Differ used k l h.apart;
        free = All-push (IsFree (set slots s None)) free s
            (λ j d w. kept_free slots s (get_or free j d) None (λ same. unlike slots (get_or free j d) s (subst (IsFull slots) is (h.full k 0 l)) (h.free j d w).1 (sym same)) (h.free j d w))
            (omega (arith, length-set {A = Option T} slots s None, within), get_or-set_same slots s None None within);
        free_apart = all_pairs_push Differ free s h.free_apart (λ j d w same. unlike slots (get_or free j d) s (subst (IsFull slots) is (h.full k 0 l)) (h.free j d w).1 (sym same));
        total = omega (arith, h.total, length-remove used k l, length_push free s, length-set {A = Option T} slots s None);
      }

  pub values_taken : (used : List ℕ) (slots : List (Option T)) (free : List ℕ) (k s : ℕ) → AreSlots used slots free → k < length used → get_or used k 0 ≡ s → values_in (remove used k) (set slots s None) ≡ remove (values_in used slots) k
  values_taken used slots free k s h l is =
      same_values (value_at slots) (value_at (set slots s None)) (remove used k)
      (λ j d w.
      let it = left used k h.apart l j d w in
      get_or-set_other slots s (get_or (remove used k) j d) None None (λ same. it.3 (sym it.2 ∙ (same ∙ sym is))))
      ∙ values_removed (value_at slots) used k h.full l

  -- a value is changed where it stands
  pub slots_changed : (used : List ℕ) (slots : List (Option T)) (free : List ℕ) (k s : ℕ) (w : T) → AreSlots used slots free → k < length used → get_or used k 0 ≡ s → AreSlots used (set slots s (Some w)) free
  slots_changed used slots free k s w h l is =
      let here = subst (IsFull slots) is (h.full k 0 l) in
      let either : (u : ℕ) → IsFull slots u → IsFull (set slots s (Some w)) u = λ u full.
      elim (cases_eq u s) [
        | inl same ↦ subst (IsFull (set slots s (Some w))) (sym same) (subst IsSome (sym (get_or-set_same slots s (Some w) None (full_within slots s here))) refl)
        | inr other ↦ kept_full slots s u (Some w) other full
      ] in
      record {
        full = λ j d b. either (get_or used j d) (h.full j d b);
        apart = h.apart;
        free = λ j d b. kept_free slots s (get_or free j d) (Some w) (λ same. unlike slots (get_or free j d) s here (h.free j d b).1 (sym same)) (h.free j d b);
        free_apart = h.free_apart;
        total = omega (arith, h.total, length-set slots s (Some w));
      }

  pub values_changed : (used : List ℕ) (slots : List (Option T)) (free : List ℕ) (k s : ℕ) (w : T) → AreSlots used slots free → k < length used → get_or used k 0 ≡ s → values_in used (set slots s (Some w)) ≡ set (values_in used slots) k w
  values_changed used slots free k s w h l is =
      let within = full_within slots s (subst (IsFull slots) is (h.full k 0 l)) in
      values_set (value_at slots) (value_at (set slots s (Some w))) used k w h.full h.apart l
      (ap (value_at (set slots s (Some w))) is ∙ get_or-set_same slots s (Some w) None within)
      (λ u other. get_or-set_other slots s u (Some w) None (λ same. other (same ∙ sym is)))
