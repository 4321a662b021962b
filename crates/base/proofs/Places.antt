-- The values among the places after one more, one fewer, or another one.
use Rattle.std.proofs.Common.{◌≡◌, ◌≢◌, ℕ, ◌+◌, ◌-◌, ◌<◌, ◌≤◌, List, [], ◌∷◌, ◌++◌, length, take, drop, replicate, get_or, set, refl, ap, sym, ◌∙◌, arith, inl, inr, length-append, length-drop, length-take-le}
use Rattle.std.proofs.lemmas.Bool.{cases_lt, cases_eq}
use Rattle.std.proofs.lemmas.List.{get_or_append_left, get_or-append_right, get_or-take, get_or-drop, get_or-replicate, get_or_default, length-replicate, ext_get_or, take_more, take-set, length-set, get_or-set_same, get_or-set_other}
use Rattle.std.proofs.Math.Seq.{take-set-lt}
use Rattle.base.specs.Padded.{padded, IsPadded, length-kept}

module _ {T : Type 0} (blank : T) (most : ℕ) where
  -- places that are blank from one on are padded
  pub kept_by : (places : List T) (len : ℕ) → len ≤ most → length places ≡ most → ((k : ℕ) → len ≤ k → k < most → get_or places k blank ≡ blank) → IsPadded blank most places len
  kept_by places len within whole rest = record { within = within; whole = whole; rest = ext_get_or blank again places as_long each }
    where
      again : List T
      again = padded blank most (take len places)

      front : length (take len places) ≡ len
      front = length-take-le len places (omega (arith, within, whole))

      as_long : length again ≡ length places
      as_long = omega (arith, within, whole, length-append (take len places) (replicate (most - length (take len places)) blank), front, length-replicate {A = T} (most - length (take len places)) blank)

      each : (k : ℕ) → k < length again → get_or again k blank ≡ get_or places k blank
      each k less = elim (cases_lt k len) [
        | inl used ↦ get_or_append_left (take len places) (replicate (most - length (take len places)) blank) blank k (omega (arith, front)) ∙ get_or-take len places k blank used
        | inr past ↦
            get_or-append_right (take len places) (replicate (most - length (take len places)) blank) len k blank front past
            ∙ get_or-replicate (most - length (take len places)) (k - len) blank blank (omega (arith, as_long, front, whole))
            ∙ sym (rest k past (omega (arith, as_long, whole)))
      ]

  -- places that are all blank
  pub kept_none : IsPadded blank most (replicate most blank) 0
  kept_none = kept_by (replicate most blank) 0 (omega arith) (length-replicate {A = T} most blank) (λ k past less. get_or-replicate most k blank blank less)

  -- values that were copied over blank ones
  pub kept_copied : (values : List T) → length values ≤ most → IsPadded blank most (values ++ drop (length values) (replicate most blank)) (length values)
  kept_copied values few =
      let n = length values in
      kept_by (values ++ drop n (replicate most blank)) n few
      (omega (arith, few, length-append values (drop n (replicate most blank)), length-drop n (replicate most blank), length-replicate {A = T} most blank))
      (λ k past less.
      get_or-append_right values (drop n (replicate most blank)) n k blank refl past
      ∙ get_or-drop n (replicate most blank) (k - n) blank
      ∙ get_or-replicate most (n + (k - n)) blank blank (omega (arith, past, less)))

  module _ (places : List T) (len : ℕ) (is : IsPadded blank most places len) where
    pub blank_there : (k : ℕ) → len ≤ k → k < most → get_or places k blank ≡ blank
    blank_there k past less =
        let front = length-kept blank most places len is in
        sym (ap (λ (l : List T). get_or l k blank) is.rest)
        ∙ get_or-append_right (take len places) (replicate (most - length (take len places)) blank) len k blank front past
        ∙ get_or-replicate (most - length (take len places)) (k - len) blank blank (omega (arith, is.within, front))

    -- a value in the first place that is not in use
    pub kept_push : (value : T) → len < most → IsPadded blank most (set places len value) (len + 1)
    kept_push value room =
        kept_by (set places len value) (len + 1) (omega (arith, room)) (length-set places len value ∙ is.whole)
        (λ k past less. let apart : k ≢ len = omega arith in get_or-set_other places len k value blank apart ∙ blank_there k (omega arith) less)

    -- one place more in use, which is blank
    pub kept_more : len < most → IsPadded blank most places (len + 1)
    kept_more room = kept_by places (len + 1) (omega (arith, room)) is.whole (λ k past less. blank_there k (omega arith) less)

    -- another value in a place in use
    pub kept_set : (k : ℕ) (value : T) → k < len → IsPadded blank most (set places k value) len
    kept_set k value used =
        kept_by (set places k value) len is.within (length-set places k value ∙ is.whole)
        (λ j past less. let apart : j ≢ k = omega (arith, used) in get_or-set_other places k j value blank apart ∙ blank_there j past less)

    -- the last place in use is freed
    pub kept_less : (less : ℕ) → less + 1 ≡ len → IsPadded blank most (set places less blank) less
    kept_less less at =
        kept_by (set places less blank) less (omega (arith, at, is.within)) (length-set places less blank ∙ is.whole) (λ k past small. elim (cases_eq k less) [
          | inr apart ↦ get_or-set_other places less k blank blank apart ∙ blank_there k (omega (arith, at)) small
          | inl same ↦ ap (λ (n : ℕ). get_or (set places less blank) n blank) same ∙ get_or-set_same places less blank blank (omega (arith, at, is.within, is.whole))
        ])

    -- ---- as the list that contracts see
    module _ (xs : List T) (view : take len places ≡ xs) where
      pub len_is : length xs ≡ len
      len_is = ap length (sym view) ∙ length-kept blank most places len is

      pub there : (k : ℕ) (default other : T) → k < len → get_or places k default ≡ get_or xs k other
      there k default other used =
          get_or_default places k default other (omega (arith, is.within, is.whole))
          ∙ sym (get_or-take len places k other used)
          ∙ ap (λ (l : List T). get_or l k other) view

      pub more_is : len < most → take (len + 1) places ≡ xs ++ blank ∷ []
      more_is room =
          take_more places len blank (omega (arith, room, is.whole))
          ∙ ap (λ (x : T). take len places ++ x ∷ []) (blank_there len (omega arith) room)
          ∙ ap (λ (l : List T). l ++ blank ∷ []) view

      pub set_is : (k : ℕ) (value : T) → k < len → take len (set places k value) ≡ set xs k value
      set_is k value used = take-set-lt len places k value used ∙ ap (λ (l : List T). set l k value) view

      pub less_is : (less : ℕ) (last : T) → less + 1 ≡ len → xs ≡ take less (set places less blank) ++ get_or places less last ∷ []
      less_is less last at =
          sym view
          ∙ ap (λ (n : ℕ). take n places) (sym at)
          ∙ take_more places less last (omega (arith, at, is.within, is.whole))
          ∙ ap (λ (l : List T). l ++ get_or places less last ∷ []) (sym (take-set places less blank))

  -- places that were copied up to one which no place in use is after
  module _ (places others : List T) (len len' : ℕ) (is : IsPadded blank most places len) (others_is : IsPadded blank most others len') where
    pub copied_is : (now : List T) (k : ℕ) → length now ≡ most → len ≤ k → len' ≤ k → ((j : ℕ) → j < k → get_or now j blank ≡ get_or others j blank) → ((j : ℕ) → k ≤ j → get_or now j blank ≡ get_or places j blank) → now ≡ others
    copied_is now k whole past past' copied left = ext_get_or blank now others (whole ∙ sym others_is.whole) (λ j less. elim (cases_lt j k) [
      | inl before ↦ copied j before
      | inr behind ↦
          left j behind
          ∙ blank_there places len is j (omega arith) (omega (arith, whole))
          ∙ sym (blank_there others len' others_is j (omega arith) (omega (arith, whole)))
    ])

  -- one place more that was copied
  pub copied_more : (now others : List T) (k : ℕ) (value : T) → k < most → length now ≡ most → length others ≡ most → value ≡ get_or others k value
      → ((j : ℕ) → j < k → get_or now j blank ≡ get_or others j blank) → (j : ℕ) → j < k + 1 → get_or (set now k value) j blank ≡ get_or others j blank
  copied_more now others k value less whole whole' is copied j before = elim (cases_eq j k) [
    | inl same ↦
        ap (λ (n : ℕ). get_or (set now k value) n blank) same
        ∙ get_or-set_same now k value blank (omega (arith, whole))
        ∙ is ∙ get_or_default others k value blank (omega (arith, whole'))
        ∙ ap (λ (n : ℕ). get_or others n blank) (sym same)
    | inr apart ↦ get_or-set_other now k j value blank apart ∙ copied j (omega arith)
  ]
