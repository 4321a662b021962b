-- A store keeps what is covered, since written bytes stay written; and the bytes that it writes are written.
use Rattle.std.proofs.Common.{◌≡◌, ◌≢◌, ℕ, ◌+◌, ◌-◌, ◌<◌, ◌≤◌, Bool, true, List, [], ◌++◌, Option, Some, None, is_some, length, map, take, drop, get_or, ap, subst, ◌∙◌, arith, inl, inr, ◌⊎◌, length-append, length-drop}
use Rattle.std.specs.Prelude.{slice_index_or}
use Rattle.std.proofs.lemmas.Bool.{cases_lt, cases_eq}
use Rattle.std.proofs.lemmas.List.{get_or_append_left, get_or-append_right, get_or-take, get_or-drop, get_or-map, get_or-set_same, get_or-set_other, length-set, length-map, length-take-le}
use Rattle.bpf_stack_frame.specs.Frame.{written_at}
use Rattle.stack_domain.specs.Stores.{stored}
use Rattle.stack_domain.specs.Stack.{Marked, MarksCover, AreWritten}

module _ (frame : List (Option ℕ)) (offset : ℕ) (bytes : List ℕ) (inside : offset + length bytes ≤ length frame) where
  front : length (take offset frame) ≡ offset
  front = length-take-le offset frame (omega arith)

  middle : length (take offset frame ++ map Some bytes) ≡ offset + length bytes
  middle = omega (arith, length-append (take offset frame) (map Some bytes), front, length-map bytes Some)

  pub length-written_at : length (written_at offset bytes frame) ≡ length frame
  unfolding written_at
  length-written_at =
      omega (arith, length-append (take offset frame ++ map Some bytes) (drop (offset + length bytes) frame), middle, length-drop (offset + length bytes) frame)

  pub written_at_inside : (k : ℕ) → offset ≤ k → k < offset + length bytes → is_some (get_or (written_at offset bytes frame) k None) ≡ true
  unfolding written_at
  written_at_inside k from to =
      ap is_some (get_or_append_left (take offset frame ++ map Some bytes) (drop (offset + length bytes) frame) None k (omega (arith, middle))
      ∙ get_or-append_right (take offset frame) (map Some bytes) offset k None front from
      ∙ get_or-map Some bytes (k - offset) 0 None (omega arith))

  pub written_at_outside : (k : ℕ) → (k < offset) ⊎ (offset + length bytes ≤ k) → get_or (written_at offset bytes frame) k None ≡ get_or frame k None
  unfolding written_at
  written_at_outside k (inl below) =
      get_or_append_left (take offset frame ++ map Some bytes) (drop (offset + length bytes) frame) None k (omega (arith, middle))
      ∙ get_or_append_left (take offset frame) (map Some bytes) None k (omega (arith, front))
      ∙ get_or-take offset frame k None below
  written_at_outside k (inr above) =
      let place : offset + length bytes + (k - (offset + length bytes)) ≡ k = omega arith in
      get_or-append_right (take offset frame ++ map Some bytes) (drop (offset + length bytes) frame) (offset + length bytes) k None middle above
      ∙ get_or-drop (offset + length bytes) frame (k - (offset + length bytes)) None
      ∙ ap (λ (n : ℕ). get_or frame n None) place

  -- written bytes stay written
  pub still_written : (k : ℕ) → is_some (get_or frame k None) ≡ true → is_some (get_or (written_at offset bytes frame) k None) ≡ true
  still_written k was = elim (cases_lt k offset) [
    | inl below ↦ ap is_some (written_at_outside k (inl below)) ∙ was
    | inr from ↦ elim (cases_lt k (offset + length bytes)) [
      | inl to ↦ written_at_inside k from to
      | inr above ↦ ap is_some (written_at_outside k (inr above)) ∙ was
    ]
  ]

module _ (stack : List (List Bool)) (frames : List (List (Option ℕ))) (covers : MarksCover stack frames) (k offset : ℕ) (bytes : List ℕ) (live : k < length frames) (inside : offset + length bytes ≤ 512) where
  fits : offset + length bytes ≤ length (slice_index_or frames k [])
  fits = omega (arith, covers.whole k live)

  there : slice_index_or (stored frames k offset bytes) k [] ≡ written_at offset bytes (slice_index_or frames k [])
  there = get_or-set_same frames k (written_at offset bytes (slice_index_or frames k [])) [] live

  other : (j : ℕ) → j ≢ k → slice_index_or (stored frames k offset bytes) j [] ≡ slice_index_or frames j []
  other j apart = get_or-set_other frames k j (written_at offset bytes (slice_index_or frames k [])) [] apart

  pub covers_stored : MarksCover stack (stored frames k offset bytes)
  covers_stored = record {
    depth = length-set frames k (written_at offset bytes (slice_index_or frames k [])) ∙ covers.depth;
    whole = λ j less. elim (cases_eq j k) [
      | inr apart ↦ ap length (other j apart) ∙ covers.whole j (omega (arith, length-set frames k (written_at offset bytes (slice_index_or frames k []))))
      | inl same ↦
          ap (λ (n : ℕ). length (slice_index_or (stored frames k offset bytes) n [])) same
          ∙ ap length there
          ∙ length-written_at (slice_index_or frames k []) offset bytes fits
          ∙ covers.whole k live
    ];
    written = λ j i has. elim (cases_eq j k) [
      | inr apart ↦ ap (λ (f : List (Option ℕ)). is_some (slice_index_or f i None)) (other j apart) ∙ covers.written j i has
      | inl same ↦
          ap (λ (n : ℕ). is_some (slice_index_or (slice_index_or (stored frames k offset bytes) n []) i None)) same
          ∙ ap (λ (f : List (Option ℕ)). is_some (slice_index_or f i None)) there
          ∙ still_written (slice_index_or frames k []) offset bytes fits i (covers.written k i (subst (λ (n : ℕ). Marked stack n i) same has))
    ];
  }

  pub stored_written : AreWritten (stored frames k offset bytes) k offset (offset + length bytes)
  stored_written i from to =
      ap (λ (f : List (Option ℕ)). is_some (slice_index_or f i None)) there ∙ written_at_inside (slice_index_or frames k []) offset bytes fits i from to
