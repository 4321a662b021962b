-- Which stacks are covered: with a frame more or less, with bytes marked, and what is known of what two cover.
use Rattle.std.proofs.Common.{◌≡◌, ◌≢◌, ℕ, zero, suc, ◌+◌, ◌<◌, ◌≤◌, Bool, true, false, List, [], ◌∷◌, ◌++◌, Option, Some, None, is_some, length, map, replicate, set, refl, ap, sym, subst, ◌∙◌, arith, inl, inr, length-append}
use Rattle.std.specs.Prelude.{slice_index_or, ◌&&◌}
use Rattle.std.proofs.lemmas.Bool.{cases_lt, cases_eq}
use Rattle.std.proofs.lemmas.List.{get_or_append_left, get_or_at, get_or_past, get_or-replicate, get_or-set_same, get_or-set_other, length-set, length-map, length-replicate}
use Rattle.bpf_stack_frame.specs.ByteSet.{Has, with_all}
use Rattle.bpf_stack_frame.proofs.Sets.{with_all_below, with_all_inside, with_all_above}
use Rattle.stack_domain.specs.Sets.{AreSets}
use Rattle.stack_domain.specs.Stack.{Marked, IsWritten, MarksCover, AreWritten, Knows}

-- a byte that is marked is one of a live frame
pub marked_live : (stack : List (List Bool)) (k offset : ℕ) → Marked stack k offset → k < length stack
marked_live stack k offset marked = elim (cases_lt k (length stack)) [
  | inl live ↦ live
  | inr past ↦ (let none : false ≡ true = ap (λ (bytes : List Bool). slice_index_or bytes offset false) (sym (get_or_past stack k [] past)) ∙ marked in absurd (cc))
]

pub has_inside : (bytes : List Bool) (offset : ℕ) → Has bytes offset → offset < length bytes
has_inside bytes offset has = elim (cases_lt offset (length bytes)) [
  | inl inside ↦ inside
  | inr past ↦ (let none : false ≡ true = sym (get_or_past bytes offset false past) ∙ has in absurd (cc))
]

-- ---- one frame more

module _ (frames : List (List (Option ℕ))) (frame : List (Option ℕ)) where
  pub written_below : (k offset : ℕ) → k < length frames → IsWritten (frames ++ frame ∷ []) k offset ≡ IsWritten frames k offset
  written_below k offset live =
      ap (λ (f : List (Option ℕ)). is_some (slice_index_or f offset None) ≡ true) (get_or_append_left frames (frame ∷ []) [] k live)

  pub written_last : (k offset : ℕ) → length frames ≡ k → IsWritten (frames ++ frame ∷ []) k offset ≡ (is_some (slice_index_or frame offset None) ≡ true)
  written_last k offset last =
      ap (λ (f : List (Option ℕ)). is_some (slice_index_or f offset None) ≡ true) (get_or_at frames frame [] [] k last)

  length_more : length (frames ++ frame ∷ []) ≡ length frames + 1
  length_more = length-append frames (frame ∷ [])

  pub whole_more : ((k : ℕ) → k < length frames → length (slice_index_or frames k []) ≡ 512) → length frame ≡ 512
      → (k : ℕ) → k < length (frames ++ frame ∷ []) → length (slice_index_or (frames ++ frame ∷ []) k []) ≡ 512
  whole_more whole last k less = elim (cases_lt k (length frames)) [
    | inl below ↦ ap length (get_or_append_left frames (frame ∷ []) [] k below) ∙ whole k below
    | inr above ↦ (let at : length frames ≡ k = omega (arith, length_more) in ap length (get_or_at frames frame [] [] k at) ∙ last)
  ]

  pub whole_less : ((k : ℕ) → k < length (frames ++ frame ∷ []) → length (slice_index_or (frames ++ frame ∷ []) k []) ≡ 512)
      → (k : ℕ) → k < length frames → length (slice_index_or frames k []) ≡ 512
  whole_less whole k below =
      ap length (sym (get_or_append_left frames (frame ∷ []) [] k below)) ∙ whole k (omega (arith, length_more))

-- the last frame's set is of bytes that are written
module _ (stack : List (List Bool)) (bytes : List Bool) (frames : List (List (Option ℕ))) (frame : List (Option ℕ)) where
  pub covers_more : MarksCover stack frames → length frame ≡ 512 → ((offset : ℕ) → Has bytes offset → is_some (slice_index_or frame offset None) ≡ true)
      → MarksCover (stack ++ bytes ∷ []) (frames ++ frame ∷ [])
  covers_more covers last marked = record {
    depth = omega (arith, length-append frames (frame ∷ []), length-append stack (bytes ∷ []), covers.depth);
    whole = whole_more frames frame covers.whole last;
    written = each;
  }
    where
      each : (k offset : ℕ) → Marked (stack ++ bytes ∷ []) k offset → IsWritten (frames ++ frame ∷ []) k offset
      each k offset has = elim (cases_lt k (length stack)) [
        | inl below ↦
            subst (λ (T : Type 0). T) (sym (written_below frames frame k offset (omega (arith, covers.depth))))
            (covers.written k offset (ap (λ (s : List Bool). slice_index_or s offset false) (sym (get_or_append_left stack (bytes ∷ []) [] k below)) ∙ has))
        | inr above ↦ (
            let live = marked_live (stack ++ bytes ∷ []) k offset has in
            let at : length stack ≡ k = omega (arith, length-append stack (bytes ∷ [])) in
            subst (λ (T : Type 0). T) (sym (written_last frames frame k offset (covers.depth ∙ at)))
            (marked offset (ap (λ (s : List Bool). slice_index_or s offset false) (sym (get_or_at stack bytes [] [] k at)) ∙ has))
            )
      ]

  pub covers_less : MarksCover (stack ++ bytes ∷ []) (frames ++ frame ∷ []) → MarksCover stack frames
  covers_less covers =
      let same : length frames ≡ length stack = omega (arith, length-append frames (frame ∷ []), length-append stack (bytes ∷ []), covers.depth) in
      record {
        depth = same;
        whole = whole_less frames frame covers.whole;
        written = λ k offset has.
            let live = marked_live stack k offset has in
            subst (λ (T : Type 0). T) (written_below frames frame k offset (omega arith))
            (covers.written k offset (ap (λ (s : List Bool). slice_index_or s offset false) (get_or_append_left stack (bytes ∷ []) [] k live) ∙ has));
      }

  pub last_whole : MarksCover (stack ++ bytes ∷ []) (frames ++ frame ∷ []) → length frame ≡ 512
  last_whole covers =
      ap length (sym (get_or_at frames frame [] [] (length frames) refl)) ∙ covers.whole (length frames) (omega (arith, length-append frames (frame ∷ [])))

-- ---- what is known is marked

-- a frame in which just the marked bytes are written
mark_byte : Bool → Option ℕ
mark_byte true = Some 0
mark_byte false = None

just_written : List Bool → List (Option ℕ)
just_written bytes = map mark_byte bytes

is_some-mark_byte : (b : Bool) → is_some (mark_byte b) ≡ b
unfolding mark_byte
is_some-mark_byte true = refl
is_some-mark_byte false = refl

is_some-just_written : (bytes : List Bool) (offset : ℕ) → is_some (slice_index_or (just_written bytes) offset None) ≡ slice_index_or bytes offset false
unfolding just_written mark_byte
is_some-just_written [] offset = refl
is_some-just_written (b ∷ bytes) zero = is_some-mark_byte b
is_some-just_written (b ∷ bytes) (suc offset) = is_some-just_written bytes offset

at_just_written : (stack : List (List Bool)) (k : ℕ) → slice_index_or (map just_written stack) k [] ≡ just_written (slice_index_or stack k [])
unfolding just_written
at_just_written [] k = refl
at_just_written (bytes ∷ stack) zero = refl
at_just_written (bytes ∷ stack) (suc k) = at_just_written stack k

module _ (stack : List (List Bool)) (are : AreSets stack) where
  is_some-stack : (k offset : ℕ) → is_some (slice_index_or (slice_index_or (map just_written stack) k []) offset None) ≡ slice_index_or (slice_index_or stack k []) offset false
  is_some-stack k offset =
      ap (λ (f : List (Option ℕ)). is_some (slice_index_or f offset None)) (at_just_written stack k) ∙ is_some-just_written (slice_index_or stack k []) offset

  covers_just : MarksCover stack (map just_written stack)
  unfolding just_written
  covers_just = record {
    depth = length-map stack just_written;
    whole = λ k less. ap length (at_just_written stack k) ∙ length-map (slice_index_or stack k []) mark_byte ∙ are.whole k (omega (arith, length-map stack just_written));
    written = λ k offset marked. is_some-stack k offset ∙ marked;
  }

  pub known_marked : (k offset : ℕ) → Knows stack k offset → Marked stack k offset
  known_marked k offset knows = sym (is_some-stack k offset) ∙ knows (map just_written stack) covers_just

-- ---- the innermost frame is gone

-- some stack goes on with a frame of which all is written
pub known_less : (stack : List (List Bool)) (bytes : List Bool) (k offset : ℕ) → length bytes ≡ 512 → k < length stack
    → Knows (stack ++ bytes ∷ []) k offset → Knows stack k offset
known_less stack bytes k offset long live knows frames covers =
    let all : List (Option ℕ) = replicate 512 (Some 0) in
    let zero_byte : Option ℕ = Some 0 in
    let last : length all ≡ 512 = length-replicate {A = Option ℕ} 512 zero_byte in
    let more = covers_more stack bytes frames all covers last (λ i has.
    let within = has_inside bytes i has in
    ap is_some (get_or-replicate {A = Option ℕ} 512 i zero_byte None (omega arith))) in
    subst (λ (T : Type 0). T) (written_below frames all k offset (omega (arith, covers.depth))) (knows (frames ++ all ∷ []) more)

-- ---- bytes marked in one frame

abbrev pub with_marks : List (List Bool) → ℕ → ℕ → ℕ → List (List Bool)
with_marks stack frame offset count = set stack frame (with_all (slice_index_or stack frame []) offset count)

module _ (stack : List (List Bool)) (frame offset count : ℕ) (live : frame < length stack) (inside : offset + count ≤ length (slice_index_or stack frame [])) where
  here : (i : ℕ) → slice_index_or (slice_index_or (with_marks stack frame offset count) frame []) i false ≡ slice_index_or (with_all (slice_index_or stack frame []) offset count) i false
  here i = ap (λ (s : List Bool). slice_index_or s i false) (get_or-set_same stack frame (with_all (slice_index_or stack frame []) offset count) [] live)

  elsewhere : (k i : ℕ) → k ≢ frame → slice_index_or (slice_index_or (with_marks stack frame offset count) k []) i false ≡ slice_index_or (slice_index_or stack k []) i false
  elsewhere k i apart = ap (λ (s : List Bool). slice_index_or s i false) (get_or-set_other stack frame k (with_all (slice_index_or stack frame []) offset count) [] apart)

  still_marked : (k i : ℕ) → Marked stack k i → Marked (with_marks stack frame offset count) k i
  still_marked k i has = elim (cases_eq k frame) [
    | inr apart ↦ elsewhere k i apart ∙ has
    | inl same ↦ subst (λ (n : ℕ). Marked (with_marks stack frame offset count) n i) (sym same) (here i ∙ elim (cases_lt i offset) [
      | inl below ↦ with_all_below (slice_index_or stack frame []) offset count inside i below ∙ ap (λ (n : ℕ). slice_index_or (slice_index_or stack n []) i false) (sym same) ∙ has
      | inr from ↦ elim (cases_lt i (offset + count)) [
        | inl to ↦ with_all_inside (slice_index_or stack frame []) offset count inside i from to
        | inr above ↦ with_all_above (slice_index_or stack frame []) offset count inside i above ∙ ap (λ (n : ℕ). slice_index_or (slice_index_or stack n []) i false) (sym same) ∙ has
      ]
    ])
  ]

  pub covers_before : (frames : List (List (Option ℕ))) → MarksCover (with_marks stack frame offset count) frames → MarksCover stack frames × AreWritten frames frame offset (offset + count)
  covers_before frames covers = (
    record {
      depth = covers.depth ∙ length-set stack frame (with_all (slice_index_or stack frame []) offset count);
      whole = covers.whole;
      written = λ k i has. covers.written k i (still_marked k i has);
    },
    λ i from to. covers.written frame i (here i ∙ with_all_inside (slice_index_or stack frame []) offset count inside i from to),
  )

  pub covers_after : (frames : List (List (Option ℕ))) → MarksCover stack frames → AreWritten frames frame offset (offset + count) → MarksCover (with_marks stack frame offset count) frames
  covers_after frames covers are = record {
    depth = covers.depth ∙ sym (length-set stack frame (with_all (slice_index_or stack frame []) offset count));
    whole = covers.whole;
    written = each;
  }
    where
      in_frame : (i : ℕ) → Marked (with_marks stack frame offset count) frame i → IsWritten frames frame i
      in_frame i has = elim (cases_lt i offset) [
        | inl below ↦ covers.written frame i (sym (with_all_below (slice_index_or stack frame []) offset count inside i below) ∙ sym (here i) ∙ has)
        | inr from ↦ elim (cases_lt i (offset + count)) [
          | inl to ↦ are i from to
          | inr above ↦ covers.written frame i (sym (with_all_above (slice_index_or stack frame []) offset count inside i above) ∙ sym (here i) ∙ has)
        ]
      ]

      each : (k i : ℕ) → Marked (with_marks stack frame offset count) k i → IsWritten frames k i
      each k i has = elim (cases_eq k frame) [
        | inr apart ↦ covers.written k i (sym (elsewhere k i apart) ∙ has)
        | inl same ↦ subst (λ (n : ℕ). IsWritten frames n i) (sym same) (in_frame i (subst (λ (n : ℕ). Marked (with_marks stack frame offset count) n i) same has))
      ]

-- ---- a look at a range

module _ (stack : List (List Bool)) (are : AreSets stack) (frame from end : ℕ) where
  pub all_known : ((i : ℕ) → from ≤ i → i < end → Marked stack frame i) → (frames : List (List (Option ℕ))) → MarksCover stack frames → AreWritten frames frame from end
  all_known all frames covers i low high = covers.written frame i (all i low high)

  pub all_marked : ((frames : List (List (Option ℕ))) → MarksCover stack frames → AreWritten frames frame from end) → (i : ℕ) → from ≤ i → i < end → Marked stack frame i
  all_marked all i low high = known_marked stack are frame i (λ frames covers. all frames covers i low high)

-- ---- what two both know

pub knows_both : (xs ys both : List (List Bool)) → AreSets xs → AreSets ys
    → ((k offset : ℕ) → k < length xs → slice_index_or (slice_index_or both k []) offset false ≡ (slice_index_or (slice_index_or xs k []) offset false && slice_index_or (slice_index_or ys k []) offset false))
    → (k offset : ℕ) → Knows xs k offset → Knows ys k offset → Knows both k offset
knows_both xs ys both are are_too is k offset first second frames covers =
    let a = known_marked xs are k offset first in
    let b = known_marked ys are_too k offset second in
    covers.written k offset (is k offset (marked_live xs k offset a) ∙ ap (λ (t : Bool). t && slice_index_or (slice_index_or ys k []) offset false) a ∙ b)

-- no frame
pub covers_none : MarksCover [] []
covers_none = record { depth = refl; whole = λ k less. absurd (omega arith); written = λ k offset has. absurd (cc) }
