-- What is known where the bytes of one frame are known to be written that others are too.
use Rattle.std.proofs.Common.{◌≡◌, ℕ, ◌<◌, Bool, true, false, List, [], Option, length, set, refl, ap, sym, ◌∙◌, arith, inl, inr, length-set, get_or-set_same, get_or-set_other}
use Rattle.std.specs.Prelude.{slice_index_or, ◌&&◌}
use Rattle.std.proofs.lemmas.Bool.{cases_eq}
use Rattle.bpf_stack_frame.specs.ByteSet.{Has}
use Rattle.stack_domain.specs.Sets.{AreSets}
use Rattle.stack_domain.specs.Stack.{Marked, MarksCover, Knows}
use Rattle.stack_domain.proofs.Covered.{known_marked, has_inside, marked_live}

and_both : (a b c : Bool) → a ≡ (b && c) → b ≡ true → c ≡ true → a ≡ true
and_both a b c is first second = is ∙ (ap (λ (t : Bool). t && c) first ∙ second)

and_first : (a b c : Bool) → a ≡ (b && c) → a ≡ true → b ≡ true
and_first a true c is holds = refl
and_first a false c is holds = absurd (let bad : false ≡ true = sym is ∙ holds in cc)

and_second : (a b c : Bool) → a ≡ (b && c) → c ≡ false → a ≡ true → ⊥
and_second a true c is off holds = absurd (let bad : false ≡ true = sym off ∙ (sym is ∙ holds) in cc)
and_second a false c is off holds = absurd (let bad : false ≡ true = sym is ∙ holds in cc)

-- the frame has those of its bytes that are in another set
module _ (stack : List (List Bool)) (are : AreSets stack) (frame : ℕ) (live : frame < length stack) (others left : List Bool) (whole : length left ≡ 512)
    (both : (k : ℕ) → slice_index_or left k false ≡ (slice_index_or (slice_index_or stack frame []) k false && slice_index_or others k false)) where
  here : (k i : ℕ) → k ≡ frame → slice_index_or (slice_index_or (set stack frame left) k []) i false ≡ slice_index_or left i false
  here k i same = ap (λ (n : ℕ). slice_index_or (slice_index_or (set stack frame left) n []) i false) same ∙ ap (λ (s : List Bool). slice_index_or s i false) (get_or-set_same stack frame left [] live)

  there : (k i : ℕ) → (k ≡ frame → ⊥) → slice_index_or (slice_index_or (set stack frame left) k []) i false ≡ slice_index_or (slice_index_or stack k []) i false
  there k i apart = ap (λ (s : List Bool). slice_index_or s i false) (get_or-set_other stack frame k left [] apart)

  fewer : (k i : ℕ) → Marked (set stack frame left) k i → Marked stack k i
  fewer k i has = elim (cases_eq k frame) [
    | inl same ↦ ap (λ (n : ℕ). slice_index_or (slice_index_or stack n []) i false) same ∙ and_first _ _ _ (both i) (sym (here k i same) ∙ has)
    | inr apart ↦ sym (there k i apart) ∙ has
  ]

  pub still_covers : (frames : List (List (Option ℕ))) → MarksCover stack frames → MarksCover (set stack frame left) frames
  still_covers frames covers = record {
    depth = covers.depth ∙ sym (length-set stack frame left);
    whole = covers.whole;
    written = λ k i has. covers.written k i (fewer k i has);
  }

  pub still_knows : (k i : ℕ) → (k ≡ frame → Has others i) → Knows stack k i → Knows (set stack frame left) k i
  still_knows k i in_others knows frames covers =
      let was : Marked stack k i = known_marked stack are k i knows in
      covers.written k i (elim (cases_eq k frame) [
        | inl same ↦ here k i same ∙ and_both _ _ _ (both i) (sym (ap (λ (n : ℕ). slice_index_or (slice_index_or stack n []) i false) same) ∙ was) (in_others same)
        | inr apart ↦ there k i apart ∙ was
      ])

  pub are_left : AreSets (set stack frame left)
  are_left = record {
    some = omega (arith, are.some, length-set stack frame left);
    whole = λ k less. elim (cases_eq k frame) [
      | inl same ↦ ap (λ (n : ℕ). length (slice_index_or (set stack frame left) n [])) same ∙ (ap length (get_or-set_same stack frame left [] live) ∙ whole)
      | inr apart ↦ ap length (get_or-set_other stack frame k left [] apart) ∙ are.whole k (omega (arith, less, length-set stack frame left))
    ];
  }

  pub forgotten : (i : ℕ) → slice_index_or others i false ≡ false → Knows (set stack frame left) frame i → ⊥
  forgotten i off knows = and_second _ _ _ (both i) off (sym (here frame i refl) ∙ known_marked (set stack frame left) are_left frame i knows)

  pub inside : (k i : ℕ) → Knows stack k i → i < 512
  inside k i knows =
      let was : Marked stack k i = known_marked stack are k i knows in
      let alive : k < length stack = marked_live stack k i was in
      omega (arith, has_inside (slice_index_or stack k []) i was, are.whole k alive)
