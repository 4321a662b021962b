-- Numbers that stand on the stack: where other bytes are written, where they are written themselves, and where a frame is opened or
-- gone.
use Rattle.std.proofs.Common.{◌≡◌, ℕ, zero, suc, ◌+◌, ◌-◌, ◌^◌, ◌<◌, ◌≤◌, List, [], ◌∷◌, ◌++◌, Option, Some, None, length, map, take, drop, refl, ap, sym, subst, ◌∙◌, arith, inl, inr, ◌⊎◌, length-append, length-drop}
use Rattle.std.specs.Prelude.{slice_index_or, slice_set}
use Rattle.std.specs.Option.{option_map}
use Rattle.std.specs.Int.{bytes_low_first}
use Rattle.std.proofs.Math.ListN.{length-set}
use Rattle.std.proofs.Math.Seq.{take-append_seam}
use Rattle.std.proofs.lemmas.Bool.{cases_lt, cases_eq}
use Rattle.std.proofs.lemmas.List.{append-nil, ext_get_or, get_or_append_left, get_or-append_right, get_or-take, get_or-drop, get_or-map, get_or_past, get_or-set_same, get_or-set_other, length-map, length-take, length-take-le}
use Rattle.byteorder.specs.Endian.{little_bytes, little_number}
use Rattle.byteorder.specs.Numbers.{little_number-reads_back}
use Rattle.bpf_stack_frame.specs.Frame.{all_written, written_at}
use Rattle.scalar_domain.specs.declared.scalars.Scalar.{Scalar}
use Rattle.scalar_domain.specs.Scalar.{Has}
use Rattle.stack_domain.specs.declared.numbers.NumberPlace.{NumberPlace}
use Rattle.stack_domain.specs.declared.numbers.StackNumber.{StackNumber}
use Rattle.stack_domain.specs.Numbers.{AreStanding, IsApart, StandsAt, StandsIn, number_in}
use Rattle.stack_domain.specs.Stores.{stored}
use Rattle.stack_domain.proofs.Stores.{length-written_at, written_at_outside}

-- what stands in a part of a list
in_part : {X : Type 0} (xs : List X) (n offset k : ℕ) (d : X) → k < length (take n (drop offset xs)) → slice_index_or (take n (drop offset xs)) k d ≡ slice_index_or xs (offset + k) d
in_part xs n offset k d lt =
    get_or-take n (drop offset xs) k d (omega (arith, lt, length-take n (drop offset xs))) ∙ get_or-drop offset xs k d

-- so many elements that are the same
part_same : (n : ℕ) (xs ys : List (Option ℕ)) (from : ℕ) → length xs ≡ length ys → ((i : ℕ) → from ≤ i → i < from + n → slice_index_or xs i None ≡ slice_index_or ys i None) → take n (drop from xs) ≡ take n (drop from ys)
part_same n xs ys from long same =
    let xs_long = length-take n (drop from xs) in
    let ys_long = length-take n (drop from ys) in
    ext_get_or None (take n (drop from xs)) (take n (drop from ys)) (omega (arith, xs_long, ys_long, length-drop from xs, length-drop from ys, long)) (λ i lt.
    in_part xs n from i None lt
    ∙ (same (from + i) (omega arith) (omega (arith, lt, xs_long))
    ∙ sym (in_part ys n from i None (omega (arith, lt, xs_long, ys_long, length-drop from xs, length-drop from ys, long)))))

-- other bytes of its frame are written
number_apart : (frame : List (Option ℕ)) (offset : ℕ) (bytes : List ℕ) → offset + length bytes ≤ length frame → (n from : ℕ) → ((from + n ≤ offset) ⊎ (offset + length bytes ≤ from)) → number_in n from (written_at offset bytes frame) ≡ number_in n from frame
number_apart frame offset bytes inside n from apart =
    ap (λ (bytes : List (Option ℕ)). option_map (little_number n) (all_written bytes))
    (part_same n (written_at offset bytes frame) frame from (length-written_at frame offset bytes inside) (λ i above below.
    written_at_outside frame offset bytes inside i (elim apart [ inl before ↦ inl (omega (arith, before, below)) | inr behind ↦ inr (omega (arith, behind, above)) ])))

module _ (frames : List (List (Option ℕ))) (frame offset from end : ℕ) (bytes : List ℕ) (inside : offset + length bytes ≤ length (slice_index_or frames frame [])) (above : from ≤ offset) (below : offset + length bytes ≤ end) where
  pub stands_apart : (place : NumberPlace) (number : Scalar) → IsApart place frame from end → StandsAt frames place number → StandsAt (stored frames frame offset bytes) place number
  stands_apart place number apart stands = record {
    live = omega (arith, stands.live, length-set frames frame (written_at offset bytes (slice_index_or frames frame [])));
    word = stands.word;
    is = same ∙ stands.is;
    has = stands.has;
  }
    where
      there : (place.offset + place.bytes ≤ from) ⊎ (end ≤ place.offset) → place.frame ≡ frame → number_in place.bytes place.offset (slice_index_or (stored frames frame offset bytes) place.frame []) ≡ number_in place.bytes place.offset (slice_index_or frames place.frame [])
      there outside e =
          ap (λ (k : ℕ). number_in place.bytes place.offset (slice_index_or (stored frames frame offset bytes) k [])) e
          ∙ (ap (number_in place.bytes place.offset) (get_or-set_same frames frame (written_at offset bytes (slice_index_or frames frame [])) [] (omega (arith, stands.live, e)))
          ∙ (number_apart (slice_index_or frames frame []) offset bytes inside place.bytes place.offset (elim outside [ inl before ↦ inl (omega (arith, before, above)) | inr behind ↦ inr (omega (arith, behind, below)) ])
          ∙ ap (λ (k : ℕ). number_in place.bytes place.offset (slice_index_or frames k [])) (sym e)))

      elsewhere : (place.frame ≡ frame → ⊥) → number_in place.bytes place.offset (slice_index_or (stored frames frame offset bytes) place.frame []) ≡ number_in place.bytes place.offset (slice_index_or frames place.frame [])
      elsewhere other = ap (number_in place.bytes place.offset) (get_or-set_other frames frame place.frame (written_at offset bytes (slice_index_or frames frame [])) [] other)

      same : number_in place.bytes place.offset (slice_index_or (stored frames frame offset bytes) place.frame []) ≡ number_in place.bytes place.offset (slice_index_or frames place.frame [])
      same = elim apart [
        | inl other ↦ elsewhere other
        | inr outside ↦ elim (cases_eq place.frame frame) [ inl e ↦ there outside e | inr other ↦ elsewhere other ]
      ]

-- what a slot says
none_stands : (frames : List (List (Option ℕ))) (slot : Option StackNumber) → ((kept : StackNumber) → slot ≡ Some kept → StandsAt frames kept.place kept.number) → StandsIn frames slot
none_stands frames None each = tt
none_stands frames (Some kept) each = each kept refl

pub stands_some : (frames : List (List (Option ℕ))) (slot : Option StackNumber) (kept : StackNumber) → slot ≡ Some kept → StandsIn frames slot → StandsAt frames kept.place kept.number
stands_some frames slot kept same stands = subst (StandsIn frames) same stands

-- what is left stands where what was left out does not matter
pub all_stand : (frames after : List (List (Option ℕ))) (before slots : List (Option StackNumber)) (Stays : StackNumber → Type 0) → length slots ≡ length before
    → ((j : ℕ) → j < length before → (kept : StackNumber) → slice_index_or slots j None ≡ Some kept → (slice_index_or before j None ≡ Some kept) × Stays kept)
    → ((kept : StackNumber) → Stays kept → StandsAt frames kept.place kept.number → StandsAt after kept.place kept.number) → AreStanding frames before → AreStanding after slots
all_stand frames after before slots Stays count left stays are j = none_stands after (slice_index_or slots j None) (λ kept is. elim (cases_lt j (length before)) [
  | inl few ↦ let both = left j few kept is in stays kept both.1 (stands_some frames (slice_index_or before j None) kept both.0 (are j))
  | inr past ↦ absurd (let none : None ≡ Some kept = sym (get_or_past slots j None (omega (arith, past, count))) ∙ is in cc)
])

pub each_stands : (frames : List (List (Option ℕ))) (before slots : List (Option StackNumber)) (count : ℕ) → length slots ≡ count → ((j : ℕ) → j < count → StandsIn frames (slice_index_or before j None) → StandsIn frames (slice_index_or slots j None))
    → AreStanding frames before → AreStanding frames slots
each_stands frames before slots count long each are j = elim (cases_lt j count) [
  | inl few ↦ each j few (are j)
  | inr past ↦ subst (StandsIn frames) (sym (get_or_past slots j None (omega (arith, past, long)))) tt
]

-- frames after so many are gone
pub stands_closed : (frames : List (List (Option ℕ))) (live : ℕ) (place : NumberPlace) (number : Scalar) → place.frame < live → StandsAt frames place number → StandsAt (take live frames) place number
stands_closed frames live place number below stands = record {
  live = omega (arith, below, stands.live, length-take live frames);
  word = stands.word;
  is = ap (number_in place.bytes place.offset) (get_or-take live frames place.frame [] below) ∙ stands.is;
  has = stands.has;
}

-- a frame more
pub standing_opened : (frames : List (List (Option ℕ))) (frame : List (Option ℕ)) (slots : List (Option StackNumber)) → AreStanding frames slots → AreStanding (frames ++ frame ∷ []) slots
standing_opened frames frame slots are j = opened (slice_index_or slots j None) (are j)
  where
    opened : (slot : Option StackNumber) → StandsIn frames slot → StandsIn (frames ++ frame ∷ []) slot
    opened None stands = tt
    opened (Some kept) stands = record {
      live = omega (arith, stands.live, length-append frames (frame ∷ []));
      word = stands.word;
      is = ap (number_in kept.place.bytes kept.place.offset) (get_or_append_left frames (frame ∷ []) [] kept.place.frame stands.live) ∙ stands.is;
      has = stands.has;
    }

-- it is written itself
length-low : (i n word : ℕ) → length (bytes_low_first i n word) ≡ n
length-low i zero word = refl
length-low i (suc n) word = ap suc (length-low (suc i) n word)

all_of_some : (bytes : List ℕ) → all_written (map Some bytes) ≡ Some bytes
all_of_some [] = refl
all_of_some (byte ∷ bytes) = ap (option_map (λ rest. byte ∷ rest)) (all_of_some bytes)

written_inside : (frame : List (Option ℕ)) (offset : ℕ) (bytes : List ℕ) → offset + length bytes ≤ length frame → (at : ℕ) → offset ≤ at → at < offset + length bytes → slice_index_or (written_at offset bytes frame) at None ≡ Some (slice_index_or bytes (at - offset) 0)
unfolding written_at
written_inside frame offset bytes inside at from to =
    let front : length (take offset frame) ≡ offset = length-take-le offset frame (omega (arith, inside)) in
    let middle : length (take offset frame ++ map Some bytes) ≡ offset + length bytes = omega (arith, length-append (take offset frame) (map Some bytes), front, length-map bytes Some) in
    get_or_append_left (take offset frame ++ map Some bytes) (drop (offset + length bytes) frame) None at (omega (arith, middle, to))
    ∙ (get_or-append_right (take offset frame) (map Some bytes) offset at None front from
    ∙ get_or-map Some bytes (at - offset) 0 None (omega (arith, from, to)))

number_put : (frame : List (Option ℕ)) (n offset value : ℕ) → offset + n ≤ length frame → value < 256 ^ n → number_in n offset (written_at offset (little_bytes n value) frame) ≡ Some value
number_put frame n offset value fits small =
    let bytes : List ℕ = little_bytes n value in
    let long : length bytes ≡ n = length-low 0 n value in
    let inside : offset + length bytes ≤ length frame = omega (arith, long, fits) in
    let part : List (Option ℕ) = take n (drop offset (written_at offset bytes frame)) in
    let part_long : length part ≡ n = omega (arith, length-take n (drop offset (written_at offset bytes frame)), length-drop offset (written_at offset bytes frame), length-written_at frame offset bytes inside, fits) in
    let back : little_number n bytes ≡ value = ap (little_number n) (sym (append-nil bytes)) ∙ little_number-reads_back n value [] small in
    let are : part ≡ map Some bytes = ext_get_or None part (map Some bytes) (omega (arith, part_long, length-map bytes Some, long)) (λ i lt.
    in_part (written_at offset bytes frame) n offset i None lt
    ∙ (written_inside frame offset bytes inside (offset + i) (omega arith) (omega (arith, lt, part_long, long))
    ∙ (ap (λ (k : ℕ). Some (slice_index_or bytes k 0)) (let same : offset + i - offset ≡ i = omega arith in same) ∙ sym (get_or-map Some bytes i 0 None (omega (arith, lt, part_long, long)))))) in
    ap (λ (o : List (Option ℕ)). option_map (little_number n) (all_written o)) are
    ∙ (ap (option_map (little_number n)) (all_of_some bytes) ∙ ap Some back)

pub stands_stored : (frames : List (List (Option ℕ))) (place : NumberPlace) (number : Scalar) (value : ℕ) → place.frame < length frames → place.offset + place.bytes ≤ length (slice_index_or frames place.frame []) → value < 256 ^ place.bytes → Has number value
    → StandsAt (stored frames place.frame place.offset (little_bytes place.bytes value)) place number
stands_stored frames place number value live fits small has =
    let new : List (Option ℕ) = written_at place.offset (little_bytes place.bytes value) (slice_index_or frames place.frame []) in
    record {
      live = omega (arith, live, length-set frames place.frame new);
      word = value;
      is = ap (number_in place.bytes place.offset) (get_or-set_same frames place.frame new [] live) ∙ number_put (slice_index_or frames place.frame []) place.bytes place.offset value fits small;
      has = has;
    }

-- one slot more is done
pub set_each : (P : ℕ → Option StackNumber → Type 0) (slots : List (Option StackNumber)) (slot : ℕ) (new : Option StackNumber) → slot < length slots → ((j : ℕ) → j < slot → P j (slice_index_or slots j None)) → P slot new
    → (j : ℕ) → j < slot + 1 → P j (slice_index_or (slice_set slots slot new) j None)
set_each P slots slot new live done here j few = elim (cases_eq j slot) [
  | inl same ↦ subst (λ (k : ℕ). P k (slice_index_or (slice_set slots slot new) k None)) (sym same) (subst (P slot) (sym (get_or-set_same slots slot new None live)) here)
  | inr other ↦ subst (P j) (sym (get_or-set_other slots slot j new None other)) (done j (omega (arith, few, other)))
]

-- slots after so many are forgotten, or some more have nothing
pub standing_taken : (frames : List (List (Option ℕ))) (slots : List (Option StackNumber)) (n : ℕ) → AreStanding frames slots → AreStanding frames (take n slots)
standing_taken frames slots n are j = elim (cases_lt j n) [
  | inl few ↦ subst (StandsIn frames) (sym (get_or-take n slots j None few)) (are j)
  | inr past ↦ subst (StandsIn frames) (sym (get_or_past (take n slots) j None (omega (arith, past, length-take n slots)))) tt
]

-- what was changed after a slice stands in the list
pub put_back : (frames : List (List (Option ℕ))) (slots rest : List (Option StackNumber)) (n : ℕ) → n ≡ length slots → AreStanding frames slots → AreStanding frames (take n (slots ++ rest))
put_back frames slots rest n long are = subst (AreStanding frames) (sym (ap (λ (k : ℕ). take k (slots ++ rest)) long ∙ take-append_seam slots rest)) are
