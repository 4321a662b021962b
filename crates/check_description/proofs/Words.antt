-- The word that stands in eight bytes of a frame: where other bytes are written, where it is written itself, and where it
-- is read.
use Rattle.std.proofs.Common.{◌≡◌, ℕ, ◌+◌, ◌-◌, ◌*◌, ◌^◌, ◌<◌, ◌≤◌, List, [], ◌∷◌, Option, Some, None, length, map, take, drop, refl, ap, sym, ◌∙◌, arith, ◌⊎◌, inl, inr, length-drop, get_or-set_same, get_or-set_other}
use Rattle.std.specs.Prelude.{slice_index_or}
use Rattle.std.specs.Option.{option_map, option_and_then}
use Rattle.std.proofs.Math.ListN.{length-set}
use Rattle.std.proofs.lemmas.Bool.{cases_eq, cases_lt}
use Rattle.std.proofs.lemmas.List.{append-nil, ext_get_or, get_or-map, length-map, length-take}
use Rattle.std.proofs.lemmas.Option.{slice_get-get_or, slice_get_past}
use Rattle.byteorder.specs.Endian.{little_bytes, little_number}
use Rattle.byteorder.specs.Numbers.{little_number-reads_back}
use Rattle.bpf_stack_frame.specs.Frame.{all_written, written_at}
use Rattle.stack_domain.specs.Stores.{stored}
use Rattle.stack_domain.proofs.Stores.{length-written_at, written_at_outside}
use Rattle.bpf_semantics.specs.MachineState.{MachineState}
use Rattle.bpf_semantics.specs.Frames.{frame_start}
use Rattle.bpf_semantics.proofs.MemoryFound.{bytes_length}
use Rattle.check_description.specs.Memory.{word_there}
use Rattle.check_description.specs.Spills.{word_at, word_in}
use Rattle.check_description.proofs.FramePlaces.{frame_found}
use Rattle.check_description.proofs.Reading.{in_part}
use Rattle.check_description.proofs.Writing.{stored_byte}

-- eight bytes that are the same
eight_same : (xs ys : List (Option ℕ)) (from : ℕ) → length xs ≡ length ys → ((i : ℕ) → from ≤ i → i < from + 8 → slice_index_or xs i None ≡ slice_index_or ys i None) → take 8 (drop from xs) ≡ take 8 (drop from ys)
eight_same xs ys from long same =
    let xs_long = length-take 8 (drop from xs) in
    let ys_long = length-take 8 (drop from ys) in
    ext_get_or None (take 8 (drop from xs)) (take 8 (drop from ys)) (omega (arith, xs_long, ys_long, length-drop from xs, length-drop from ys, long)) (λ i lt.
    in_part xs 8 from i None lt
    ∙ (same (from + i) (omega arith) (omega (arith, lt, xs_long))
    ∙ sym (in_part ys 8 from i None (omega (arith, lt, xs_long, ys_long, length-drop from xs, length-drop from ys, long)))))

-- other bytes of its frame are written
module _ (frame : List (Option ℕ)) (offset : ℕ) (bytes : List ℕ) (inside : offset + length bytes ≤ length frame) where
  word_apart : (word : ℕ) → ((8 * word + 8 ≤ offset) ⊎ (offset + length bytes ≤ 8 * word)) → word_in word (written_at offset bytes frame) ≡ word_in word frame
  word_apart word apart =
      ap (λ (bytes : List (Option ℕ)). option_map (little_number 8) (all_written bytes))
      (eight_same (written_at offset bytes frame) frame (8 * word) (length-written_at frame offset bytes inside) (λ i from to.
      written_at_outside frame offset bytes inside i (elim apart [ inl before ↦ inl (omega (arith, before, to)) | inr behind ↦ inr (omega (arith, behind, from)) ])))

all_of_some : (bytes : List ℕ) → all_written (map Some bytes) ≡ Some bytes
all_of_some [] = refl
all_of_some (byte ∷ bytes) = ap (option_map (λ rest. byte ∷ rest)) (all_of_some bytes)

-- it is written itself
word_put : (frame : List (Option ℕ)) (word value : ℕ) → 8 * word + 8 ≤ length frame → value < 2 ^ 64 → word_in word (written_at (8 * word) (little_bytes 8 value) frame) ≡ Some value
word_put frame word value fits small =
    let bytes : List ℕ = little_bytes 8 value in
    let long : length bytes ≡ 8 = bytes_length 0 8 value in
    let inside : 8 * word + length bytes ≤ length frame = omega (arith, long, fits) in
    let part : List (Option ℕ) = take 8 (drop (8 * word) (written_at (8 * word) bytes frame)) in
    let part_long : length part ≡ 8 = omega (arith, length-take 8 (drop (8 * word) (written_at (8 * word) bytes frame)), length-drop (8 * word) (written_at (8 * word) bytes frame), length-written_at frame (8 * word) bytes inside, fits) in
    let back : little_number 8 bytes ≡ value = ap (little_number 8) (sym (append-nil bytes)) ∙ little_number-reads_back 8 value [] small in
    let are : part ≡ map Some bytes = ext_get_or None part (map Some bytes) (omega (arith, part_long, length-map bytes Some, long)) (λ i lt.
    in_part (written_at (8 * word) bytes frame) 8 (8 * word) i None lt
    ∙ (stored_byte frame (8 * word) bytes inside (8 * word + i) (omega arith) (omega (arith, lt, part_long, long))
    ∙ (ap (λ (n : ℕ). Some (slice_index_or bytes n 0)) (let same : 8 * word + i - 8 * word ≡ i = omega arith in same) ∙ sym (get_or-map Some bytes i 0 None (omega (arith, lt, part_long, long)))))) in
    ap (λ (o : List (Option ℕ)). option_map (little_number 8) (all_written o)) are
    ∙ (ap (option_map (little_number 8)) (all_of_some bytes) ∙ ap Some back)

-- by the frame's number
pub word_live : (frames : List (List (Option ℕ))) (k word : ℕ) → k < length frames → word_at frames k word ≡ word_in word (slice_index_or frames k [])
word_live frames k word live = ap (option_and_then (word_in word)) (slice_get-get_or frames k [] live)

pub word_gone : (frames : List (List (Option ℕ))) (k word : ℕ) → length frames ≤ k → word_at frames k word ≡ None
word_gone frames k word past = ap (option_and_then (word_in word)) (slice_get_past frames k past)

module _ (frames : List (List (Option ℕ))) (frame offset : ℕ) (bytes : List ℕ) (live : frame < length frames) (inside : offset + length bytes ≤ length (slice_index_or frames frame [])) where
  long : length (stored frames frame offset bytes) ≡ length frames
  long = length-set frames frame (written_at offset bytes (slice_index_or frames frame []))

  pub word_elsewhere : (k word : ℕ) → (k ≡ frame → (8 * word + 8 ≤ offset) ⊎ (offset + length bytes ≤ 8 * word)) → word_at (stored frames frame offset bytes) k word ≡ word_at frames k word
  word_elsewhere k word apart = elim (cases_lt k (length frames)) [
    | inr past ↦ word_gone (stored frames frame offset bytes) k word (omega (arith, long, past)) ∙ sym (word_gone frames k word past)
    | inl alive ↦
        word_live (stored frames frame offset bytes) k word (omega (arith, long, alive))
        ∙ (elim (cases_eq k frame) [
          | inr other ↦ ap (word_in word) (get_or-set_other frames frame k (written_at offset bytes (slice_index_or frames frame [])) [] other)
          | inl same ↦
              ap (λ (n : ℕ). word_in word (slice_index_or (stored frames frame offset bytes) n [])) same
              ∙ (ap (word_in word) (get_or-set_same frames frame (written_at offset bytes (slice_index_or frames frame [])) [] live)
              ∙ (word_apart (slice_index_or frames frame []) offset bytes inside word (apart same)
              ∙ ap (λ (n : ℕ). word_in word (slice_index_or frames n [])) (sym same)))
        ]
        ∙ sym (word_live frames k word alive))
  ]

-- and itself
pub word_stored : (frames : List (List (Option ℕ))) (frame word value : ℕ) → frame < length frames → 8 * word + 8 ≤ length (slice_index_or frames frame []) → value < 2 ^ 64 → word_at (stored frames frame (8 * word) (little_bytes 8 value)) frame word ≡ Some value
word_stored frames frame word value live fits small =
    let new : List (Option ℕ) = written_at (8 * word) (little_bytes 8 value) (slice_index_or frames frame []) in
    word_live (stored frames frame (8 * word) (little_bytes 8 value)) frame word (omega (arith, live, length-set frames frame new))
    ∙ (ap (word_in word) (get_or-set_same frames frame new [] live) ∙ word_put (slice_index_or frames frame []) word value fits small)

-- where it is read
pub word_found : (m : MachineState) (frame word address : ℕ) → frame < length m.frames → address ≡ frame_start frame + 8 * word → word < 64 → word_there m address ≡ word_at m.frames frame word
word_found m frame word address live at few =
    ap (λ (o : Option (List (Option ℕ))). option_map (little_number 8) (option_and_then all_written o)) (frame_found 0 m.frames frame address (8 * word) 8 live (omega (arith, at)) (omega (arith, few)))
    ∙ sym (word_live m.frames frame word live)
