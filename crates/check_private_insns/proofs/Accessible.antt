-- Where a word is read or written, the access is not stuck.
use Rattle.std.proofs.Common.{◌≡◌, ℕ, ◌+◌, ◌-◌, true, Bool, List, [], ◌∷◌, Option, Some, None, length, refl, ap, sym, ◌∙◌, inl, inr}
use Rattle.std.specs.Prelude.{◌||◌, is_some, take, drop}
use Rattle.std.specs.Option.{option_map, option_and_then}
use Rattle.std.specs.Int.{Width, byte_len}
use Rattle.std.proofs.lemmas.Bool.{cases_Bool, cond-true, cond-false}
use Rattle.bpf_semantics.specs.MachineState.{MachineState, context_address}
use Rattle.bpf_stack_frame.specs.Frame.{all_written}
use Rattle.bpf_semantics.specs.Frames.{frame_bytes, frame_start, frames_with, has_room, has_written, is_inside}
use Rattle.bpf_semantics.specs.Memory.{can_read, in_context, read, with_memory, with_word_at, word_from}
use Rattle.bpf_semantics.proofs.MemoryFound.{bytes_length}

there_of : {X Y : Type 0} (f : X → Y) (o : Option X) (y : Y) → option_map f o ≡ Some y → is_some o ≡ true
there_of f None y is = absurd cc
there_of f (Some x) y is = refl

found_read : (m : MachineState) (address bytes : ℕ) → is_some (read m address bytes) ≡ true → can_read m address bytes ≡ true
found_read m address bytes is = elim (cases_Bool (in_context address bytes)) [
  | inl inside ↦ ap (λ (b : Bool). b || has_written 0 m.frames address bytes) inside
  | inr outside ↦
      ap (λ (b : Bool). b || has_written 0 m.frames address bytes) outside
      ∙ (sym (ap is_some (cond-false (in_context address bytes) (Some (take bytes (drop (address - context_address) m.context))) (option_and_then all_written (frame_bytes 0 m.frames address bytes)) outside)) ∙ is)
]

pub word_read : (w : Width) (m : MachineState) (address word : ℕ) → word_from w m address ≡ Some word → can_read m address (byte_len w) ≡ true
word_read w m address word is = found_read m address (byte_len w) (there_of _ (read m address (byte_len w)) word is)

found_room : (k : ℕ) (frames : List (List (Option ℕ))) (address : ℕ) (bytes : List ℕ) → is_some (frames_with k frames address bytes) ≡ true → has_room k frames address (length bytes) ≡ true
found_room k [] address bytes is = is
found_room k (frame ∷ frames) address bytes is = elim (cases_Bool (is_inside (frame_start k) address (length bytes))) [
  | inl inside ↦ ap is_some (cond-true (is_inside (frame_start k) address (length bytes)) _ _ inside)
  | inr outside ↦
      ap is_some (cond-false (is_inside (frame_start k) address (length bytes)) _ _ outside)
      ∙ found_room (k + 1) frames address bytes (further (frames_with (k + 1) frames address bytes) (sym (ap is_some (cond-false (is_inside (frame_start k) address (length bytes)) _ _ outside)) ∙ is))
]
  where
    further : (o : Option (List (List (Option ℕ)))) → is_some (option_map (λ rest. frame ∷ rest) o) ≡ true → is_some o ≡ true
    further None is = is
    further (Some rest) is = refl

bytes_stored : (m next : MachineState) (address n : ℕ) (bytes : List ℕ) → length bytes ≡ n → with_memory m address bytes ≡ Some next → has_room 0 m.frames address n ≡ true
bytes_stored m next address n bytes long is =
    sym (ap (has_room 0 m.frames address) long)
    ∙ found_room 0 m.frames address bytes (there_of (λ frames. record m { frames = frames }) (frames_with 0 m.frames address bytes) next is)

pub word_stored : (w : Width) (m next : MachineState) (address word : ℕ) → with_word_at w m address word ≡ Some next → has_room 0 m.frames address (byte_len w) ≡ true
word_stored w m next address word is = bytes_stored m next address (byte_len w) _ (bytes_length 0 (byte_len w) word) is
