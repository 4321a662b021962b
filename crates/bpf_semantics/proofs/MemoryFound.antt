-- Where an access is not stuck, what it reads or writes is there.
use Rattle.std.proofs.Common.{◌≡◌, ℕ, zero, suc, ◌+◌, ◌-◌, true, false, List, [], ◌∷◌, Option, Some, None, length, refl, ap, sym, ◌∙◌, inl, inr}
use Rattle.std.specs.Prelude.{◌||◌, is_some, take, drop}
use Rattle.std.specs.Option.{option_map, option_and_then}
use Rattle.std.specs.Int.{Width, byte_len, bytes_low_first}
use Rattle.byteorder.specs.Endian.{little_bytes}
use Rattle.bpf_stack_frame.specs.Frame.{all_written, written_at}
use Rattle.std.proofs.lemmas.Bool.{cases_Bool, cond-true, cond-false}
use Rattle.bpf_semantics.specs.MachineState.{MachineState, context_address}
use Rattle.bpf_semantics.specs.Frames.{frame_start, is_inside, frame_bytes, has_room, has_written, frames_with}
use Rattle.bpf_semantics.specs.Memory.{in_context, read, can_read, with_word_at}

some_there : {X : Type 0} → (o : Option X) → is_some o ≡ true → (x : X) × (o ≡ Some x)
some_there None h = absurd (let bad : false ≡ true = h in cc)
some_there (Some x) h = (x, refl)

pub read_found : (m : MachineState) (address bytes : ℕ) → can_read m address bytes ≡ true → (found : List ℕ) × (read m address bytes ≡ Some found)
read_found m address bytes h = elim (cases_Bool (in_context address bytes)) [
  | inl inside ↦ (take bytes (drop (address - context_address) m.context), cond-true (in_context address bytes) _ _ inside)
  | inr outside ↦
      let written : has_written 0 m.frames address bytes ≡ true = sym (ap (λ b. b || has_written 0 m.frames address bytes) outside) ∙ h in
      let found = some_there (option_and_then all_written (frame_bytes 0 m.frames address bytes)) written in
      (found.0, cond-false (in_context address bytes) _ _ outside ∙ found.1)
]

written_somewhere : (k : ℕ) (frames : List (List (Option ℕ))) (address : ℕ) (bytes : List ℕ) → has_room k frames address (length bytes) ≡ true → (next : List (List (Option ℕ))) × (frames_with k frames address bytes ≡ Some next)
written_somewhere k [] address bytes h = absurd (let bad : false ≡ true = h in cc)
written_somewhere k (frame ∷ frames) address bytes h = elim (cases_Bool (is_inside (frame_start k) address (length bytes))) [
  | inl inside ↦ (written_at (address - frame_start k) bytes frame ∷ frames, cond-true (is_inside (frame_start k) address (length bytes)) _ _ inside)
  | inr outside ↦
      let further : has_room (k + 1) frames address (length bytes) ≡ true = sym (ap is_some (cond-false (is_inside (frame_start k) address (length bytes)) _ _ outside)) ∙ h in
      let rest = written_somewhere (k + 1) frames address bytes further in
      (frame ∷ rest.0, cond-false (is_inside (frame_start k) address (length bytes)) _ _ outside ∙ ap (option_map (λ fs. frame ∷ fs)) rest.1)
]

pub bytes_length : (i k n : ℕ) → length (bytes_low_first i k n) ≡ k
bytes_length i zero n = refl
bytes_length i (suc k) n = ap suc (bytes_length (suc i) k n)

pub write_found : (w : Width) (m : MachineState) (address word : ℕ) → has_room 0 m.frames address (byte_len w) ≡ true → (next : MachineState) × (with_word_at w m address word ≡ Some next)
write_found w m address word h =
    let here : has_room 0 m.frames address (length (little_bytes (byte_len w) word)) ≡ true = ap (has_room 0 m.frames address) (bytes_length 0 (byte_len w) word) ∙ h in
    let found = written_somewhere 0 m.frames address (little_bytes (byte_len w) word) here in
    (record m { frames = found.0 }, ap (option_map (λ frames. record m { frames = frames })) found.1)
