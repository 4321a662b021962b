-- Bytes that lie in a frame, by the frame's number and an offset in it: what is read there, and what a store leaves.
use Rattle.std.proofs.Common.{◌≡◌, ℕ, zero, suc, ◌+◌, ◌-◌, ◌<◌, ◌≤◌, Bool, true, false, List, [], ◌∷◌, Option, Some, length, take, drop, refl, ap, ◌∙◌, arith}
use Rattle.std.specs.Prelude.{◌&&◌, nat_le, slice_index_or}
use Rattle.std.specs.Option.{option_map}
use Rattle.std.proofs.lemmas.Bool.{and_from, cond-true, cond-false, le-leb, lt-leb}
use Rattle.bpf_stack_frame.specs.Frame.{written_at}
use Rattle.stack_domain.specs.Stores.{stored}
use Rattle.bpf_semantics.specs.Frames.{frame_start, is_inside, frame_bytes, frames_with}
use Rattle.check_register_kinds.specs.declared.region.Region.TheVariants.{Frame}

-- such bytes lie in frame k
inside_there : (k address offset bytes : ℕ) → address ≡ frame_start k + offset → offset + bytes ≤ 512 → is_inside (frame_start k) address bytes ≡ true
inside_there k address offset bytes at fits = and_from _ _ (le-leb (frame_start k) address (omega (arith, at))) (le-leb (address + bytes) (frame_start k + 512) (omega (arith, at, fits)))

-- and in none before it
outside_before : (j k address offset bytes : ℕ) → j < k → address ≡ frame_start k + offset → is_inside (frame_start j) address bytes ≡ false
outside_before j k address offset bytes before at =
    ap (λ (b : Bool). nat_le (frame_start j) address && b) (lt-leb (address + bytes) (frame_start j + 512) (omega (arith, at, before))) ∙ and_no (nat_le (frame_start j) address)
  where
    and_no : (b : Bool) → (b && false) ≡ false
    and_no true = refl
    and_no false = refl

-- what is read
pub frame_found : (j : ℕ) (frames : List (List (Option ℕ))) (k address offset bytes : ℕ) → k < length frames → address ≡ frame_start (j + k) + offset → offset + bytes ≤ 512
    → frame_bytes j frames address bytes ≡ Some (take bytes (drop offset (slice_index_or frames k [])))
frame_found j [] k address offset bytes live at fits = absurd (omega (arith, live))
frame_found j (frame ∷ frames) zero address offset bytes live at fits =
    let here : address ≡ frame_start j + offset = omega (arith, at) in
    let moved : address - frame_start j ≡ offset = omega (arith, here) in
    cond-true (is_inside (frame_start j) address bytes) _ _ (inside_there j address offset bytes here fits)
    ∙ ap (λ (n : ℕ). Some (take bytes (drop n frame))) moved
frame_found j (frame ∷ frames) (suc k) address offset bytes live at fits =
    let there : address ≡ frame_start ((j + 1) + k) + offset = omega (arith, at) in
    cond-false (is_inside (frame_start j) address bytes) _ _ (outside_before j ((j + 1) + k) address offset bytes (omega arith) there)
    ∙ frame_found (j + 1) frames k address offset bytes (omega (arith, live)) there fits

-- what a store leaves
pub frame_stored : (j : ℕ) (frames : List (List (Option ℕ))) (k address offset : ℕ) (bytes : List ℕ) → k < length frames → address ≡ frame_start (j + k) + offset → offset + length bytes ≤ 512
    → frames_with j frames address bytes ≡ Some (stored frames k offset bytes)
frame_stored j [] k address offset bytes live at fits = absurd (omega (arith, live))
frame_stored j (frame ∷ frames) zero address offset bytes live at fits =
    let here : address ≡ frame_start j + offset = omega (arith, at) in
    let moved : address - frame_start j ≡ offset = omega (arith, here) in
    cond-true (is_inside (frame_start j) address (length bytes)) _ _ (inside_there j address offset (length bytes) here fits)
    ∙ ap (λ (n : ℕ). Some (written_at n bytes frame ∷ frames)) moved
frame_stored j (frame ∷ frames) (suc k) address offset bytes live at fits =
    let there : address ≡ frame_start ((j + 1) + k) + offset = omega (arith, at) in
    cond-false (is_inside (frame_start j) address (length bytes)) _ _ (outside_before j ((j + 1) + k) address offset (length bytes) (omega arith) there)
    ∙ ap (option_map (λ rest. frame ∷ rest)) (frame_stored (j + 1) frames k address offset bytes (omega (arith, live)) there fits)

pub frame_is : (f g : ℕ) → Frame f ≡ Frame g → f ≡ g
frame_is f g e = cc
