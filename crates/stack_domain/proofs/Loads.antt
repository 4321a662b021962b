-- Bytes that are written one by one are written all together, as a load asks.
use Rattle.std.proofs.Common.{◌≡◌, ℕ, zero, suc, ◌+◌, ◌<◌, ◌≤◌, Bool, true, List, [], ◌∷◌, Option, None, is_some, length, take, drop, refl, ap, ◌∙◌, arith, length-drop}
use Rattle.std.specs.Prelude.{slice_index_or, ◌&&◌}
use Rattle.std.specs.List.{list_all}
use Rattle.std.proofs.lemmas.List.{get_or-drop}
use Rattle.stack_domain.specs.Stack.{AreWritten}

first_written : (xs : List (Option ℕ)) (count : ℕ) → count ≤ length xs → ((i : ℕ) → i < count → is_some (slice_index_or xs i None) ≡ true) → list_all is_some (take count xs) ≡ true
first_written xs zero few each = refl
first_written [] (suc count) few each = absurd (omega arith)
first_written (x ∷ xs) (suc count) few each =
    ap (λ (b : Bool). b && list_all is_some (take count xs)) (each 0 (omega arith)) ∙ first_written xs count (omega arith) (λ i less. each (suc i) (omega arith))

pub all_written : (frames : List (List (Option ℕ))) (k offset count : ℕ) → offset + count ≤ length (slice_index_or frames k []) → AreWritten frames k offset (offset + count)
    → list_all is_some (take count (drop offset (slice_index_or frames k []))) ≡ true
all_written frames k offset count inside are =
    let frame = slice_index_or frames k [] in
    first_written (drop offset frame) count (omega (arith, length-drop offset frame))
    (λ i less. ap is_some (get_or-drop offset frame i None) ∙ are (offset + i) (omega arith) (omega arith))
