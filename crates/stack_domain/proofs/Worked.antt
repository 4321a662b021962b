-- Worked rows: a store in the second of two frames of three bytes.
use Rattle.std.proofs.Common.{◌≡◌, [], ◌∷◌, Some, None, refl}
use Rattle.bpf_stack_frame.specs.Frame.{written_at}
use Rattle.stack_domain.specs.Stores.{stored}

second_frame : stored ((Some 1 ∷ None ∷ None ∷ []) ∷ (None ∷ Some 2 ∷ None ∷ []) ∷ []) 1 0 (7 ∷ 8 ∷ []) ≡ (Some 1 ∷ None ∷ None ∷ []) ∷ (Some 7 ∷ Some 8 ∷ None ∷ []) ∷ []
unfolding written_at
second_frame = refl
