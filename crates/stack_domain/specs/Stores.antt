-- What a store does to the stack of a machine, and the law that it keeps what is known.
use Rattle.std.specs.Prelude.{ℕ, ◌+◌, ◌<◌, ◌≤◌, Bool, List, [], Option, length, slice_index_or, slice_set}
use Rattle.bpf_stack_frame.specs.Frame.{written_at}
use Rattle.stack_domain.specs.Stack.{MarksCover}

-- the frames after a store of these bytes in frame k, from an offset on
abbrev pub stored : List (List (Option ℕ)) → ℕ → ℕ → List ℕ → List (List (Option ℕ))
stored frames k offset bytes = slice_set frames k (written_at offset bytes (slice_index_or frames k []))

-- whatever is stored in whichever live frame, the stack is covered as before
abbrev pub WrittenStays : Type 0
WrittenStays =
    (stack : List (List Bool)) (frames : List (List (Option ℕ))) (k offset : ℕ) (bytes : List ℕ) →
    MarksCover stack frames → k < length frames → offset + length bytes ≤ 512 → MarksCover stack (stored frames k offset bytes)
