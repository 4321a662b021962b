-- Worked rows: a write of two bytes, what a read makes of written and unwritten bytes, and a set with bytes added.
use Rattle.std.proofs.Common.{◌≡◌, true, false, [], ◌∷◌, Some, None, replicate, refl}
use Rattle.byteorder.specs.Endian.{little_bytes}
use Rattle.bpf_stack_frame.specs.ByteSet.{with_all}
use Rattle.bpf_stack_frame.specs.Frame.{word_at, written_at}

two_bytes : written_at 1 (little_bytes 2 0x12345) (Some 9 ∷ None ∷ None ∷ None ∷ []) ≡ Some 9 ∷ Some 0x45 ∷ Some 0x23 ∷ None ∷ []
unfolding written_at
two_bytes = refl

-- byte 2 is unwritten
half_written : word_at 2 1 (Some 9 ∷ Some 0x45 ∷ None ∷ Some 1 ∷ []) ≡ 0x45
unfolding word_at
half_written = refl

both_written : word_at 2 0 (Some 9 ∷ Some 0x45 ∷ None ∷ []) ≡ 0x4509
unfolding word_at
both_written = refl

three_more : with_all (true ∷ replicate 5 false) 2 3 ≡ true ∷ false ∷ true ∷ true ∷ true ∷ false ∷ []
unfolding with_all
three_more = refl
