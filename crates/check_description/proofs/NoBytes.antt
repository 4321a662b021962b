-- No byte of a program's only frame is written at its entry.
use Rattle.std.proofs.Common.{◌≡◌, ℕ, zero, suc, ◌<◌, [], ◌∷◌, Some, None, get_or}
use Rattle.std.specs.Prelude.{replicate}
use Rattle.bpf_semantics.specs.MachineState.{unwritten_frame}

pub no_byte : (k offset byte : ℕ) → get_or (get_or (unwritten_frame ∷ []) k []) offset None ≡ Some byte → byte < 256
no_byte zero offset byte is = absurd (none_there 512 offset byte is)
  where
    none_there : (n offset byte : ℕ) → get_or (replicate n None) offset None ≡ Some byte → ⊥
    none_there zero offset byte is = absurd cc
    none_there (suc n) zero byte is = absurd cc
    none_there (suc n) (suc offset) byte is = none_there n offset byte is
no_byte (suc zero) offset byte is = absurd cc
no_byte (suc (suc k)) offset byte is = absurd cc
