-- The faults that a mistake in a value has.
use Rattle.std.specs.Prelude.{◌≡◌, ◌⊎◌, MatchResult, Result}
use Rattle.clap.specs.Words.{kind_of}
use Rattle.clap.specs.declared.error.Error.{Error}
use Rattle.clap.specs.declared.error.kind.ErrorKind.TheVariants as kind

-- the fault is of a value, or memory was refused
abbrev pub IsValueFault : Error → Type 0
IsValueFault e = (kind_of e ≡ kind.ValueValidation) ⊎ (kind_of e ≡ kind.OutOfMemory)

-- the plan is so, or memory was refused
abbrev pub Gives : {T : Type 0} → (T → Type 0) → Result T Error → Type 0
Gives P r = MatchResult r P (λ e. kind_of e ≡ kind.OutOfMemory)
