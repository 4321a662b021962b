-- What is known of the functions that wait for one that they called: R6 to R9 of each, the outermost function first. What
-- was a copy of a freeze is one as long as that is held, and one number whether it is held or not.
use Rattle.std.specs.Prelude.{◌≡◌, ℕ, List, [], ◌∷◌, ◌++◌, length, Option, Some}
use Rattle.bpf_semantics.specs.MachineState.{OpenCall}
use Rattle.scalar_domain.specs.declared.scalars.Scalar.{Scalar}
use Rattle.scalar_domain.specs.Scalar.{Has}
use Rattle.check_register_kinds.specs.declared.freeze_name.FreezeName.{FreezeName}
use Rattle.check_register_kinds.specs.declared.kind.Kind.{Kind}
use Rattle.check_register_kinds.specs.declared.kind.Kind.TheVariants.{Unwritten, Number, Address, Freeze}
use Rattle.check_description.specs.declared.saved.SavedRegister.{SavedRegister}
use Rattle.check_description.specs.declared.saved.SavedRegisters.{SavedRegisters}
use Rattle.check_register_kinds.specs.Freezes.{FreezeNumbers}
use Rattle.check_register_kinds.specs.Kinds.{HoldsKind}

-- a number that is one of these, and the one that the name stands for where it stands for any
abbrev pub IsCopied : FreezeNumbers → FreezeName → Scalar → Option ℕ → Type 0
IsCopied numbers name copies o = (number : ℕ) × (o ≡ Some number) × Has copies number × ((n : ℕ) → numbers name ≡ Some n → n ≡ number)

abbrev pub HoldsAs : FreezeNumbers → Kind → Scalar → Option ℕ → Type 0
HoldsAs numbers Unwritten copies o = HoldsKind numbers Unwritten o
HoldsAs numbers (Number scalar) copies o = HoldsKind numbers (Number scalar) o
HoldsAs numbers (Address region offsets) copies o = HoldsKind numbers (Address region offsets) o
HoldsAs numbers (Freeze name) copies o = IsCopied numbers name copies o

-- what is known of one register
abbrev pub HoldsSaved : FreezeNumbers → SavedRegister → Option ℕ → Type 0
HoldsSaved numbers saved o = HoldsAs numbers saved.kind saved.copies o

-- and of all that a call saved
abbrev pub AreSaved : FreezeNumbers → List SavedRegister → List (Option ℕ) → Type 0
AreSaved numbers [] [] = Unit {0}
AreSaved numbers [] (o ∷ os) = ⊥
AreSaved numbers (register ∷ registers) [] = ⊥
AreSaved numbers (register ∷ registers) (o ∷ os) = HoldsSaved numbers register o × AreSaved numbers registers os

abbrev pub IsSaved : FreezeNumbers → SavedRegisters → OpenCall → Type 0
IsSaved numbers saved call = (length call.saved ≡ 4) × AreSaved numbers saved.registers call.saved

-- the open calls of a machine, the innermost first
abbrev pub AreOpen : FreezeNumbers → List SavedRegisters → List OpenCall → Type 0
AreOpen numbers callers [] = callers ≡ []
AreOpen numbers callers (call ∷ calls) =
    (outer : List SavedRegisters) × (saved : SavedRegisters) × (callers ≡ outer ++ saved ∷ []) × IsSaved numbers saved call × AreOpen numbers outer calls
