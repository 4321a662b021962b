-- Where an access lies, from what is known of its register's address.
use Rattle.std.proofs.Common.{◌≡◌, ℕ, ℤ, Option, Some, Result, Ok, Err, IfOk, subst}
use Rattle.bpf_semantics.specs.Memory.{address_at}
use Rattle.check_register_kinds.specs.declared.access.Access.{Access}
use Rattle.check_register_kinds.specs.declared.cause.Cause.{Cause}
use Rattle.check_register_kinds.specs.declared.kind.Kind.TheVariants.{Address}
use Rattle.check_register_kinds.specs.declared.region.Region.{Region}
use Rattle.check_register_kinds.specs.declared.region.Offsets.{Offsets}
use Rattle.check_register_kinds.specs.Freezes.{FreezeNumbers}
use Rattle.check_register_kinds.specs.Kinds.{HoldsKind, LiesAt}

-- an offset that a match gives back is the one that was passed
pub reached : (r : Result Access Cause) (region : Region) (offsets : Offsets) (stored offset : ℤ) → stored ≡ offset → IfOk r (λ access. (address : ℕ) → LiesAt region offsets address → LiesAt access.region access.offsets (address_at address stored)) → IfOk r (λ access. (numbers : FreezeNumbers) (o : Option ℕ) → HoldsKind numbers (Address region offsets) o → (start : ℕ) × (o ≡ Some start) × LiesAt access.region access.offsets (address_at start offset))
reached (Ok access) region offsets stored offset same means =
    λ numbers o (address, is, lies). (address, is, subst (λ (z : ℤ). LiesAt access.region access.offsets (address_at address z)) same (means address lies))
reached (Err cause) region offsets stored offset same means = means
