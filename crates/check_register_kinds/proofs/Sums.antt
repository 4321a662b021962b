-- A number plus an address is the address plus the number.
use Rattle.std.proofs.Common.{◌≡◌, ℕ, ◌+◌, ◌%◌, ◌^◌, Some, Result, Ok, Err, IfOk, subst, arith}
use Rattle.std.specs.Int.{w64}
use Rattle.bpf_insn.specs.declared.insn.AluOp.TheVariants.{Add}
use Rattle.bpf_insn.specs.declared.insn.Width.TheVariants.{Bits64}
use Rattle.bpf_words.specs.Words.{alu_of, low}
use Rattle.scalar_domain.specs.declared.scalars.Scalar.{Scalar}
use Rattle.scalar_domain.specs.Scalar.{Has}
use Rattle.check_register_kinds.specs.declared.cause.Cause.{Cause}
use Rattle.check_register_kinds.specs.declared.kind.Kind.{Kind}
use Rattle.check_register_kinds.specs.declared.kind.Kind.TheVariants.{Number, Address}
use Rattle.check_register_kinds.specs.declared.region.Region.{Region}
use Rattle.check_register_kinds.specs.declared.region.Offsets.{Offsets}
use Rattle.check_register_kinds.specs.Freezes.{FreezeNumbers}
use Rattle.check_register_kinds.specs.Kinds.{HoldsKind, LiesAt}
use Rattle.check_register_kinds.specs.Computes.{CombinesKind}

turned : (a b : ℕ) → (a + b) % 2 ^ 64 ≡ (b + a) % 2 ^ 64
turned a b = omega arith

pub number_first : (r : Result Kind Cause) (number : Scalar) (region : Region) (offsets : Offsets) → IfOk r (λ kind. (numbers : FreezeNumbers) (address word : ℕ) → LiesAt region offsets address → Has number word → HoldsKind numbers kind (Some (low w64 (address + word)))) → IfOk r (λ kind. (numbers : FreezeNumbers) → CombinesKind numbers (alu_of Bits64 Add) (Number number) (Address region offsets) kind)
number_first (Ok kind) number region offsets means =
    λ numbers o p (word, o_is, has) (address, p_is, lies). (word, address, o_is, p_is, subst (λ (n : ℕ). HoldsKind numbers kind (Some n)) (turned address word) (means numbers address word lies has))
number_first (Err cause) number region offsets means = means
