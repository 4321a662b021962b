-- What is found of the words of a comparison, or of a freeze, on one way of a jump.
use Rattle.std.specs.Prelude.{◌≡◌, ℕ, ◌<◌, Bool, Option, Some, ⊤, if◌then◌else◌}
use Rattle.bpf_insn.specs.declared.insn.Condition.{Condition}
use Rattle.bpf_insn.specs.declared.insn.Width.{Width}
use Rattle.bpf_words.specs.Words.{holds_of}
use Rattle.scalar_domain.specs.Scalar.{Has}
use Rattle.check_register_kinds.specs.declared.comparison.Finding.{Finding}
use Rattle.check_register_kinds.specs.declared.comparison.Finding.TheVariants.{NoWay, Numbers, FreezeIsZero, FreezeIsSure}
use Rattle.check_register_kinds.specs.declared.freeze_name.FreezeName.{FreezeName}
use Rattle.check_register_kinds.specs.declared.kind.Kind.{Kind}
use Rattle.check_register_kinds.specs.Freezes.{FreezeNumbers}
use Rattle.check_register_kinds.specs.Kinds.{HoldsKind}

abbrev pub Found : FreezeNumbers → ℕ → ℕ → Finding → Type 0
Found numbers a b NoWay = ⊥
Found numbers a b (Numbers left right) = Has left a × Has right b
Found numbers a b (FreezeIsZero name) = numbers name ≡ Some 0
Found numbers a b (FreezeIsSure name) = (number : ℕ) × (numbers name ≡ Some number) × (0 < number)

-- what may be found of numbers
abbrev pub IsOfNumbers : Finding → Type 0
IsOfNumbers NoWay = ⊤
IsOfNumbers (Numbers left right) = ⊤
IsOfNumbers (FreezeIsZero name) = ⊥
IsOfNumbers (FreezeIsSure name) = ⊥

-- what is found of a freeze that is tested for 0, where it is that and where it is not
abbrev pub found_of : FreezeName → Bool → Finding
found_of name is_zero = if is_zero then FreezeIsZero name else FreezeIsSure name

-- Both registers are written, and where the condition of what they hold is that, so it was found.
abbrev pub FindsWay : FreezeNumbers → Width → Condition → Bool → Kind → Kind → Finding → Type 0
FindsWay numbers width condition taken first second finding =
    (o p : Option ℕ) → HoldsKind numbers first o → HoldsKind numbers second p →
    (a : ℕ) × (b : ℕ) × (o ≡ Some a) × (p ≡ Some b) × (holds_of width condition a b ≡ taken → Found numbers a b finding)
