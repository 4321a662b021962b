-- What a kind says of what an instruction computes: whatever the operands hold that their kinds say, those that are
-- read are written, and the kind holds of the result.
use Rattle.std.specs.Prelude.{◌≡◌, ℕ, Option, Some, if◌then◌else◌}
use Rattle.bpf_insn.specs.declared.insn.AluOp.{AluOp}
use Rattle.bpf_insn.specs.declared.insn.Width.{Width}
use Rattle.bpf_words.specs.Words.{alu_of, reads_dst}
use Rattle.check_register_kinds.specs.declared.kind.Kind.{Kind}
use Rattle.check_register_kinds.specs.Freezes.{FreezeNumbers}
use Rattle.check_register_kinds.specs.Kinds.{HoldsKind}

-- the kind holds of what a function makes of two operands
abbrev pub CombinesKind : FreezeNumbers → (ℕ → ℕ → ℕ) → Kind → Kind → Kind → Type 0
CombinesKind numbers f first second result =
    (o p : Option ℕ) → HoldsKind numbers first o → HoldsKind numbers second p →
    (a : ℕ) × (b : ℕ) × (o ≡ Some a) × (p ≡ Some b) × HoldsKind numbers result (Some (f a b))

-- the kind holds of what an arithmetic instruction makes of dst and its operand, where a move does not read dst
abbrev pub ComputesKind : FreezeNumbers → Width → AluOp → Kind → Kind → Kind → Type 0
ComputesKind numbers width op first second result =
    (o p : Option ℕ) → HoldsKind numbers first o → HoldsKind numbers second p →
    (a : ℕ) × (b : ℕ) × ((if reads_dst op then o else Some 0) ≡ Some a) × (p ≡ Some b) × HoldsKind numbers result (Some (alu_of width op a b))

-- the kind holds of what a function makes of one register
abbrev pub ChangesKind : FreezeNumbers → (ℕ → ℕ) → Kind → Kind → Type 0
ChangesKind numbers f kind result =
    (o : Option ℕ) → HoldsKind numbers kind o → (a : ℕ) × (o ≡ Some a) × HoldsKind numbers result (Some (f a))
