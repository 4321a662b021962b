-- A move copies a word.
use Rattle.std.proofs.Common.{◌≡◌, ℕ, ◌^◌, ◌<◌, Bool, false, Option, Some, refl, ap, sym, subst, arith}
use Rattle.std.specs.Prelude.{if◌then◌else◌}
use Rattle.std.specs.Int.{w64}
use Rattle.bpf_insn.specs.declared.insn.AluOp.{AluOp}
use Rattle.bpf_insn.specs.declared.insn.Width.TheVariants.{Bits32, Bits64}
use Rattle.bpf_words.specs.Words.{alu_of, computed, low, reads_dst}
use Rattle.scalar_domain.specs.declared.scalars.Scalar.{Scalar}
use Rattle.scalar_domain.specs.Scalar.{Has}
use Rattle.check_register_kinds.specs.declared.kind.Kind.{Kind}
use Rattle.check_register_kinds.specs.declared.kind.Kind.TheVariants.{Unwritten, Number, Address, Freeze}
use Rattle.check_register_kinds.specs.Freezes.{FreezeNumbers}
use Rattle.check_register_kinds.specs.Kinds.{HoldsKind, IsWritten}
use Rattle.check_register_kinds.specs.Computes.{ComputesKind}

no_read : (op : AluOp) → reads_dst op ≡ false → (a b : ℕ) → alu_of Bits64 op a b ≡ b
no_read op r a b = ap (λ (t : Bool). if t then low w64 (computed w64 op a b) else b) r

any_first : (op : AluOp) → reads_dst op ≡ false → (o : Option ℕ) → (if reads_dst op then o else Some 0) ≡ Some 0
any_first op r o = ap (λ (t : Bool). if t then o else Some 0) r

copied : (kind : Kind) (numbers : FreezeNumbers) (p : Option ℕ) → IsWritten kind → HoldsKind numbers kind p → (b : ℕ) × (p ≡ Some b) × HoldsKind numbers kind (Some b)
copied Unwritten numbers p written holds = absurd written
copied (Number scalar) numbers p written (word, is, has) = (word, is, (word, refl, has))
copied (Address region offsets) numbers p written (address, is, lies) = (address, is, (address, refl, lies))
copied (Freeze name) numbers p written (number, is, named) = (number, is, (number, refl, named))

pub moves_whole : (op : AluOp) → reads_dst op ≡ false → (kind : Kind) → IsWritten kind → (numbers : FreezeNumbers) (first : Kind) → ComputesKind numbers Bits64 op first kind kind
moves_whole op r kind written numbers first =
    λ o p holds copies.
    let copy = copied kind numbers p written copies in
    (0, copy.0, any_first op r o, copy.1, subst (λ (n : ℕ). HoldsKind numbers kind (Some n)) (sym (no_read op r 0 copy.0)) copy.2)

pub moves_low : (op : AluOp) → reads_dst op ≡ false → (any_word scalar low_part : Scalar) → ((w : ℕ) → w < 2 ^ 64 → Has any_word w) → ((a b : ℕ) → Has any_word a → Has scalar b → Has low_part (alu_of Bits32 op a b)) → (numbers : FreezeNumbers) (first : Kind) → ComputesKind numbers Bits32 op first (Number scalar) (Number low_part)
moves_low op r any_word scalar low_part all means numbers first =
    λ o p holds (word, is, has). (0, word, any_first op r o, is, (alu_of Bits32 op 0 word, refl, means 0 word (all 0 (omega arith)) has))
