-- How a comparison of 32 bits sees a word.
use Rattle.std.specs.Prelude.{ℕ}
use Rattle.std.specs.Int.{w32, w64, cast_signed, cast_unsigned}
use Rattle.bpf_insn.specs.declared.insn.Condition.{Condition}
use Rattle.bpf_insn.specs.declared.insn.Condition.TheVariants.{SignedGreater, SignedGreaterOrEqual, SignedLess, SignedLessOrEqual}
use Rattle.bpf_words.specs.Words.{low}

-- the low half of a word, extended by its sign to 64 bits
abbrev pub extended_half : ℕ → ℕ
extended_half w = cast_unsigned w64 (cast_signed w32 (low w32 w))

-- the low half of a word, extended by its sign where the comparison is signed
abbrev pub compared_half : Condition → ℕ → ℕ
compared_half SignedGreater w = extended_half w
compared_half SignedGreaterOrEqual w = extended_half w
compared_half SignedLess w = extended_half w
compared_half SignedLessOrEqual w = extended_half w
compared_half _ w = low w32 w
