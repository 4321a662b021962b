-- What is computed is a word already.
use Rattle.std.proofs.Common.{ap, ◌∙◌, ◌^◌, ◌%◌, arith, mod-eq_of_lt, div-le_self}
use Rattle.std.specs.Int.{w64}
use Rattle.bpf_words.specs.Words.{alu}
use Rattle.scalar_domain.proofs.Moved.{moved_has}
use Rattle.scalar_domain.proofs.Extending.{shifted_word}
use Rattle.scalar_domain.proofs.arithmetic.alu64.Goals as goal

pub returns-in-Lsh : goal.returns-in-Lsh
returns-in-Lsh c = λ a b h k.
    moved_has _ _ _ (ap (λ op. alu w64 op a b) c.in-Lsh.is) (c.shifted_left.ensures a _ h (c.counts-counts.ensures.reduced b k.in_unsigned))

pub returns-in-Rsh : goal.returns-in-Rsh
returns-in-Rsh c = λ a b h k.
    moved_has _ _ _ (ap (λ op. alu w64 op a b) c.in-Rsh.is ∙ mod-eq_of_lt (omega (arith, div-le_self a (2 ^ (b % 64)), h.fits))) (c.shifted_right.ensures a _ h (c.counts-counts.ensures.reduced b k.in_unsigned))

pub returns-in-Arsh : goal.returns-in-Arsh
returns-in-Arsh c = λ a b h k.
    moved_has _ _ _ (ap (λ op. alu w64 op a b) c.in-Arsh.is ∙ shifted_word a _ h.fits) (c.signed_shifted_right.ensures a _ h (c.counts-counts.ensures.reduced b k.in_unsigned))
