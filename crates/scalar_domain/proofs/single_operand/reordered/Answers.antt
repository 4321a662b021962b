-- The low bits are an AND, and a reversed word is no greater than its size allows.
use Rattle.std.proofs.Common.{ap, sym, ◌∙◌, bit_and, arith}
use Rattle.std.specs.Int.{w64}
use Rattle.bpf_words.specs.Words.{low, swap}
use Rattle.scalar_domain.proofs.Moved.{moved_has}
use Rattle.scalar_domain.proofs.Extending.{little, swap_most}
use Rattle.scalar_domain.proofs.single_operand.reordered.Goals as goal

pub returns-in-Little : goal.returns-in-Little
returns-in-Little c = λ w h.
    let size = c.args.size in
    moved_has _ _ _ (ap (λ o. swap o size w) c.in-Little.is ∙ little size w h.fits ∙ ap (λ n. low w64 (bit_and w n)) (sym c.greatest-greatest.ensures)) (c.and.ensures w _ h c.exactly.ensures.has)

pub returns-in-Big : goal.returns-in-Big
returns-in-Big c = λ w h. c.within.ensures.has _ (omega arith) (omega (arith, c.greatest-greatest.ensures, swap_most c.args.order c.args.size w))

pub returns-in-Swapped : goal.returns-in-Swapped
returns-in-Swapped c = λ w h. c.within-in-Swapped.ensures.has _ (omega arith) (omega (arith, c.greatest-greatest.ensures, swap_most c.args.order c.args.size w))
