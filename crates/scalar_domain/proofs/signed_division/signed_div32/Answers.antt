-- The low half of the plain quotient of halves that are not negative.
use Rattle.std.proofs.Common.{sym, arith, mod-eq_of_lt}
use Rattle.std.specs.Int.{w32}
use Rattle.bpf_insn.specs.declared.insn.AluOp.TheVariants.{SignedDiv}
use Rattle.bpf_words.specs.Words.{low}
use Rattle.scalar_domain.proofs.Moved.{moved_has}
use Rattle.scalar_domain.proofs.Fitting.{alu32_fits}
use Rattle.scalar_domain.proofs.PlainDivision.{plain_div32}
use Rattle.scalar_domain.proofs.signed_division.signed_div32.Goals as goal

pub returns-then-both_below : goal.returns-then-both_below
returns-then-both_below c = λ a b h k.
    let below_a = c.both_below.ensures.for_left _ h c.if-both_below.true in
    let below_b = c.both_below.ensures.for_right _ k c.if-both_below.true in
    moved_has _ _ _ (plain_div32 (low w32 a) (low w32 b) below_a below_b) (c.low_half.ensures _ (c.div.ensures _ _ h k))

pub returns-else-both_below : goal.returns-else-both_below
returns-else-both_below c = λ a b h k.
    let fits = alu32_fits SignedDiv (low w32 a) (low w32 b) (omega arith) in
    moved_has _ _ _ (sym (mod-eq_of_lt fits)) (c.low_half-else-both_below.ensures _ (c.any.ensures _ (omega (arith, fits))))
