-- The plain remainder of words that are not negative.
use Rattle.bpf_insn.specs.declared.insn.AluOp.TheVariants.{SignedMod}
use Rattle.bpf_insn.specs.declared.insn.Width.TheVariants.{Bits64}
use Rattle.scalar_domain.proofs.Moved.{moved_has}
use Rattle.scalar_domain.proofs.Fitting.{alu_of_fits}
use Rattle.scalar_domain.proofs.PlainDivision.{plain_mod64}
use Rattle.scalar_domain.proofs.signed_division.signed_modulo64.Goals as goal

pub returns-then-both_below : goal.returns-then-both_below
returns-then-both_below c = λ a b h k.
    let below_a = c.both_below.ensures.for_left a h c.if-both_below.true in
    let below_b = c.both_below.ensures.for_right b k c.if-both_below.true in
    moved_has _ _ _ (plain_mod64 a b below_a below_b) (c.modulo.ensures a b h k)

pub returns-else-both_below : goal.returns-else-both_below
returns-else-both_below c = λ a b h k. c.any.ensures _ (alu_of_fits Bits64 SignedMod a b k.fits)
