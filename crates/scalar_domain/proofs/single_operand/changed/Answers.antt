-- NEG is the difference from 0.
use Rattle.std.proofs.Common.{◌≡◌, ap, ◌∙◌}
use Rattle.bpf_insn.specs.declared.insn.InPlaceOp.TheVariants.{Neg}
use Rattle.bpf_words.specs.Words.{in_place}
use Rattle.scalar_domain.proofs.Moved.{moved_has}
use Rattle.scalar_domain.proofs.Extending.{minus}
use Rattle.scalar_domain.proofs.single_operand.changed.Goals as goal

pub returns-in-Neg : goal.returns-in-Neg
returns-in-Neg c = λ w h.
    let op_is : c.args.op ≡ Neg c.in-Neg.width = cc in
    moved_has _ _ _ (ap (λ op. in_place op w) op_is ∙ minus c.in-Neg.width w h.fits) (c.alu.ensures 0 w c.exactly.ensures.has h)
