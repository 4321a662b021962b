-- The low half of what 64 bits compute.
use Rattle.std.proofs.Common.{ap, ◌∙◌, arith}
use Rattle.std.specs.Int.{w32}
use Rattle.bpf_words.specs.Words.{alu, low}
use Rattle.scalar_domain.proofs.Moved.{moved_has}
use Rattle.scalar_domain.proofs.Extending.{cut_once, half_sub, arsh_of_half}
use Rattle.scalar_domain.proofs.arithmetic.alu32.Goals as goal

pub returns-in-Add : goal.returns-in-Add
returns-in-Add c = λ a b h k.
    moved_has _ _ _ (ap (λ op. alu w32 op (low w32 a) (low w32 b)) c.in-Add.is ∙ cut_once _) (c.low_half.ensures _ (c.add.ensures _ _ h k))

pub returns-in-Mul : goal.returns-in-Mul
returns-in-Mul c = λ a b h k.
    moved_has _ _ _ (ap (λ op. alu w32 op (low w32 a) (low w32 b)) c.in-Mul.is ∙ cut_once _) (c.low_half-in-Mul.ensures _ (c.mul.ensures _ _ h k))

pub returns-in-Div : goal.returns-in-Div
returns-in-Div c = λ a b h k.
    moved_has _ _ _ (ap (λ op. alu w32 op (low w32 a) (low w32 b)) c.in-Div.is ∙ cut_once _) (c.low_half-in-Div.ensures _ (c.div.ensures _ _ h k))

pub returns-in-Mod : goal.returns-in-Mod
returns-in-Mod c = λ a b h k.
    moved_has _ _ _ (ap (λ op. alu w32 op (low w32 a) (low w32 b)) c.in-Mod.is ∙ cut_once _) (c.low_half-in-Mod.ensures _ (c.modulo.ensures _ _ h k))

pub returns-in-Or : goal.returns-in-Or
returns-in-Or c = λ a b h k.
    moved_has _ _ _ (ap (λ op. alu w32 op (low w32 a) (low w32 b)) c.in-Or.is ∙ cut_once _) (c.low_half-in-Or.ensures _ (c.or.ensures _ _ h k))

pub returns-in-And : goal.returns-in-And
returns-in-And c = λ a b h k.
    moved_has _ _ _ (ap (λ op. alu w32 op (low w32 a) (low w32 b)) c.in-And.is ∙ cut_once _) (c.low_half-in-And.ensures _ (c.and.ensures _ _ h k))

pub returns-in-Xor : goal.returns-in-Xor
returns-in-Xor c = λ a b h k.
    moved_has _ _ _ (ap (λ op. alu w32 op (low w32 a) (low w32 b)) c.in-Xor.is ∙ cut_once _) (c.low_half-in-Xor.ensures _ (c.xor.ensures _ _ h k))

pub returns-in-Sub : goal.returns-in-Sub
returns-in-Sub c = λ a b h k.
    moved_has _ _ _ (ap (λ op. alu w32 op (low w32 a) (low w32 b)) c.in-Sub.is ∙ half_sub (low w32 a) (low w32 b) (omega arith)) (c.low_half-in-Sub.ensures _ (c.sub.ensures _ _ h k))

pub returns-in-Lsh : goal.returns-in-Lsh
returns-in-Lsh c = λ a b h k.
    let counts = c.counts-counts.ensures.reduced _ k.in_unsigned in
    moved_has _ _ _ (ap (λ op. alu w32 op (low w32 a) (low w32 b)) c.in-Lsh.is ∙ cut_once _) (c.low_half-in-Lsh.ensures _ (c.shifted_left.ensures _ _ h counts))

pub returns-in-Rsh : goal.returns-in-Rsh
returns-in-Rsh c = λ a b h k.
    let counts = c.counts-counts.ensures.reduced _ k.in_unsigned in
    moved_has _ _ _ (ap (λ op. alu w32 op (low w32 a) (low w32 b)) c.in-Rsh.is) (c.low_half-in-Rsh.ensures _ (c.shifted_right.ensures _ _ h counts))

pub returns-in-Arsh : goal.returns-in-Arsh
returns-in-Arsh c = λ a b h k.
    let counts = c.counts-counts.ensures.reduced _ k.in_unsigned in
    moved_has _ _ _ (ap (λ op. alu w32 op (low w32 a) (low w32 b)) c.in-Arsh.is ∙ arsh_of_half (low w32 a) _ (omega arith)) (c.low_half-in-Arsh.ensures _ (c.signed_shifted_right.ensures _ _ (c.extended.ensures _ h) counts))
