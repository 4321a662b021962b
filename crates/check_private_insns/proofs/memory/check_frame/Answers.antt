use Rattle.std.proofs.Common.{ℕ, subst, arith}
use Rattle.stack_domain.specs.Stack.{IsWritten}
use Rattle.check_private_insns.proofs.Reading.{frame_read}
use Rattle.check_private_insns.proofs.memory.check_frame.Goals as goal

pub returns-then-is_written-clause-reads : goal.returns-then-is_written-clause-reads
returns-then-is_written-clause-reads c = λ numbers callers m address is lies.
    let live = c.if-frame-depth.false in
    let are = c.is_written.ensures.0 c.if-is_written.true in
    frame_read numbers callers c.args.description.now m c.args.frame c.args.offsets address c.args.bytes is
    (omega (arith, live, c.from-frame.ensures, c.depth.ensures.frames))
    lies c.requires.inside
    (λ frames covers at from to.
    subst (λ (k : ℕ). IsWritten frames k at) c.from-frame.ensures
    (are frames covers at (omega (arith, from, c.from-least.ensures)) (omega (arith, to, c.from-most.ensures, c.from.ensures))))
