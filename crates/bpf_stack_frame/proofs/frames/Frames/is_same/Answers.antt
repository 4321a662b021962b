use Rattle.std.proofs.Common.{arith, ◌∙◌}
use Rattle.std.proofs.lemmas.List.{get_or_default, take_more_same}
use Rattle.bpf_stack_frame.proofs.frames.Frames.is_same.Goals as goal

pub loop-k-preserved : goal.loop-k-preserved
loop-k-preserved c =
    take_more_same c.self.inside.frames c.other.inside.frames c.loop-k.k c.index-self-k.result
    (omega (arith, c.self.invariant.within, c.self.invariant.whole, c.loop-k-test.true))
    (omega (arith, c.self.invariant.within, c.other.invariant.whole, c.loop-k-test.true))
    c.loop-k.invariant
    (c.is_same.ensures.0 c.if-not-is_same.false ∙ get_or_default c.other.inside.frames c.loop-k.k c.index-other-k.result c.index-self-k.result (omega (arith, c.self.invariant.within, c.other.invariant.whole, c.loop-k-test.true)))
