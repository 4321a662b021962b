use Rattle.std.proofs.Common.{arith}
use Rattle.bpf_stack_frame.proofs.Differences.{gathered_more}
use Rattle.bpf_stack_frame.proofs.alike.same_words.Goals as goal

pub loop-k-preserved : goal.loop-k-preserved
loop-k-preserved c =
    gathered_more c.args.one.now c.args.other.now c.loop-k.k c.loop-k.differences c.loop-k-test.true (omega (arith, c.requires, c.loop-k-test.true)) c.loop-k.invariant
