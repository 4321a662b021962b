use Rattle.std.proofs.Common.{arith}
use Rattle.base.proofs.Places.{len_is, kept_set}
use Rattle.bpf_stack_frame.specs.Frame.{unwritten}
use Rattle.bpf_stack_frame.proofs.frames.Frames.write16.Goals as goal

pub invariant_of-self : goal.invariant_of-self
invariant_of-self c =
    let long = len_is unwritten 8 c.self.inside.frames c.self.inside.depth c.self.invariant c.args.self.now c.self.view_is in
    kept_set unwritten 8 c.self.inside.frames c.self.inside.depth c.self.invariant c.args.k _ (omega (arith, long, c.requires.live))
