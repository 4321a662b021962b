use Rattle.std.proofs.Common.{arith}
use Rattle.base.proofs.Places.{len_is, kept_more}
use Rattle.bpf_stack_frame.specs.Frame.{unwritten}
use Rattle.bpf_stack_frame.proofs.LiveFrames.{opened_is}
use Rattle.bpf_stack_frame.proofs.frames.Frames.open.Goals as goal

pub invariant_of-self : goal.invariant_of-self
invariant_of-self c =
    let long = len_is unwritten 8 c.self.inside.frames c.self.inside.depth c.self.invariant c.args.self.now c.self.view_is in
    kept_more unwritten 8 c.self.inside.frames c.self.inside.depth c.self.invariant (omega (arith, long, c.requires))

pub returns : goal.returns
returns c =
    let long = len_is unwritten 8 c.self.inside.frames c.self.inside.depth c.self.invariant c.args.self.now c.self.view_is in
    opened_is c.self.inside.frames c.self.inside.depth c.self.invariant c.args.self.now c.self.view_is (omega (arith, long, c.requires))
