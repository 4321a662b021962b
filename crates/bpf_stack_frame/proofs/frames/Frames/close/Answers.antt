use Rattle.std.proofs.Common.{◌-◌, arith}
use Rattle.base.proofs.Places.{len_is}
use Rattle.bpf_stack_frame.specs.Frame.{unwritten}
use Rattle.bpf_stack_frame.proofs.LiveFrames.{kept_closed}
use Rattle.bpf_stack_frame.proofs.frames.Frames.close.Goals as goal

pub invariant_of-self : goal.invariant_of-self
invariant_of-self c =
    let long = len_is unwritten 8 c.self.inside.frames c.self.inside.depth c.self.invariant c.args.self.now c.self.view_is in
    kept_closed c.self.inside.frames c.self.inside.depth c.self.invariant (c.self.inside.depth - 1) _ (omega (arith, long, c.requires)) c.clear.ensures
