use Rattle.std.proofs.Common.{◌<◌, [], ap, ◌∙◌, arith}
use Rattle.std.specs.Prelude.{slice_set}
use Rattle.base.proofs.Places.{len_is, kept_set, set_is, there}
use Rattle.bpf_stack_frame.specs.Frame.{unwritten, written_at}
use Rattle.bpf_stack_frame.proofs.frames.Frames.write_bytes.Goals as goal

pub invariant_of-self : goal.invariant_of-self
invariant_of-self c =
    let long = len_is unwritten 8 c.self.inside.frames c.self.inside.depth c.self.invariant c.args.self.now c.self.view_is in
    kept_set unwritten 8 c.self.inside.frames c.self.inside.depth c.self.invariant c.args.k _ (omega (arith, long, c.requires.live))

pub returns : goal.returns
returns c =
    let frames = c.self.inside.frames in
    let depth = c.self.inside.depth in
    let live = c.args.self.now in
    let less : c.args.k < depth = omega (arith, len_is unwritten 8 frames depth c.self.invariant live c.self.view_is, c.requires.live) in
    set_is unwritten 8 frames depth c.self.invariant live c.self.view_is c.args.k _ less
    ∙ ap (slice_set live c.args.k) (c.write_bytes.ensures
    ∙ ap (written_at c.args.offset c.args.bytes.now) (there unwritten 8 frames depth c.self.invariant live c.self.view_is c.args.k c.index-self-k.result [] less))
