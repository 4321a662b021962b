use Rattle.std.proofs.Common.{◌<◌, ◌≤◌, arith}
use Rattle.bpf_stack_frame.specs.declared.frames.TheConstants.{MAX_FRAMES}
use Rattle.call_shape.proofs.CallingOrder.{ordered}
use Rattle.call_shape.proofs.Measures.{too_deep, shallow, too_long, lawful_parts}
use Rattle.call_shape.proofs.checks.measured.Goals as goal

pub returns-then-from-gt-MAX_FRAMES-clause-fault : goal.returns-then-from-gt-MAX_FRAMES-clause-fault
returns-then-from-gt-MAX_FRAMES-clause-fault c =
    let program = c.args.program.now in
    let deep : MAX_FRAMES < c.frames_of-frames.result = omega (arith, c.from.ensures) in
    (ordered program _ c.requires.program c.requires.contained c.requires.order.whole, too_deep program c.frames_of-frames.result c.frames_of-frames.ensures deep)

pub returns-then-written_out-gt-MAX_WRITTEN_OUT-clause-fault :
    goal.returns-then-written_out-gt-MAX_WRITTEN_OUT-clause-fault
returns-then-written_out-gt-MAX_WRITTEN_OUT-clause-fault c =
    let program = c.args.program.now in
    let few : c.frames_of-frames.result ≤ MAX_FRAMES = omega (arith, c.from.ensures) in (
      shallow program c.frames_of-frames.result (ordered program _ c.requires.program c.requires.contained c.requires.order.whole) c.frames_of-frames.ensures few,
      too_long program c.written_out_of-written_out.result c.written_out_of-written_out.ensures c.if-written_out-gt-MAX_WRITTEN_OUT.true,
    )

pub new-requires : goal.new-requires
new-requires c =
    let program = c.args.program.now in
    let few : c.frames_of-frames.result ≤ MAX_FRAMES = omega (arith, c.from.ensures) in
    lawful_parts program c.args.order c.frames_of-frames.result c.written_out_of-written_out.result c.requires.program c.requires.order
    (shallow program c.frames_of-frames.result (ordered program _ c.requires.program c.requires.contained c.requires.order.whole) c.frames_of-frames.ensures few)
    c.frames_of-frames.ensures few c.written_out_of-written_out.ensures c.if-written_out-gt-MAX_WRITTEN_OUT.false
