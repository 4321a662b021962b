use Rattle.workers.proofs.Turns.{stays, served_more}
use Rattle.workers.proofs.driving.work.Goals as goal

pub loop-init : goal.loop-init
loop-init g c = (stays g.B.Origin.setup c.args.inbox.now c.args.worker.now c.requires, c.requires)

pub loop-preserved : goal.loop-preserved
loop-preserved g c = (
  served_more g.B.Origin.setup c.args.worker.now c.loop.worker c.serve_next.new.worker c.loop.invariant.0 c.loop.invariant.1.free c.loop.invariant.1.memory c.serve_next.ensures.served,
  c.serve_next.ensures.ready c.if-not-serve_next.false,
)

pub returns-then-not-serve_next-clause-served : goal.returns-then-not-serve_next-clause-served
returns-then-not-serve_next-clause-served g c =
    served_more g.B.Origin.setup c.args.worker.now c.loop.worker c.serve_next.new.worker c.loop.invariant.0 c.loop.invariant.1.free c.loop.invariant.1.memory c.serve_next.ensures.served
