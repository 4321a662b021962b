use Rattle.std.proofs.Common.{sym, subst}
use Rattle.std.specs.Prelude.{slice_index_or}
use Rattle.workers.specs.Serving.{HasServed, HasStopped, IsReady, WorkerState}
use Rattle.workers.proofs.serving.serve_all.Goals as goal

pub for_each_mut-requires-clause-accepts : goal.for_each_mut-requires-clause-accepts
for_each_mut-requires-clause-accepts g c κs within i p lt e = subst (IsReady c.args.inbox.now) (sym e) (c.requires.ready i p.now lt)

pub returns : goal.returns
returns g c place none lt =
    let at = (c.for_each_mut.ensures place none lt).1 in (
      subst (λ (w : WorkerState). HasServed g.B.Origin.setup w (slice_index_or c.for_each_mut.new.s place none)) at.argument_is
          (subst (λ (w : WorkerState). HasServed g.B.Origin.setup at.argument.now w) at.left at.call.0),
      subst HasStopped at.left at.call.1,
    )
