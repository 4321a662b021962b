use Rattle.std.proofs.Common.{◌≡◌, false, Err, subst}
use Rattle.host_live.specs.Growth.{PrintedState}
use Rattle.host_live.specs.Telling.{EndsTrace}
use Rattle.host_live.proofs.serving.close.Goals as goal

pub returns-in-Err-clause-closed : goal.returns-in-Err-clause-closed
returns-in-Err-clause-closed g c = (
  c.is_left_open.ensures.shut c.if-is_left_open.false,
  subst (λ (e : PrintedState). e.printed.has_failed ≡ false → EndsTrace {T = Unit {0}} e (g.S.Outlet.bytes c.args.out.now) (Err c.in-Err.failed) (g.S.Outlet.bytes c.end.new.out)) c.into_engine.ensures c.in-Err.ensures.last c.requires.whole,
)
