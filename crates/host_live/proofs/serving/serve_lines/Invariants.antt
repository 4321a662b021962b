-- what was turned so far
use Rattle.std.proofs.Common.{◌≡◌}
use Rattle.std.specs.Prelude.{IsTrue}
use Rattle.host_live.specs.Metering.{HasCounted, MayCount}
use Rattle.host_live.specs.Served.{GrowsWith, IsPrintedBehind}
use Rattle.host_live.specs.Turns.{IsAt, Point}
use Rattle.host_live.proofs.Finishing.{SoFar}
use Rattle.host_live.proofs.serving.serve_lines.Given as goal

abbrev pub invariant-loop : goal.invariant-loop
invariant-loop g l = record {
  grown : (point : Point) → IsAt point (g.I.Input.came l.fn.input) l.fn.lines
      → GrowsWith (SoFar l.manner g.N.Reports.may_refuse l.fn.host.engine.engine (IsPrintedBehind l.fn.host.engine.printed (g.S.Outlet.bytes l.fn.out)) point (g.I.Input.came l.input) l.lines) l.fn.host.engine (g.S.Outlet.bytes l.fn.out) (g.S.Outlet.failures l.fn.out) (g.S.Outlet.answers l.fn.out) l.host.engine (g.S.Outlet.bytes l.out) (g.S.Outlet.failures l.out) (g.S.Outlet.answers l.out);
  still : g.I.Input.has_failed l.input ≡ g.I.Input.has_failed l.fn.input;
  kept : l.lines.begun ≡ l.fn.lines.begun;
  begun : IsTrue l.lines.is_ended → IsTrue (g.I.Input.has_ended l.input);
  counts : MayCount g.N.Reports.may_count l.host.engine.engine l.host.engine.metrics;
  counted : HasCounted l.fn.host.engine.engine l.fn.host.engine.metrics l.host.engine.engine l.host.engine.metrics;
}
