-- the advances so far
use Rattle.std.proofs.Common.{◌≡◌}
use Rattle.host_live.specs.Growth.{GrowsAs}
use Rattle.host_live.specs.Turns.{AreOfRuns}
use Rattle.host_live.proofs.host.Host.drive_all.Given as goal

abbrev pub invariant-loop : goal.invariant-loop
invariant-loop g l = record {
  grown : GrowsAs AreOfRuns l.fn.self.engine (g.S.Outlet.bytes l.fn.out) (g.S.Outlet.failures l.fn.out) l.self.engine (g.S.Outlet.bytes l.out) (g.S.Outlet.failures l.out);
  answers : g.S.Outlet.answers l.out ≡ g.S.Outlet.answers l.fn.out;
}
