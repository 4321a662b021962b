-- so much was taken
use Rattle.std.proofs.Common.{◌≡◌, ◌-◌, ◌≤◌, length, take}
use Rattle.std.specs.Io.KnownBytes.{Appends}
use Rattle.host_live.proofs.putting.put_all.Given as goal

abbrev pub invariant-loop-taken : goal.invariant-loop-taken
invariant-loop-taken g l = record {
  within : l.taken ≤ length l.text;
  told : Appends (g.S.Outlet.bytes l.fn.out) (g.S.Outlet.bytes l.out) (take l.taken l.text);
  none : g.S.Outlet.failures l.out ≡ g.S.Outlet.failures l.fn.out;
  same : g.S.Outlet.answers l.out ≡ g.S.Outlet.answers l.fn.out;
}

abbrev pub decreases-loop-taken : goal.decreases-loop-taken
decreases-loop-taken g l = length l.text - l.taken
