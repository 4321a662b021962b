use Rattle.std.proofs.Common.{◌∙◌, subst, sym}
use Rattle.std.specs.Io.KnownBytes.{Appends}
use Rattle.std.proofs.KnownBytes.{Appends-trans}
use Rattle.trace.proofs.Printing.{taken_on}
use Rattle.host_live.proofs.putting.put_all.Goals as goal

pub loop-taken-preserved : goal.loop-taken-preserved
loop-taken-preserved g c =
    let on = taken_on c.args.text.now c.loop-taken.taken c.in-Ok.count c.loop-taken.invariant.within c.in-Ok.ensures.taken.1 in
    record {
      within = on.0;
      told = subst (Appends (g.S.Outlet.bytes c.args.out.now) (g.S.Outlet.bytes c.take.new.self)) (sym on.1)
          (Appends-trans _ _ _ _ _ c.loop-taken.invariant.told c.in-Ok.ensures.taken.2);
      none = c.in-Ok.ensures.taken.3 ∙ c.loop-taken.invariant.none;
      same = c.take.ensures.answers ∙ c.loop-taken.invariant.same;
    }
