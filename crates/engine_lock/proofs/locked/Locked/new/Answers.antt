use Rattle.std.proofs.Common.{[], ap, sym, subst, ◌∙◌, arith, append-nil}
use Rattle.monitor.specs.LegalHistory.{StartsWith, records, unshared}
use Rattle.monitor.specs.Telling.{KeeperState}
use Rattle.monitor.proofs.Histories.{itself, records_unshared}
use Rattle.engine_lock.proofs.locked.Locked.new.Goals as goal

pub invariant_of-result : goal.invariant_of-result
invariant_of-result g c = (
  record {
    run = c.requires.run;
    setup_is = c.requires.setup;
    untaken = c.requires.untaken;
    since = [];
    history = c.requires.begun ∙ sym (append-nil g.B.Origin.begun);
    count = sym c.requires.book;
  },
  omega (arith, c.requires.rest.0),
  c.requires.rest.1,
  c.requires.rest.2,
  ap (λ (k : KeeperState). records k.history) c.requires.keeper ∙ (records_unshared g.B.Origin.begun ∙ sym c.requires.begun),
  ap (λ (k : KeeperState). k.callers) c.requires.keeper,
  subst (λ (k : KeeperState). StartsWith k.history (unshared g.B.Origin.begun)) (sym c.requires.keeper) (itself (unshared g.B.Origin.begun)),
)
