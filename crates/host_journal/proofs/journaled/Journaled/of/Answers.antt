use Rattle.std.proofs.Common.{[], false, ap, refl, subst, sym, List, ℕ, ◌++◌, append-nil}
use Rattle.host_live.specs.Answering.{Answer}
use Rattle.host_live.specs.LinesCome.{EndsALine}
use Rattle.host_journal.specs.Order.{Told}
use Rattle.host_journal.specs.declared.answered.Answered.{Answered}
use Rattle.host_journal.proofs.Ordering.{at_first, at_same, none_out, told_first}
use Rattle.host_journal.proofs.journaled.Journaled.of.Goals as goal

pub invariant_of-result : goal.invariant_of-result
invariant_of-result g c = (
  record {
    kept = [];
    synced = [];
    out = [];
    at = at_same g.O.Order.is_synced g.O.Order.first g.O.Order.before g.O.Order.before (g.D.Disk.steps c.args.disk) [] [] [] false (at_first g.O.Order.is_synced g.O.Order.first g.O.Order.before) (sym c.requires.before);
    answered = none_out c.none.result.given g.O.Order.first (g.O.Order.first ++ []);
    whole = record {
      told = subst (λ (t : List ℕ). Told g.O.Order.first (g.O.Order.first ++ []) ([] ++ t) c.none.result.given) c.requires.first
          (subst (λ (a : Answered). Told g.O.Order.first (g.O.Order.first ++ []) ([] ++ g.O.Order.first) a.given) (sym c.none.ensures) (told_first g.O.Order.first));
      appended = ap (λ (a : Answered). a.place) c.none.ensures;
      level = λ _. refl;
      line = λ _. subst (λ (t : List ℕ). EndsALine t) (sym (append-nil g.O.Order.first)) c.requires.line;
    };
  },
  sym c.requires.synced,
  sym c.requires.segment,
  tt,
)

pub returns-clause-answers : goal.returns-clause-answers
returns-clause-answers g c = ap (λ (a : Answered). a.given) c.none.ensures
