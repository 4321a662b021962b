use Rattle.std.proofs.Common.{◌≡◌, ◌≤◌, ◌∙◌, false, true, List, ℕ, ap, length, subst, sym}
use Rattle.std.specs.List.{list_all}
use Rattle.trace.specs.ShortLines.{is_shown}
use Rattle.trace.specs.declared.laws.TheConstants.{LONGEST_LINE}
use Rattle.host_recovery.specs.Carries.{CarryingState}
use Rattle.host_recovery.proofs.CarriedReached.{carries_torn, tells_carried}
use Rattle.host_recovery.proofs.carried.end_here.Goals as goal

pub returns-then-not-is_complete-clause-says : goal.returns-then-not-is_complete-clause-says
returns-then-not-is_complete-clause-says c = λ config from now lines is carries at_end one.
    let count : c.carrying.inside.count ≡ c.args.carrying.now.count = cc (ap (λ (s : CarryingState). s.count) c.carrying.view_is) in
    tells_carried config from c.carrying.inside.count c.args.carrying.now.count c.broken.result count c.broken.ensures
    (carries_torn config from now c.args.carrying.now lines.line carries at_end one
    (λ all short. let bad : false ≡ true = sym c.if-not-is_complete.true ∙ (c.is_complete.ensures carries.lines carries.ordered).1 all in cc))

pub returns-then-is_torn-clause-says : goal.returns-then-is_torn-clause-says
returns-then-is_torn-clause-says c = λ config from now lines is carries at_end one. record {
  all = record { at = carries; in_order = (c.is_complete.ensures carries.lines carries.ordered).0 c.if-not-is_complete.false };
  at_end = at_end;
  short = record {
    few = subst (λ (t : List ℕ). length t ≤ LONGEST_LINE) (sym is) c.requires.short;
    shown = ap (list_all is_shown) is ∙ (sym c.is_torn.ensures ∙ c.if-is_torn.true);
  };
}

pub returns-else-is_torn-clause-says : goal.returns-else-is_torn-clause-says
returns-else-is_torn-clause-says c = λ config from now lines is carries at_end one.
    let count : c.carrying.inside.count ≡ c.args.carrying.now.count = cc (ap (λ (s : CarryingState). s.count) c.carrying.view_is) in
    tells_carried config from c.carrying.inside.count c.args.carrying.now.count c.broken-else-is_torn.result count c.broken-else-is_torn.ensures
    (carries_torn config from now c.args.carrying.now lines.line carries at_end one
    (λ all short. let bad : false ≡ true = sym c.if-is_torn.false ∙ (c.is_torn.ensures ∙ (ap (list_all is_shown) (sym is) ∙ short.shown)) in cc))
