use Rattle.std.proofs.Common.{◌≡◌, ◌++◌, ℕ, List, [], ◌∷◌, All, length, refl, ap, sym, subst, ◌∙◌, arith, append_assoc, append-nil}
use Rattle.std.specs.List.{sum_by}
use Rattle.std.proofs.lemmas.List.Sums.{sum_by_push}
use Rattle.std.proofs.lemmas.List.Elements.{All-nil, All-cons}
use Rattle.monitor.specs.declared.knowledge.Pair.{Pair}
use Rattle.monitor.specs.LegalHistory.{StartsWith, records, unshared}
use Rattle.monitor.specs.Telling.{Agrees, CallerState, KeeperState}
use Rattle.engine_lock.specs.Sharing.{IsSince, LockedState}
use Rattle.engine_lock.proofs.locked.Locked.settle.Goals as goal

empty_of : (xs : List CallerState) → length xs ≡ 0 → xs ≡ []
empty_of [] none = refl
empty_of (x ∷ xs) none = absurd (omega (arith, none))

pub loop-caller-init : goal.loop-caller-init
loop-caller-init g c = record {
  parts = omega (arith, c.self.invariant.1, ap (λ (l : LockedState). l.given) c.self.view_is);
  apart = omega (arith, c.self.invariant.1);
  amount = omega (arith, c.self.invariant.2);
  same = ap (λ (l : LockedState). l.history) c.self.view_is;
  gone = [];
  all = sym (append-nil c.args.callers.items);
  agree = All-nil (Agrees c.self.inside.keeper.history);
}

pub loop-caller-preserved : goal.loop-caller-preserved
loop-caller-preserved g c =
    let l = c.loop-caller.invariant in
    let f : CallerState → ℕ = λ (it : CallerState). length it.mine in record {
      parts = omega (arith, l.parts, c.merge.ensures.parts, c.caller.invariant.0, c.in-Some.ensures.len);
      apart = c.merge.ensures.apart;
      amount = omega (arith, l.amount, c.merge.ensures.amount, c.caller.invariant.1, ap (sum_by f) c.in-Some.ensures.items, sum_by_push f c.pop.new.self.items c.in-Some.caller, ap f c.caller.view_is);
      same = ap (λ (k : KeeperState). k.history) c.retire.ensures.same ∙ l.same;
      gone = c.in-Some.caller ∷ l.gone;
      all = l.all ∙ (ap (λ (xs : List CallerState). xs ++ l.gone) c.in-Some.ensures.items ∙ append_assoc c.pop.new.self.items (c.in-Some.caller ∷ []) l.gone);
      agree = subst (λ (k : KeeperState). All (Agrees k.history) (c.in-Some.caller ∷ l.gone)) (sym c.retire.ensures.same)
          (All-cons (Agrees c.loop-caller.keeper.history) c.in-Some.caller l.gone (subst (Agrees c.loop-caller.keeper.history) c.caller.view_is c.retire.ensures.agrees) l.agree);
    }

pub returns : goal.returns
returns g c =
    let l = c.loop-caller.invariant in
    let f : CallerState → ℕ = λ (it : CallerState). length it.mine in
    let none : c.loop-caller.callers.items ≡ [] = empty_of c.loop-caller.callers.items (grind (arith, c.in_default.ensures.variant, c.in_default.not-Some)) in
    let all : c.args.callers.items ≡ l.gone = l.all ∙ ap (λ (xs : List CallerState). xs ++ l.gone) none in
    let many : length c.args.callers.items ≡ c.args.self.given = omega (arith, l.parts, l.apart, c.requires, ap length none) in
    let parts : c.loop-caller.all.parts ≡ g.B.Ledger.parts = omega (arith, l.parts, many, ap length none) in
    let total : c.self.inside.book.total ≡ sum_by f c.args.callers.items = omega (arith, l.amount, ap (sum_by f) none, c.audit.ensures.total, c.audit.ensures.amount, c.audit.ensures.whole parts) in record {
      closes = record {
        since = subst (λ (n : ℕ). IsSince g.B.Origin.setup g.B.Origin.begun n c.self.inside.engine) total c.self.invariant.0;
        history = c.loop-caller.keeper.history;
        its = ap records (l.same ∙ sym (ap (λ (it : LockedState). it.history) c.self.view_is)) ∙ c.self.invariant.4;
        front = subst (λ (h : List Pair). StartsWith h (unshared g.B.Origin.begun)) (sym (l.same ∙ sym (ap (λ (it : LockedState). it.history) c.self.view_is))) c.self.invariant.6;
        agree = subst (λ (xs : List CallerState). All (Agrees c.loop-caller.keeper.history) xs) (sym all) l.agree;
      };
      all = many;
    }
