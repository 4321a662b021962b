-- The caller's part in the keeper's hands: which steps the keeper may take, and what the two know once it took one and gave the
-- part back.
use Rattle.std.proofs.Common.{◌≡◌, ℕ, List, [], ◌++◌, sym, ap, ◌∙◌, subst}
use Rattle.crossbeam_utils.specs.Register.{Turns}
use Rattle.world_calls.specs.declared.record.Record.{Record}
use Rattle.world_calls.specs.declared.totals.Totals.{Totals}
use Rattle.world.specs.World.{Setup}
use Rattle.world.specs.TotalsOf.{TotalsOf}
use Rattle.monitor.specs.declared.knowledge.View.{View}
use Rattle.monitor.specs.LegalHistory.{all_by, records, made_by, LegalHistory}
use Rattle.monitor.specs.Seats.{with_part, without_part, caller_state, IsKeeper, IsCaller, Say, Kept, published, AgreesWith, Extends, HasLooked}
use Rattle.monitor.specs.Telling.{CallerState, Agrees, Joins, Looks, having_made}
use Rattle.monitor.proofs.Histories.{records_more, itself, none_told}
use Rattle.monitor.proofs.Publishing.{publishes, looks}

-- The views before are those of the keeper and the caller. Then the keeper's has the part, and the caller's is without it; the
-- keeper's takes its step; and the part comes back
pub record Turn (setup : Setup) (keeper caller lent left stepped after : View) : Type 0 where
  pub is_caller : IsCaller setup caller
  pub lent_is : lent ≡ with_part keeper caller
  pub left_is : left ≡ without_part caller
  pub after_is : after ≡ with_part left stepped

-- in a view that has the caller's part
agreed_of : (keeper caller lent : View) → lent ≡ with_part keeper caller → AgreesWith lent.log lent → Agrees keeper.log (caller_state caller)
agreed_of keeper caller lent is a =
    let b : AgreesWith keeper.log (with_part keeper caller) = subst (λ (v : View). AgreesWith v.log v) is a in
    record { began = b.began; heard = b.heard; own = b.own }

-- The keeper may publish the caller's records, with the sums of the history with them, and the caller may look
pub publishes_lent : (setup : Setup) (keeper caller lent : View) (made : List Record) (totals : Totals) (seat : ℕ) (words : List ℕ) → IsKeeper setup keeper → IsCaller setup caller → lent ≡ with_part keeper caller
    → Say words totals → TotalsOf setup (records keeper.log ++ made) totals → Turns Kept seat lent (λ _. words) (λ v x y w. Extends v made w)
publishes_lent setup keeper caller lent made totals seat words k c is say h =
    let sums : TotalsOf caller.setup (records (keeper.log ++ all_by caller.number made)) totals =
    subst (λ (y : Setup × List Record). TotalsOf y.0 y.1 totals) (λ i. (sym c.setup_is i, sym (records_more keeper.log caller.number made) i)) h in
    subst (λ (u : View). Turns Kept seat u (λ _. words) (λ v x y w. Extends v made w)) (sym is)
    (publishes seat (with_part keeper caller) made totals words k.keeps c.calls k.closed say (record { sums = sums }))

pub looks_lent : (setup : Setup) (keeper caller lent : View) (seat : ℕ) → IsKeeper setup keeper → IsCaller setup caller → lent ≡ with_part keeper caller → Turns Kept seat lent (λ x. x) (λ v x y w. HasLooked v w)
looks_lent setup keeper caller lent seat k c is =
    subst (λ (u : View). Turns Kept seat u (λ x. x) (λ v x y w. HasLooked v w)) (sym is) (looks seat (with_part keeper caller) k.keeps c.calls k.closed)

module _ (setup : Setup) (keeper caller lent left stepped after : View) (t : Turn setup keeper caller lent left stepped after) where
  pub published_joins : (made : List Record) → Extends lent made stepped → Joins setup keeper.log (caller_state caller) made (caller_state after)
  published_joins made x =
      let later : CallerState = having_made keeper.log made (caller_state caller) in
      let stepped_is : stepped ≡ published made (with_part keeper caller) = x.after ∙ ap (published made) t.lent_is in
      let is : caller_state after ≡ later = ap caller_state (t.after_is ∙ (λ i. with_part (t.left_is i) (stepped_is i))) in
      let own : made_by caller.number (keeper.log ++ all_by caller.number made) ≡ caller.mine ++ made =
      subst (λ (v : View). made_by v.number (v.log ++ all_by v.number made) ≡ v.mine ++ made) t.lent_is x.own in
      let legal : LegalHistory setup later.seen =
      subst (λ (s : Setup). LegalHistory s (keeper.log ++ all_by caller.number made)) t.is_caller.setup_is
      (subst (λ (v : View). LegalHistory v.setup (v.log ++ all_by v.number made)) t.lent_is x.legal) in
      record {
        agreed = agreed_of keeper caller lent t.lent_is x.agreed;
        after_is = is;
        agrees = subst (λ (s : CallerState). Agrees s.seen s) (sym is) (record { began = itself later.seen; heard = none_told later.seen; own = own });
        legal = subst (λ (s : CallerState). LegalHistory setup s.seen) (sym is) legal;
      }

  pub looked_looks : HasLooked lent stepped → Looks setup keeper.log (caller_state caller) (caller_state after)
  looked_looks x =
      let stepped_is : stepped ≡ record (with_part keeper caller) { seen = keeper.log; told = [] } = x.after ∙ ap (λ (v : View). record v { seen = v.log; told = [] }) t.lent_is in
      record {
        agreed = agreed_of keeper caller lent t.lent_is x.agreed;
        after_is = ap caller_state (t.after_is ∙ (λ i. with_part (t.left_is i) (stepped_is i)));
        legal = subst (λ (s : Setup). LegalHistory s keeper.log) t.is_caller.setup_is (subst (λ (v : View). LegalHistory v.setup v.log) t.lent_is x.legal);
      }
