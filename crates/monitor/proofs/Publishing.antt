-- Records are published, the sums are shown again, and a caller looks: each step keeps the rule.
use Rattle.std.proofs.Common.{◌≡◌, ℕ, ◌≤◌, true, false, true≢false, List, [], ◌++◌, length, set, refl, sym, ap, ◌∙◌, subst}
use Rattle.std.proofs.lemmas.List.Elements.{All-append}
use Rattle.crossbeam_utils.specs.Register.{Turns}
use Rattle.world_calls.specs.declared.record.Record.{Record}
use Rattle.world_calls.specs.declared.totals.Totals.{Totals}
use Rattle.world.specs.World.{Setup}
use Rattle.world.specs.TotalsOf.{TotalsOf}
use Rattle.monitor.specs.declared.knowledge.Pair.{Pair}
use Rattle.monitor.specs.declared.knowledge.View.{View}
use Rattle.monitor.specs.LegalHistory.{all_by, records, made_by, StartsWith, LegalHistory}
use Rattle.monitor.specs.Seats.{IsKeeper, HasSums, Say, Whole, ViewHolds, Kept, published, AgreesWith, Extends, ShownAgain, HasLooked}
use Rattle.monitor.proofs.Histories.{all_given, own_more, other_more, longer, itself, all_longer, none_told}
use Rattle.monitor.proofs.Places.{each_set, not_alone, free_of, others_stay}

-- a history that has sums is legal
legal_of : (setup : Setup) (log : List Pair) (totals : Totals) → HasSums setup log totals → LegalHistory setup log
legal_of setup log totals h = (h.sums.0, h.sums.1)

-- the history agrees with a caller's part
agrees : (words : List ℕ) (count : ℕ) (whole : Whole) (seat : ℕ) (v : View) → v.calls ≡ true → v.log ≡ whole.log → ViewHolds words count whole seat v → AgreesWith v.log v
agrees words count whole seat v calls same fit = subst (λ l. AgreesWith l v) (sym same) (record { began = fit.seen; heard = fit.told; own = (fit.calls calls).3 })

pub publishes : (seat : ℕ) (v : View) (made : List Record) (totals : Totals) (new : List ℕ) → v.keeps ≡ true → v.calls ≡ true → v.opens ≡ false → Say new totals → HasSums v.setup (v.log ++ all_by v.number made) totals
    → Turns Kept seat v (λ _. new) (λ v' x y w. Extends v' made w)
publishes seat v made totals new keeps calls closed say sums words views h at =
    let whole = h.whole in
    let fit = h.each seat v at in
    let k = fit.keeps keeps in
    let c = fit.calls calls in
    let more : List Pair = all_by v.number made in
    let same : v.log ≡ whole.log = k.2 in
    let whole' : Whole = record whole { log = whole.log ++ more; totals = totals } in
    let w : View = published made v in
    let same' : v.log ++ more ≡ whole'.log = ap (λ l. l ++ more) same in
    let F : ℕ → View → Type 0 = ViewHolds new (length (set views seat w)) whole' in
    let own : made_by v.number whole'.log ≡ v.mine ++ made = own_more v.number made whole.log v.mine c.3 in
    let mine : F seat w = record {
      alone = λ e. absurd (true≢false (sym e ∙ closed));
      keeps = λ e. (k.0, k.1, same', k.3);
      calls = λ e. (c.0, c.1, c.2, own);
      shows = λ e. (k.1, say);
      seen = subst (λ l. StartsWith l (v.log ++ more)) same' (itself (v.log ++ more));
      told = none_told whole'.log;
    } in (
      w,
      record {
        whole = whole';
        sums = subst (λ (y : Setup × List Pair). HasSums y.0 y.1 totals) (λ i. (k.1 i, same' i)) sums;
        numbered = All-append (λ (q : Pair). q.caller ≤ whole.given) whole.log more h.numbered (all_given v.number whole.given made c.2);
        each = each_set F views seat w mine (λ j u apart there.
            let theirs = h.each j u there in record {
              alone = λ e. absurd (not_alone views j seat u v apart there at (theirs.alone e));
              keeps = λ e. absurd (apart ((theirs.keeps e).0 ∙ sym k.0));
              calls = λ e. let d = theirs.calls e in (d.0, d.1, d.2, other_more v.number u.number made whole.log u.mine (λ is. free_of words (length views) whole seat j v u apart calls fit theirs e (sym is)) d.3);
              shows = λ e. ((theirs.shows e).0, say);
              seen = longer whole.log u.seen more theirs.seen;
              told = all_longer whole.log more u.told theirs.told;
            });
      },
      record {
        after = refl;
        agreed = agrees words (length views) whole seat v calls same fit;
        own = subst (λ l. made_by v.number l ≡ v.mine ++ made) (sym same') own;
        legal = legal_of v.setup (v.log ++ more) totals sums;
      },
    )

pub shows_again : (setup : Setup) (seat : ℕ) (v : View) (log : List Pair) (totals : Totals) (new : List ℕ) → IsKeeper setup v → v.log ≡ log → Say new totals → TotalsOf setup (records log) totals → Turns Kept seat v (λ _. new) ShownAgain
shows_again setup seat v log totals new keeper same say sums words views h at =
    let closed = keeper.closed in
    let whole = h.whole in
    let fit = h.each seat v at in
    let k = fit.keeps keeper.keeps in
    let whole' : Whole = record whole { totals = totals } in
    let w : View = record v { shown = true } in
    let F : ℕ → View → Type 0 = ViewHolds new (length (set views seat w)) whole' in
    let mine : F seat w = record {
      alone = λ e. absurd (true≢false (sym e ∙ closed));
      keeps = fit.keeps;
      calls = fit.calls;
      shows = λ e. (k.1, say);
      seen = fit.seen;
      told = fit.told;
    } in (
      w,
      record {
        whole = whole';
        sums = record { sums = subst (λ (y : Setup × List Pair). TotalsOf y.0 (records y.1) totals) (λ i. ((sym keeper.setup_is ∙ k.1) i, (sym same ∙ k.2) i)) sums };
        numbered = h.numbered;
        each = each_set F views seat w mine (λ j u apart there.
            let theirs = h.each j u there in record {
              alone = λ e. absurd (not_alone views j seat u v apart there at (theirs.alone e));
              keeps = theirs.keeps;
              calls = theirs.calls;
              shows = λ e. ((theirs.shows e).0, say);
              seen = theirs.seen;
              told = theirs.told;
            });
      },
      refl,
    )

pub looks : (seat : ℕ) (v : View) → v.keeps ≡ true → v.calls ≡ true → v.opens ≡ false → Turns Kept seat v (λ x. x) (λ v' x y w. HasLooked v' w)
looks seat v keeps calls closed words views h at =
    let whole = h.whole in
    let fit = h.each seat v at in
    let k = fit.keeps keeps in
    let w : View = record v { seen = v.log; told = [] } in
    let count' : ℕ = length (set views seat w) in
    let F : ℕ → View → Type 0 = ViewHolds words count' whole in
    let mine : F seat w = record {
      alone = λ e. absurd (true≢false (sym e ∙ closed));
      keeps = fit.keeps;
      calls = fit.calls;
      shows = fit.shows;
      seen = subst (StartsWith whole.log) (sym k.2) (itself whole.log);
      told = none_told whole.log;
    } in (
      w,
      record {
        whole = whole;
        sums = h.sums;
        numbered = h.numbered;
        each = each_set F views seat w mine (λ j u apart there. others_stay words views count' whole seat j v u apart at there (h.each j u there));
      },
      record {
        after = refl;
        agreed = agrees words (length views) whole seat v calls k.2 fit;
        legal = subst (λ (y : Setup × List Pair). LegalHistory y.0 y.1) (λ i. (sym k.1 i, sym k.2 i)) (legal_of whole.setup whole.log whole.totals h.sums);
      },
    )
