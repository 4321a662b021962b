-- The keeper gives a watch out, a watch reads, a caller tells what it has seen, and another seat learns it: the rule stays.
use Rattle.std.specs.Prelude.{slice_index}
use Rattle.std.proofs.Common.{◌≡◌, ℕ, ap, true, false, true≢false, List, [], ◌∷◌, ◌++◌, length, set, refl, sym, ◌∙◌, subst}
use Rattle.std.proofs.lemmas.List.Elements.{All-cons, All-append}
use Rattle.crossbeam_utils.specs.Register.{Turns, Forks, Merges}
use Rattle.world_calls.specs.declared.totals.Totals.{Totals}
use Rattle.world.specs.World.{Setup}
use Rattle.world.specs.TotalsOf.{TotalsOf}
use Rattle.monitor.specs.declared.knowledge.View.{View}
use Rattle.monitor.specs.LegalHistory.{records, StartsWith}
use Rattle.monitor.specs.Seats.{nothing, watching, receipt, informed, watch_state, IsKeeper, HasSums, Whole, ViewHolds, Kept, HasRead}
use Rattle.monitor.specs.Telling.{WatchState, Reads}
use Rattle.monitor.proofs.Histories.{itself, from_nothing, none_told}
use Rattle.monitor.proofs.Places.{off, each_set, each_split, each_joined, other_was, fits_nothing, others_stay}

-- what a seat knows that stays as it is, where there are more seats
stays : (words : List ℕ) (count count' : ℕ) (whole : Whole) (seat : ℕ) (v : View) → v.opens ≡ false → ViewHolds words count whole seat v → ViewHolds words count' whole seat v
stays words count count' whole seat v closed fit = record {
  alone = λ e. absurd (true≢false (sym e ∙ closed));
  keeps = fit.keeps;
  calls = fit.calls;
  shows = fit.shows;
  seen = fit.seen;
  told = fit.told;
}

keeps_watching : (seat : ℕ) (v : View) → v.keeps ≡ true → v.shown ≡ true → v.opens ≡ false → Forks Kept seat v v (watching v)
keeps_watching seat v keeps shown closed words views h at =
    let whole = h.whole in
    let fit = h.each seat v at in
    let k = fit.keeps keeps in
    let old : List View = set views seat v in
    let count' : ℕ = length (old ++ watching v ∷ []) in
    let F : ℕ → View → Type 0 = ViewHolds words count' whole in
    let new : F (length old) (watching v) = record {
      alone = λ e. absurd (off e);
      keeps = λ e. absurd (off e);
      calls = λ e. absurd (off e);
      shows = λ e. fit.shows shown;
      seen = subst (StartsWith whole.log) (sym k.2) (itself whole.log);
      told = none_told whole.log;
    } in record {
      whole = whole;
      sums = h.sums;
      numbered = h.numbered;
      each = each_split F views seat v (watching v) (stays words (length views) count' whole seat v closed fit) new
          (λ j u apart there. others_stay words views count' whole seat j v u apart at there (h.each j u there));
    }

-- the keeper lets one watch once it has shown the sums
pub lets_watch : (setup : Setup) (seat : ℕ) (v shown : View) → IsKeeper setup v → shown ≡ record v { shown = true } → Forks Kept seat shown shown (watching shown)
lets_watch setup seat v shown keeper is =
    subst (λ (u : View). Forks Kept seat u u (watching u)) (sym is) (keeps_watching seat (record v { shown = true }) keeper.keeps refl keeper.closed)

pub reads : (seat : ℕ) (v : View) → v.shown ≡ true → v.opens ≡ false → Turns Kept seat v (λ x. x) (λ v' x y w. HasRead v' y w)
reads seat v shown closed words views h at =
    let whole = h.whole in
    let fit = h.each seat v at in
    let s = fit.shows shown in
    let w : View = record v { seen = whole.log; told = [] } in
    let count' : ℕ = length (set views seat w) in
    let F : ℕ → View → Type 0 = ViewHolds words count' whole in
    let mine : F seat w = record {
      alone = λ e. absurd (true≢false (sym e ∙ closed));
      keeps = fit.keeps;
      calls = fit.calls;
      shows = fit.shows;
      seen = itself whole.log;
      told = none_told whole.log;
    } in (
      w,
      record {
        whole = whole;
        sums = h.sums;
        numbered = h.numbered;
        each = each_set F views seat w mine (λ j u apart there. others_stay words views count' whole seat j v u apart at there (h.each j u there));
      },
      record {
        after = refl;
        began = fit.seen;
        heard = fit.told;
        totals = whole.totals;
        said = s.1;
        sums = subst (λ (y : Setup). HasSums y whole.log whole.totals) (sym s.0) h.sums;
      },
    )

pub tells : (seat : ℕ) (v : View) → v.opens ≡ false → Forks Kept seat v v (receipt v)
tells seat v closed words views h at =
    let whole = h.whole in
    let fit = h.each seat v at in
    let old : List View = set views seat v in
    let count' : ℕ = length (old ++ receipt v ∷ []) in
    let F : ℕ → View → Type 0 = ViewHolds words count' whole in
    let new : F (length old) (receipt v) = record {
      alone = λ e. absurd (off e);
      keeps = λ e. absurd (off e);
      calls = λ e. absurd (off e);
      shows = λ e. absurd (off e);
      seen = from_nothing whole.log;
      told = All-cons (StartsWith whole.log) v.seen v.told fit.seen fit.told;
    } in record {
      whole = whole;
      sums = h.sums;
      numbered = h.numbered;
      each = each_split F views seat v (receipt v) (stays words (length views) count' whole seat v closed fit) new
          (λ j u apart there. others_stay words views count' whole seat j v u apart at there (h.each j u there));
    }

pub hears : (seat : ℕ) (v : View) (other : ℕ) (w : View) → v.opens ≡ false → Merges Kept seat v other w (informed v w) nothing
hears seat v other w closed words views h at apart there =
    let both = informed v w in
    let whole = h.whole in
    let fit = h.each seat v at in
    let theirs = h.each other w (other_was views seat other both w apart there) in
    let count' : ℕ = length (set (set views seat both) other nothing) in
    let F : ℕ → View → Type 0 = ViewHolds words count' whole in
    let mine : F seat both = record {
      alone = λ e. absurd (true≢false (sym e ∙ closed));
      keeps = fit.keeps;
      calls = fit.calls;
      shows = fit.shows;
      seen = fit.seen;
      told = All-append (StartsWith whole.log) w.told v.told theirs.told fit.told;
    } in record {
      whole = whole;
      sums = h.sums;
      numbered = h.numbered;
      each = each_joined F views seat other both mine (fits_nothing words count' whole other)
          (λ j u not_seat far e. others_stay words views count' whole seat j v u not_seat at e (h.each j u e));
    }

-- the words that a watch read are the sums of what it then has seen
abbrev pub told_by : List ℕ → Totals
told_by words = record { history = slice_index words 0; frozen = slice_index words 1; active = slice_index words 2; runs = slice_index words 3 }

pub has_read : (setup : Setup) (v : View) (words : List ℕ) (w : View) (before : WatchState) → watch_state v ≡ before → v.setup ≡ setup → HasRead v words w → Reads setup before (told_by words) (watch_state w)
has_read setup v words w before is at x =
    let same : x.totals ≡ told_by words = λ i. record { history = sym x.said.history i; frozen = sym x.said.frozen i; active = sym x.said.active i; runs = sym x.said.runs i } in
    subst (λ (s : WatchState). Reads setup s (told_by words) (watch_state w)) is
    (record {
      began = x.began;
      heard = x.heard;
      none_told = ap (λ (u : View). u.told) x.after;
      sums = subst (λ (y : Setup × Totals). TotalsOf y.0 (records w.seen) y.1) (λ i. (at i, same i)) x.sums.sums;
    })
