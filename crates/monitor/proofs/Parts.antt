-- A caller's part goes from seat to seat, and the rule stays.
use Rattle.std.proofs.Common.{◌≡◌, ℕ, true, false, true≢false, List, [], ◌∷◌, ◌++◌, length, set, sym, ◌∙◌}
use mathlib.Core.Option.{some}
use lib.ListN.{get_elem?}
use Rattle.crossbeam_utils.specs.Register.{Forks, Merges}
use Rattle.monitor.specs.declared.knowledge.View.{View}
use Rattle.monitor.specs.Seats.{nothing, part, without_part, with_part, Whole, ViewHolds, Kept}
use Rattle.monitor.proofs.Histories.{from_nothing, none_told}
use Rattle.monitor.proofs.Places.{off, each_split, each_joined, other_was, fits_nothing, moved, moved_here, free_of, others_move}

pub goes_out : (seat : ℕ) (v : View) → v.calls ≡ true → v.opens ≡ false → Forks Kept seat v (without_part v) (part v)
goes_out seat v calls closed words views h at =
    let whole = h.whole in
    let fit = h.each seat v at in
    let old : List View = set views seat (without_part v) in
    let whole' : Whole = record whole { place = moved whole.place v.number (length old) } in
    let count' : ℕ = length (old ++ part v ∷ []) in
    let c = fit.calls calls in
    let F : ℕ → View → Type 0 = ViewHolds words count' whole' in
    let mine : F seat (without_part v) = record {
      alone = λ e. absurd (true≢false (sym e ∙ closed));
      keeps = fit.keeps;
      calls = λ e. absurd (off e);
      shows = fit.shows;
      seen = from_nothing whole.log;
      told = none_told whole.log;
    } in
    let new : F (length old) (part v) = record {
      alone = λ e. absurd (off e);
      keeps = λ e. absurd (off e);
      calls = λ e. (moved_here whole.place v.number (length old), c.1, c.2, c.3);
      shows = λ e. absurd (off e);
      seen = fit.seen;
      told = fit.told;
    } in record {
      whole = whole';
      sums = h.sums;
      numbered = h.numbered;
      each = each_split F views seat (without_part v) (part v) mine new
          (λ j u apart was. others_move words views count' v.number (length old) whole seat j v u apart at was (free_of words (length views) whole seat j v u apart calls fit (h.each j u was)) (h.each j u was));
    }

pub comes_in : (seat : ℕ) (v : View) (other : ℕ) (w : View) → w.calls ≡ true → v.opens ≡ false → Merges Kept seat v other w (with_part v w) nothing
comes_in seat v other w calls closed words views h at apart there =
    let both = with_part v w in
    let whole = h.whole in
    let fit = h.each seat v at in
    let was : get_elem? views other ≡ some w = other_was views seat other both w apart there in
    let theirs = h.each other w was in
    let c = theirs.calls calls in
    let count' : ℕ = length (set (set views seat both) other nothing) in
    let whole' : Whole = record whole { place = moved whole.place w.number seat } in
    let F : ℕ → View → Type 0 = ViewHolds words count' whole' in
    let mine : F seat both = record {
      alone = λ e. absurd (true≢false (sym e ∙ closed));
      keeps = λ e. let k = fit.keeps e in (k.0, c.1, k.2, k.3);
      calls = λ e. (moved_here whole.place w.number seat, c.1, c.2, c.3);
      shows = λ e. (c.1, (fit.shows e).1);
      seen = theirs.seen;
      told = theirs.told;
    } in record {
      whole = whole';
      sums = h.sums;
      numbered = h.numbered;
      each = each_joined F views seat other both mine (fits_nothing words count' whole' other)
          (λ j u not_seat far e. others_move words views count' w.number seat whole seat j v u not_seat at e (free_of words (length views) whole other j w u far calls theirs (h.each j u e)) (h.each j u e));
    }
