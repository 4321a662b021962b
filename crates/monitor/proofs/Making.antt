-- A new cell keeps the rule, and so it does as its first seat becomes the keeper's, and as the keeper gives callers' parts out.
use Rattle.std.proofs.Common.{◌≡◌, ℕ, zero, suc, ◌+◌, ◌≤◌, true, false, true≢false, List, [], ◌∷◌, ◌++◌, length, set, refl, sym, ap, ◌∙◌, subst, arith}
use Rattle.std.proofs.lemmas.List.Elements.{All-nil, All-weaker}
use mathlib.Core.Option.{some, some-injective, some-ne-none}
use lib.ListN.{get_elem?}
use Rattle.crossbeam_utils.specs.Register.{Forks}
use Rattle.world_calls.specs.declared.record.Record.{Record}
use Rattle.world.specs.World.{Setup, opening as opening_world}
use Rattle.world.specs.TotalsOf.{TotalsOf, totals_in}
use Rattle.monitor.specs.declared.knowledge.Pair.{Pair}
use Rattle.monitor.specs.declared.knowledge.View.{View}
use Rattle.monitor.specs.LegalHistory.{AreLegal, unshared, StartsWith}
use Rattle.monitor.specs.Nameless.{no_setup}
use Rattle.monitor.specs.Seats.{nothing, opening, keeping, with_caller, new_part, HasSums, Whole, ViewHolds, Kept}
use Rattle.monitor.proofs.Histories.{records_unshared, unshared_by_none, none_yet, itself, from_nothing, none_told}
use Rattle.monitor.proofs.Places.{off, each_split, fits_nothing, not_alone, moved, moved_here, moved_else}

-- before the cell has a name
abbrev unnamed : Whole
unnamed = record { setup = no_setup; log = []; totals = totals_in [] (opening_world no_setup); given = 0; keeper = 0; place = λ n. 0 }

opening_fits : (words : List ℕ) → ViewHolds words 1 unnamed 0 opening
opening_fits words = record {
  alone = λ e. refl;
  keeps = λ e. absurd (off e);
  calls = λ e. absurd (off e);
  shows = λ e. absurd (off e);
  seen = from_nothing [];
  told = none_told [];
}

begins_each : (words : List ℕ) (seat : ℕ) (v : View) → get_elem? (opening ∷ []) seat ≡ some v → ViewHolds words 1 unnamed seat v
begins_each words zero v at = subst (ViewHolds words 1 unnamed 0) (some-injective opening v at) (opening_fits words)
begins_each words (suc seat) v at = absurd (some-ne-none v (sym at))

pub begins : (words : List ℕ) → Kept words (opening ∷ [])
begins words = record {
  whole = unnamed;
  sums = record { sums = (opening_world no_setup, (tt, refl), refl) };
  numbered = All-nil (λ (p : Pair). p.caller ≤ 0);
  each = begins_each words;
}

-- the sums of a history with which an engine begins
first_sums : (setup : Setup) (begun : List Record) (legal : AreLegal setup begun) → HasSums setup (unshared begun) (totals_in begun legal.0)
first_sums setup begun legal = record { sums = subst (λ (rs : List Record). TotalsOf setup rs (totals_in begun legal.0)) (sym (records_unshared begun)) (legal.0, legal.1, refl) }

pub opens : (setup : Setup) (begun : List Record) → AreLegal setup begun → (seat : ℕ) (v : View) → v.opens ≡ true → Forks Kept seat v (keeping setup begun) nothing
opens setup begun legal seat v first words views h at =
    let fit = h.each seat v at in
    let keeper : View = keeping setup begun in
    let log : List Pair = unshared begun in
    let whole' : Whole = record { setup = setup; log = log; totals = totals_in begun legal.0; given = 0; keeper = seat; place = λ n. 0 } in
    let count' : ℕ = length (set views seat keeper ++ nothing ∷ []) in
    let F : ℕ → View → Type 0 = ViewHolds words count' whole' in
    let mine : F seat keeper = record {
      alone = λ e. absurd (off e);
      keeps = λ e. (refl, refl, refl, refl);
      calls = λ e. absurd (off e);
      shows = λ e. absurd (off e);
      seen = from_nothing log;
      told = none_told log;
    } in record {
      whole = whole';
      sums = first_sums setup begun legal;
      numbered = unshared_by_none begun;
      each = each_split F views seat keeper nothing mine (fits_nothing words count' whole' (length (set views seat keeper)))
          (λ j u apart there. absurd (not_alone views j seat u v apart there at (fit.alone first)));
    }

pub gives_out : (seat : ℕ) (v : View) → v.keeps ≡ true → v.opens ≡ false → Forks Kept seat v (with_caller v) (new_part v)
gives_out seat v keeps closed words views h at =
    let whole = h.whole in
    let fit = h.each seat v at in
    let k = fit.keeps keeps in
    let n : ℕ = v.given + 1 in
    let more : n ≡ whole.given + 1 = ap (λ (m : ℕ). m + 1) k.3 in
    let old : List View = set views seat (with_caller v) in
    let whole' : Whole = record whole { given = whole.given + 1; place = moved whole.place n (length old) } in
    let count' : ℕ = length (old ++ new_part v ∷ []) in
    let F : ℕ → View → Type 0 = ViewHolds words count' whole' in
    let elsewhere : (m : ℕ) → m ≤ whole.given → whole'.place m ≡ whole.place m = λ m few. moved_else whole.place n (length old) m (λ (same : m ≡ n). omega arith) in
    let mine : F seat (with_caller v) = record {
      alone = λ e. absurd (true≢false (sym e ∙ closed));
      keeps = λ e. (k.0, k.1, k.2, more);
      calls = λ e. let c = fit.calls e in (elsewhere v.number c.2 ∙ c.0, c.1, omega (arith, c.2), c.3);
      shows = fit.shows;
      seen = fit.seen;
      told = fit.told;
    } in
    let new : F (length old) (new_part v) = record {
      alone = λ e. absurd (off e);
      keeps = λ e. absurd (off e);
      calls = λ e. (moved_here whole.place n (length old), k.1, omega (arith, more), none_yet whole.given n whole.log (omega (arith, more)) h.numbered);
      shows = λ e. absurd (off e);
      seen = subst (StartsWith whole.log) (sym k.2) (itself whole.log);
      told = none_told whole.log;
    } in record {
      whole = whole';
      sums = h.sums;
      numbered = All-weaker (λ (p : Pair). p.caller ≤ whole.given) (λ (p : Pair). p.caller ≤ whole.given + 1) (λ p (few : p.caller ≤ whole.given). omega arith) whole.log h.numbered;
      each = each_split F views seat (with_caller v) (new_part v) mine new
          (λ j u apart there. let theirs = h.each j u there in record {
            alone = λ e. absurd (not_alone views j seat u v apart there at (theirs.alone e));
            keeps = λ e. absurd (apart ((theirs.keeps e).0 ∙ sym k.0));
            calls = λ e. let c = theirs.calls e in (elsewhere u.number c.2 ∙ c.0, c.1, omega (arith, c.2), c.3);
            shows = theirs.shows;
            seen = theirs.seen;
            told = theirs.told;
          });
    }
