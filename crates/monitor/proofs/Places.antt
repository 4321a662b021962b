-- The seats of the cell: one that changes, one that is new, and where each caller's part is.
use Rattle.std.proofs.Common.{◌≡◌, ◌≢◌, ◌⊎◌, ℕ, zero, suc, ◌<◌, ◌==◌, if◌then◌else◌, Bool, true, false, true≢false, List, [], ◌∷◌, ◌++◌, length, set, refl, sym, ap, ◌∙◌, subst, inl, inr, ⊎_elim, eq-eqb, ne_eqb, arith}
use mathlib.Core.Option.{some, some-injective, some-ne-none}
use lib.ListN.{get_elem?}
use Rattle.atomic_table.proofs.Lists.{at_set}
use Rattle.monitor.specs.declared.knowledge.View.{View}
use Rattle.monitor.specs.Seats.{nothing, Whole, ViewHolds}
use Rattle.monitor.proofs.Histories.{from_nothing, none_told}

pub off : false ≡ true → ⊥
off e = true≢false (sym e)

pub below : {A : Type 0} (l : List A) (j : ℕ) (a : A) → get_elem? l j ≡ some a → j < length l
below [] j a e = absurd (some-ne-none a (sym e))
below (x ∷ xs) zero a e = omega arith
below (x ∷ xs) (suc j) a e = let less : j < length xs = below xs j a e in omega arith

pub last_or_before : {A : Type 0} (l : List A) (a b : A) (j : ℕ) → get_elem? (l ++ a ∷ []) j ≡ some b → (get_elem? l j ≡ some b) ⊎ ((j ≡ length l) × (a ≡ b))
last_or_before [] a b zero e = inr (refl, some-injective a b e)
last_or_before [] a b (suc j) e = absurd (some-ne-none b (sym e))
last_or_before (x ∷ xs) a b zero e = inl e
last_or_before (x ∷ xs) a b (suc j) e = ⊎_elim (λ h. inl h) (λ h. inr (ap suc h.0, h.1)) (last_or_before xs a b j e)

-- a fact of each seat, after one has changed
pub each_set : (F : ℕ → View → Type 0) (views : List View) (seat : ℕ) (w : View) → F seat w → ((j : ℕ) (u : View) → j ≢ seat → get_elem? views j ≡ some u → F j u) → (j : ℕ) (u : View) → get_elem? (set views seat w) j ≡ some u → F j u
each_set F views seat w mine others j u e = ⊎_elim (λ (x : (j ≡ seat) × (w ≡ u)). subst (λ (y : ℕ × View). F y.0 y.1) (λ i. (sym x.0 i, x.1 i)) mine)
    (λ (x : (j ≢ seat) × (get_elem? views j ≡ some u)). others j u x.0 x.1) (at_set views seat j w u e)

-- and after there is one more besides
pub each_split : (F : ℕ → View → Type 0) (views : List View) (seat : ℕ) (w new : View) → F seat w → F (length (set views seat w)) new → ((j : ℕ) (u : View) → j ≢ seat → get_elem? views j ≡ some u → F j u) → (j : ℕ) (u : View) → get_elem? (set views seat w ++ new ∷ []) j ≡ some u → F j u
each_split F views seat w new mine last others j u e = ⊎_elim
    (λ before. each_set F views seat w mine others j u before)
    (λ (x : (j ≡ length (set views seat w)) × (new ≡ u)). subst (λ (y : ℕ × View). F y.0 y.1) (λ i. (sym x.0 i, x.1 i)) last)
    (last_or_before (set views seat w) new u j e)

-- and after one took another in, which is used up
pub each_joined : (F : ℕ → View → Type 0) (views : List View) (seat other : ℕ) (w : View) → F seat w → F other nothing → ((j : ℕ) (u : View) → j ≢ seat → j ≢ other → get_elem? views j ≡ some u → F j u) → (j : ℕ) (u : View) → get_elem? (set (set views seat w) other nothing) j ≡ some u → F j u
each_joined F views seat other w mine none others = each_set F (set views seat w) other nothing none
    (λ j u far e. ⊎_elim (λ (x : (j ≡ seat) × (w ≡ u)). subst (λ (y : ℕ × View). F y.0 y.1) (λ i. (sym x.0 i, x.1 i)) mine)
    (λ (x : (j ≢ seat) × (get_elem? views j ≡ some u)). others j u x.0 far x.1) (at_set views seat j w u e))

-- what the other seat was before
pub other_was : (views : List View) (seat other : ℕ) (both w : View) → other ≢ seat → get_elem? (set views seat both) other ≡ some w → get_elem? views other ≡ some w
other_was views seat other both w apart there = ⊎_elim (λ (t : (other ≡ seat) × (both ≡ w)). absurd (apart t.0)) (λ (t : (other ≢ seat) × (get_elem? views other ≡ some w)). t.1) (at_set views seat other both w there)

-- a seat that knows nothing fits always
pub fits_nothing : (words : List ℕ) (count : ℕ) (whole : Whole) (seat : ℕ) → ViewHolds words count whole seat nothing
fits_nothing words count whole seat = record {
  alone = λ e. absurd (off e);
  keeps = λ e. absurd (off e);
  calls = λ e. absurd (off e);
  shows = λ e. absurd (off e);
  seen = from_nothing whole.log;
  told = none_told whole.log;
}

-- the only seat has no other beside it
pub not_alone : (views : List View) (j seat : ℕ) (u v : View) → j ≢ seat → get_elem? views j ≡ some u → get_elem? views seat ≡ some v → length views ≡ 1 → ⊥
not_alone views j seat u v apart there at one = let a : j < length views = below views j u there in let b : seat < length views = below views seat v at in apart (omega arith)

-- where the part of each caller is, once one has gone elsewhere
abbrev pub moved : (ℕ → ℕ) → ℕ → ℕ → ℕ → ℕ
moved place n to m = if m == n then to else place m

pub moved_here : (place : ℕ → ℕ) (n to : ℕ) → moved place n to n ≡ to
moved_here place n to = subst (λ (b : Bool). (if b then to else place n) ≡ to) (sym (eq-eqb n n refl)) refl

pub moved_else : (place : ℕ → ℕ) (n to m : ℕ) → m ≢ n → moved place n to m ≡ place m
moved_else place n to m apart = subst (λ (b : Bool). (if b then to else place m) ≡ place m) (sym (ne_eqb m n apart)) refl

-- no other seat has the part of the same caller
pub free_of : (words : List ℕ) (count : ℕ) (whole : Whole) (seat j : ℕ) (v u : View) → j ≢ seat → v.calls ≡ true → ViewHolds words count whole seat v → ViewHolds words count whole j u → u.calls ≡ true → u.number ≢ v.number
free_of words count whole seat j v u apart calls fit other e same = apart (sym (other.calls e).0 ∙ ap whole.place same ∙ (fit.calls calls).0)

-- what another seat knows, where there may be more seats
pub others_stay : (words : List ℕ) (views : List View) (count' : ℕ) (whole : Whole) (seat j : ℕ) (v u : View) → j ≢ seat → get_elem? views seat ≡ some v → get_elem? views j ≡ some u → ViewHolds words (length views) whole j u → ViewHolds words count' whole j u
others_stay words views count' whole seat j v u apart at there fit = record {
  alone = λ e. absurd (not_alone views j seat u v apart there at (fit.alone e));
  keeps = fit.keeps;
  calls = fit.calls;
  shows = fit.shows;
  seen = fit.seen;
  told = fit.told;
}

-- and where one part moves besides
pub others_move : (words : List ℕ) (views : List View) (count' n to : ℕ) (whole : Whole) (seat j : ℕ) (v u : View) → j ≢ seat → get_elem? views seat ≡ some v → get_elem? views j ≡ some u
    → (u.calls ≡ true → u.number ≢ n) → ViewHolds words (length views) whole j u → ViewHolds words count' (record whole { place = moved whole.place n to }) j u
others_move words views count' n to whole seat j v u apart at there free fit = record {
  alone = λ e. absurd (not_alone views j seat u v apart there at (fit.alone e));
  keeps = fit.keeps;
  calls = λ e. let c = fit.calls e in (moved_else whole.place n to u.number (free e) ∙ c.0, c.1, c.2, c.3);
  shows = fit.shows;
  seen = fit.seen;
  told = fit.told;
}
