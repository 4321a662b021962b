-- The records of runs, by place, and the live runs that they are: what is found, changed and removed.
use Rattle.std.proofs.Common.{◌≡◌, ℕ, ◌<◌, List, [], ◌∷◌, ◌++◌, ◌+◌, map, length, get_or, set, not, eqb, Option, Some, None, Contains, inl, inr, refl, ap, sym, subst, ◌∙◌, arith}
use Rattle.std.specs.List.{remove, HoldsAt, filter}
use Rattle.std.specs.Option.{IfSome, IfNone}
use Rattle.std.proofs.lemmas.List.{length-map, get_or-map, map_push, map-set, set-get_or}
use Rattle.std.proofs.lemmas.Bool.{cases_eq}
use Rattle.std.proofs.lemmas.Simd.{map-map}
use Rattle.world.specs.World.{LiveRun}
use Rattle.ccb.specs.Rising.{AreRising}
use Rattle.cam_numbered_slots.specs.NumberedState.{NumberedState, IsPlaceOf as HasNumberAt}
use Rattle.cam_numbered_slots.proofs.Found.{absent, stands}
use Rattle.cam_numbered_slots.proofs.Numbers.{map_remove}
use Rattle.world.specs.Lookups.{run_of, with_run}
use Rattle.world.proofs.Lists.Found.{at, at_head, at_tail, missing_push}
use Rattle.world.proofs.Lists.Rising.{missing_high}
use Rattle.world.proofs.Lists.Placed.{found_at, set_is_put, remove_is_leave}
use Rattle.engine_runs.specs.declared.run_record.RunRecord.{RunRecord}
use Rattle.engine_runs.specs.Invariant.{KeepsRuns}
use Rattle.engine_runs.specs.RunPlaces.{HasRunAt}
use Rattle.engine_runs.specs.LiveRuns.{live_of, lives_of, number_of}

abbrev pub key_of : RunRecord → ℕ
key_of it = it.number

abbrev pub Rises : List RunRecord → ℕ → Type 0
Rises rs greatest = AreRising 0 (map number_of (lives_of rs)) greatest

-- the records' own numbers rise
pub own : (rs : List RunRecord) (greatest : ℕ) → Rises rs greatest → AreRising 0 (map key_of rs) greatest
own rs greatest h = subst (λ (ns : List ℕ). AreRising 0 ns greatest) (map-map number_of live_of rs) h

pub lives_length : (rs : List RunRecord) (k : ℕ) → k < length rs → k < length (lives_of rs)
lives_length rs k l = omega (arith, length-map rs live_of)

pub live_at : (rs : List RunRecord) (k n : ℕ) (d : RunRecord) → k < length rs → (get_or rs k d).number ≡ n → number_of (get_or (lives_of rs) k (live_of d)) ≡ n
live_at rs k n d l e = ap number_of (get_or-map live_of rs k d (live_of d) l) ∙ e

pub record_found : (rs : List RunRecord) (greatest k n : ℕ) (d : RunRecord) → Rises rs greatest → k < length rs → (get_or rs k d).number ≡ n → run_of n (lives_of rs) ≡ Some (live_of (get_or rs k d))
record_found rs greatest k n d h l e =
    found_at number_of 0 (lives_of rs) greatest k n (live_of d) (lives_length rs k l) h (live_at rs k n d l e)
    ∙ ap Some (get_or-map live_of rs k d (live_of d) l)

missing_live : (n : ℕ) (rs : List RunRecord) → at key_of n rs ≡ None → run_of n (lives_of rs) ≡ None
missing_live n [] e = refl
missing_live n (r ∷ rs) e =
    elim (cases_eq r.number n) [
      | inl same ↦ absurd (let bad : Some r ≡ None = sym (at_head key_of n r rs same) ∙ e in cc)
      | inr other ↦ at_tail number_of n (live_of r) (lives_of rs) other ∙ missing_live n rs (sym (at_tail key_of n r rs other) ∙ e)
    ]

-- a change that keeps the number
pub record_changed : (rs : List RunRecord) (greatest k : ℕ) (c d : RunRecord) → Rises rs greatest → k < length rs → (get_or rs k d).number ≡ c.number → lives_of (set rs k c) ≡ with_run (live_of c) (lives_of rs)
record_changed rs greatest k c d h l e =
    map-set live_of rs k c
    ∙ set_is_put number_of 0 (lives_of rs) greatest k (live_of c) (live_of d) (lives_length rs k l) h (live_at rs k c.number d l e)

-- a change of one record that changes nothing of what is seen of it
pub record_kept : {A : Type 0} (f : RunRecord → A) (rs : List RunRecord) (k : ℕ) (r c : RunRecord) → k < length rs → r ≡ get_or rs k r → f c ≡ f r → map f (set rs k c) ≡ map f rs
record_kept f rs k r c l is same =
    map-set f rs k c
    ∙ (ap (λ x. set (map f rs) k x) (same ∙ (ap f is ∙ sym (get_or-map f rs k r (f r) l)))
    ∙ set-get_or (map f rs) k (f r))

-- what is seen of the record at a place
pub seen_at : {A : Type 0} (f : RunRecord → A) (rs : List RunRecord) (k : ℕ) (r : RunRecord) (d : A) → k < length rs → r ≡ get_or rs k r → f r ≡ get_or (map f rs) k d
seen_at f rs k r d l is = ap f is ∙ sym (get_or-map f rs k r d l)

-- one fewer
pub record_removed : (rs : List RunRecord) (greatest k n : ℕ) (d : RunRecord) → Rises rs greatest → k < length rs → (get_or rs k d).number ≡ n → lives_of (remove rs k) ≡ filter (λ (it : LiveRun). not (eqb it.number n)) (lives_of rs)
record_removed rs greatest k n d h l e =
    map_remove live_of rs k l
    ∙ remove_is_leave number_of 0 (lives_of rs) greatest k n (live_of d) (lives_length rs k l) h (live_at rs k n d l e)

-- the run at a place, and the record there
pub run_at : (rs : List RunRecord) (place : ℕ) (it : LiveRun) (r : RunRecord) → HasRunAt (lives_of rs) place it → r ≡ get_or rs place r → (place < length rs) × (live_of r ≡ it)
run_at rs place it r at stands =
    let l : place < length rs = omega (arith, at.within, length-map rs live_of) in
    (l, ap live_of stands ∙ (sym (get_or-map live_of rs place r it l) ∙ at.here))

pub has_run_at : (rs : List RunRecord) (place : ℕ) (r : RunRecord) → place < length rs → r ≡ get_or rs place r → HasRunAt (lives_of rs) place (live_of r)
has_run_at rs place r l stands = record {
  within = lives_length rs place l;
  here = get_or-map live_of rs place r (live_of r) l ∙ ap live_of (sym stands);
}

-- what a look-up by number says of the runs
pub looked_up : (s : NumberedState RunRecord) (greatest n : ℕ) (o : Option ℕ) → KeepsRuns s greatest → IfSome o (HasNumberAt n s.numbers) → IfNone o (Contains s.numbers n → ⊥) → IfSome o (λ p. p < length s.values) × IfSome o (HoldsAt (λ it. run_of n (lives_of s.values) ≡ Some (live_of it)) s.values) × IfNone o (run_of n (lives_of s.values) ≡ None)
looked_up s greatest n None k found none =
    (tt, tt, missing_live n s.values (absent key_of n s.values (subst (λ (ns : List ℕ). Contains ns n → ⊥) k.numbered none)))
looked_up s greatest n (Some place) k found none =
    let it = stands key_of n s.numbers s.values place k.numbered found in
    (it.0, λ d. record_found s.values greatest place n d k.rising it.0 (it.1 d), tt)

-- the run that stands at a place that was found
pub found_there : (rs : List RunRecord) (n place : ℕ) (d : RunRecord) → (place < length rs) × ((e : RunRecord) → run_of n (lives_of rs) ≡ Some (live_of (get_or rs place e))) → (it : LiveRun) × (run_of n (lives_of rs) ≡ Some it) × HasRunAt (lives_of rs) place it
found_there rs n place d at = (
  live_of (get_or rs place d),
  at.1 d,
  record {
    within = lives_length rs place at.0;
    here = get_or-map live_of rs place d (live_of (get_or rs place d)) at.0;
  },
)

-- the run that was pushed is found by its number
pub found_last : (rs items : List RunRecord) (r : RunRecord) (greatest : ℕ) → AreRising 0 (map number_of (lives_of rs)) greatest → items ≡ rs ++ r ∷ [] → r.number ≡ greatest + 1 → run_of (greatest + 1) (lives_of items) ≡ Some (live_of r)
found_last rs items r greatest h is number =
    ap (λ (xs : List RunRecord). run_of (greatest + 1) (lives_of xs)) is
    ∙ (ap (run_of (greatest + 1)) (map_push live_of rs r)
    ∙ (missing_push number_of (greatest + 1) (lives_of rs) (live_of r) (missing_high number_of 0 (lives_of rs) greatest (greatest + 1) (omega arith) h)
    ∙ at_head number_of (greatest + 1) (live_of r) [] number))
