-- Runs that are out, each with its handle, one after the other.
use Rattle.std.proofs.Common.{◌≡◌, ℕ, ◌+◌, ◌<◌, ◌≤◌, Bool, true, false, cond, List, [], ◌∷◌, ◌++◌, length, map, suc, take, zero, get_or, refl, sym, ap, subst, ◌∙◌, append-nil, arith}
use Rattle.std.specs.Prelude.{All, filter}
use Rattle.std.specs.Global.{Box}
use Rattle.std.proofs.lemmas.List.{map-append, take_all, take_more}
use Rattle.std.proofs.lemmas.List.Elements.{All-append, All-nil, All-cons, filter_more}
use Rattle.world.specs.World.{LiveRun}
use Rattle.engine_runs.specs.RunPlaces.{HasRunAt}
use Rattle.host_embedding.specs.declared.run_handle.RunHandle.{RunHandle}
use Rattle.host_embedding.specs.Recovering.{AreOut, HoldsOut, IsNextOut}

abbrev pub is_out : LiveRun → Bool
is_out run = run.out

abbrev pub number_in : LiveRun → ℕ
number_in run = run.number

abbrev pub number_of : Box RunHandle → ℕ
number_of handle = handle.value.number

-- the runs that are out up to this place have the first so many handles
pub record AreListed (runs : List LiveRun) (handles : List (Box RunHandle)) (place count : ℕ) : Type 0 where
  pub few : count ≤ length handles
  pub numbers : map number_of (take count handles) ≡ map number_in (filter is_out (take place runs))
  pub out : All (λ handle. HoldsOut runs handle.value) (take count handles)

pub none_yet : (runs : List LiveRun) (handles : List (Box RunHandle)) → AreListed runs handles 0 0
none_yet runs handles = record { few = omega arith; numbers = refl; out = All-nil _ }

-- what the run at the next place adds
adds : (runs : List LiveRun) (place : ℕ) (it : LiveRun) (test : Bool) → place < length runs → it ≡ get_or runs place it → it.out ≡ test
    → filter is_out (take (place + 1) runs) ≡ filter is_out (take place runs) ++ cond test (it ∷ []) []
adds runs place it test below is tested =
    filter_more is_out runs place it below
    ∙ ap (λ (x : LiveRun). filter is_out (take place runs) ++ cond (is_out x) (x ∷ []) []) (sym is)
    ∙ ap (λ (b : Bool). filter is_out (take place runs) ++ cond b (it ∷ []) []) tested

pub skipped : (runs : List LiveRun) (handles : List (Box RunHandle)) (place count : ℕ) (it : LiveRun) → AreListed runs handles place count → HasRunAt runs place it → it.out ≡ false → AreListed runs handles (place + 1) count
skipped runs handles place count it listed at parked = record {
  few = listed.few;
  numbers = listed.numbers ∙ ap (map number_in) (sym (adds runs place it false at.within (sym at.here) parked ∙ append-nil (filter is_out (take place runs))));
  out = listed.out;
}

pub added : (runs : List LiveRun) (handles : List (Box RunHandle)) (place count : ℕ) (it : LiveRun) → AreListed runs handles place count → HasRunAt runs place it → it.out ≡ true → IsNextOut runs place handles count → AreListed runs handles (place + 1) (count + 1)
added runs handles place count it listed at out next =
    let before = filter is_out (take place runs) in
    let more : filter is_out (take (place + 1) runs) ≡ before ++ it ∷ [] = adds runs place it true at.within (sym at.here) out in
    let taken : take (count + 1) handles ≡ take count handles ++ next.handle ∷ [] =
    take_more handles count next.handle next.within ∙ ap (λ (h : Box RunHandle). take count handles ++ h ∷ []) (sym next.here) in
    record {
      few = omega (arith, next.within);
      numbers = ap (map number_of) taken ∙ (map-append number_of (take count handles) (next.handle ∷ [])
          ∙ (ap (λ (ns : List ℕ). ns ++ number_of next.handle ∷ []) listed.numbers ∙ (ap (λ (n : ℕ). map number_in before ++ n ∷ []) (next.number it at)
          ∙ (sym (map-append number_in before (it ∷ [])) ∙ ap (map number_in) (sym more)))));
      out = subst (λ (hs : List (Box RunHandle)). All (λ handle. HoldsOut runs handle.value) hs) (sym taken) (All-append (λ (handle : Box RunHandle). HoldsOut runs handle.value) (take count handles) (next.handle ∷ []) listed.out (All-cons (λ (handle : Box RunHandle). HoldsOut runs handle.value) next.handle [] next.out (All-nil (λ (handle : Box RunHandle). HoldsOut runs handle.value))));
    }

-- these are all
pub all_listed : (runs : List LiveRun) (handles : List (Box RunHandle)) (place count : ℕ) → AreListed runs handles place count → length runs ≤ place → count ≡ length handles → AreOut runs handles
all_listed runs handles place count listed all is =
    let whole : take count handles ≡ handles = take_all count handles (omega (arith, is)) in
    record {
      numbers = ap (map number_of) (sym whole) ∙ (listed.numbers ∙ ap (λ (rs : List LiveRun). map number_in (filter is_out rs)) (take_all place runs all));
      out = subst (λ (hs : List (Box RunHandle)). All (λ handle. HoldsOut runs handle.value) hs) whole listed.out;
    }

-- a run stands at each place
pub there : (runs : List LiveRun) (place : ℕ) → place < length runs → (it : LiveRun) × HasRunAt runs place it
there [] place some = absurd (omega (arith, some))
there (run ∷ runs) zero some = (run, record { within = some; here = refl })
there (run ∷ runs) (suc place) some =
    let it = there runs place (omega (arith, some)) in
    (it.0, record { within = some; here = it.1.here })
