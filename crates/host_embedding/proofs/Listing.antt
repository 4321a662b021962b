-- Live CCBs that are listed one after the other.
use Rattle.std.proofs.Common.{◌≡◌, ℕ, ◌+◌, ◌<◌, ◌≤◌, Bool, true, false, cond, List, [], ◌∷◌, ◌++◌, length, map, take, drop, get_or, refl, sym, ap, ◌∙◌, ◌⊎◌, inl, inr, append-nil, arith}
use Rattle.std.specs.Prelude.{filter, min, nat_le}
use Rattle.std.proofs.lemmas.Bool.{cases_lt}
use Rattle.std.proofs.lemmas.Bool.Decides.{nat_tests}
use Rattle.std.proofs.lemmas.List.{length-append, map-append, take-append-drop, take-append-le, take_all}
use Rattle.std.proofs.lemmas.List.Elements.{filter-append, filter_more}
use Rattle.world.specs.Capacities.{most_ccbs}
use Rattle.world.specs.Flat.{flat}
use Rattle.world.specs.World.{LiveCcb}
use Rattle.world_laws.proofs.Sound.{run_sound}
use Rattle.engine_core.specs.EngineState.{EngineState, IsRun}
use Rattle.host_embedding.specs.Ccbs.{ListsCcbs, ccbs_from, state_number}
use Rattle.host_embedding.proofs.Lines.{same_behind}

abbrev pub is_from : ℕ → LiveCcb → Bool
is_from from it = nat_le from it.ccb.number.0

abbrev pub number_in : LiveCcb → ℕ
number_in it = it.ccb.number.0

abbrev pub state_in : LiveCcb → ℕ
state_in it = state_number it.state

-- of the CCBs up to this place, those from this number on are listed, and are so many
pub record AreListed (live : List LiveCcb) (from : ℕ) (numbers states later_numbers later_states : List ℕ) (place count : ℕ) : Type 0 where
  pub count_is : count ≡ length (filter (is_from from) (take place live))
  pub numbers_fit : count ≤ length numbers
  pub states_fit : count ≤ length states
  pub numbers_are : take count later_numbers ≡ map number_in (filter (is_from from) (take place live))
  pub states_are : take count later_states ≡ map state_in (filter (is_from from) (take place live))
  pub numbers_stay : drop count later_numbers ≡ drop count numbers
  pub states_stay : drop count later_states ≡ drop count states
  pub numbers_size : length later_numbers ≡ length numbers
  pub states_size : length later_states ≡ length states

pub none_yet : (live : List LiveCcb) (from : ℕ) (numbers states : List ℕ) → AreListed live from numbers states numbers states 0 0
none_yet live from numbers states = record {
  count_is = refl;
  numbers_fit = omega arith;
  states_fit = omega arith;
  numbers_are = refl;
  states_are = refl;
  numbers_stay = refl;
  states_stay = refl;
  numbers_size = refl;
  states_size = refl;
}

-- what the CCB at the next place adds
adds : (from : ℕ) (live : List LiveCcb) (place : ℕ) (it : LiveCcb) (test : Bool) → place < length live → it ≡ get_or live place it → is_from from it ≡ test
    → filter (is_from from) (take (place + 1) live) ≡ filter (is_from from) (take place live) ++ cond test (it ∷ []) []
adds from live place it test below is tested =
    filter_more (is_from from) live place it below
    ∙ ap (λ (x : LiveCcb). filter (is_from from) (take place live) ++ cond (is_from from x) (x ∷ []) []) (sym is)
    ∙ ap (λ (b : Bool). filter (is_from from) (take place live) ++ cond b (it ∷ []) []) tested

pub skipped : (live : List LiveCcb) (from : ℕ) (numbers states later_numbers later_states : List ℕ) (place count : ℕ) (it : LiveCcb) → AreListed live from numbers states later_numbers later_states place count
    → place < length live → it ≡ get_or live place it → is_from from it ≡ false → AreListed live from numbers states later_numbers later_states (place + 1) count
skipped live from numbers states later_numbers later_states place count it listed below is not_from =
    let same : filter (is_from from) (take (place + 1) live) ≡ filter (is_from from) (take place live) =
    adds from live place it false below is not_from ∙ append-nil (filter (is_from from) (take place live)) in
    record {
      count_is = listed.count_is ∙ ap (λ (xs : List LiveCcb). length xs) (sym same);
      numbers_fit = listed.numbers_fit;
      states_fit = listed.states_fit;
      numbers_are = listed.numbers_are ∙ ap (map number_in) (sym same);
      states_are = listed.states_are ∙ ap (map state_in) (sym same);
      numbers_stay = listed.numbers_stay;
      states_stay = listed.states_stay;
      numbers_size = listed.numbers_size;
      states_size = listed.states_size;
    }

pub added : (live : List LiveCcb) (from : ℕ) (numbers states later_numbers later_states next_numbers next_states : List ℕ) (place count number state : ℕ) (it : LiveCcb)
    → AreListed live from numbers states later_numbers later_states place count → place < length live → it ≡ get_or live place it → is_from from it ≡ true
    → number ≡ number_in it → state ≡ state_in it → count < length numbers → count < length states
    → take (count + 1) next_numbers ≡ take count later_numbers ++ number ∷ [] → drop (count + 1) next_numbers ≡ drop (count + 1) later_numbers → length next_numbers ≡ length later_numbers
    → take (count + 1) next_states ≡ take count later_states ++ state ∷ [] → drop (count + 1) next_states ≡ drop (count + 1) later_states → length next_states ≡ length later_states
    → AreListed live from numbers states next_numbers next_states (place + 1) (count + 1)
added live from numbers states later_numbers later_states next_numbers next_states place count number state it listed below is is_later number_is state_is numbers_fit states_fit numbers_put numbers_kept numbers_size states_put states_kept states_size =
    let before = filter (is_from from) (take place live) in
    let more : filter (is_from from) (take (place + 1) live) ≡ before ++ it ∷ [] = adds from live place it true below is is_later in
    record {
      count_is = ap (λ (n : ℕ). n + 1) listed.count_is ∙ sym (ap (λ (xs : List LiveCcb). length xs) more ∙ length-append before (it ∷ []));
      numbers_fit = omega (arith, numbers_fit);
      states_fit = omega (arith, states_fit);
      numbers_are = numbers_put ∙ ap (λ (xs : List ℕ). xs ++ number ∷ []) listed.numbers_are ∙ ap (λ (n : ℕ). map number_in before ++ n ∷ []) number_is
          ∙ sym (map-append number_in before (it ∷ [])) ∙ ap (map number_in) (sym more);
      states_are = states_put ∙ ap (λ (xs : List ℕ). xs ++ state ∷ []) listed.states_are ∙ ap (λ (n : ℕ). map state_in before ++ n ∷ []) state_is
          ∙ sym (map-append state_in before (it ∷ [])) ∙ ap (map state_in) (sym more);
      numbers_stay = same_behind numbers later_numbers next_numbers count (count + 1) (omega arith) listed.numbers_stay numbers_kept;
      states_stay = same_behind states later_states next_states count (count + 1) (omega arith) listed.states_stay states_kept;
      numbers_size = numbers_size ∙ listed.numbers_size;
      states_size = states_size ∙ listed.states_size;
    }

-- those up to a place are the first of all
first_of : (from : ℕ) (live : List LiveCcb) (place : ℕ) → ccbs_from from live ≡ filter (is_from from) (take place live) ++ filter (is_from from) (drop place live)
first_of from live place = ap (filter (is_from from)) (sym (take-append-drop place live)) ∙ filter-append (is_from from) (take place live) (drop place live)

least : (count all one other : ℕ) → count ≤ all → count ≤ one → count ≤ other → (all ≤ count) ⊎ ((one ≤ count) ⊎ (other ≤ count)) → count ≡ min all (min one other)
least count all one other a b c (inl most) = omega (arith, a, b, c, most)
least count all one other a b c (inr (inl most)) = omega (arith, a, b, c, most)
least count all one other a b c (inr (inr most)) = omega (arith, a, b, c, most)

all_up_to : (from : ℕ) (live : List LiveCcb) (place count : ℕ) → count ≡ length (filter (is_from from) (take place live)) → length live ≤ place → length (ccbs_from from live) ≤ count
all_up_to from live place count is all = omega (arith, is, ap (λ (xs : List LiveCcb). length (filter (is_from from) xs)) (take_all place live all))

-- all that there are, or as many as find room
pub listed_so : (live : List LiveCcb) (from : ℕ) (numbers states later_numbers later_states : List ℕ) (place count : ℕ) → AreListed live from numbers states later_numbers later_states place count
    → (length live ≤ place) ⊎ ((length numbers ≤ count) ⊎ (length states ≤ count)) → ListsCcbs live from numbers states later_numbers later_states count
listed_so live from numbers states later_numbers later_states place count listed why =
    let before = filter (is_from from) (take place live) in
    let after = filter (is_from from) (drop place live) in
    let parts : length (ccbs_from from live) ≡ length before + length after = ap (λ (xs : List LiveCcb). length xs) (first_of from live place) ∙ length-append before after in
    let front : take count (ccbs_from from live) ≡ before =
    ap (λ (n : ℕ). take n (ccbs_from from live)) listed.count_is ∙ (ap (take (length before)) (first_of from live place) ∙ (take-append-le (length before) before after (omega arith) ∙ take_all (length before) before (omega arith))) in
    let few : count ≤ length (ccbs_from from live) = omega (arith, parts, listed.count_is) in
    record {
      count_is = least count (length (ccbs_from from live)) (length numbers) (length states) few listed.numbers_fit listed.states_fit (elim why [
        | inl all ↦ inl (all_up_to from live place count listed.count_is all)
        | inr full ↦ inr full
      ]);
      numbers_are = listed.numbers_are ∙ ap (map number_in) (sym front);
      states_are = listed.states_are ∙ ap (map state_in) (sym front);
      numbers_stay = listed.numbers_stay;
      states_stay = listed.states_stay;
    }

-- one of the two is full
pub room_full : (count one other : ℕ) → count ≡ min one other → (one ≤ count) ⊎ (other ≤ count)
room_full count one other is = elim (cases_lt one other) [
  | inl less ↦ inl (omega (arith, is, less))
  | inr more ↦ inr (omega (arith, is, more))
]

-- whether a CCB of this number is one of those that are listed
pub is_later : (from number : ℕ) (it : LiveCcb) → number ≡ it.ccb.number.0 → from ≤ number → is_from from it ≡ true
is_later from number it is later = grind (arith, nat_tests, is, later)

pub is_sooner : (from number : ℕ) (it : LiveCcb) → number ≡ it.ccb.number.0 → (number < from) → is_from from it ≡ false
is_sooner from number it is sooner = grind (arith, nat_tests, is, sooner)

-- there are not too many
pub few_ccbs : (state : EngineState) → IsRun state → length state.world.transport.live ≤ most_ccbs
few_ccbs state run = (run_sound state.setup (flat state.history) state.world run.lawful run.run).kept.ccbs.all
