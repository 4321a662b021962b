-- Live CCBs in two places of a host's: their numbers, and where they are.
use Rattle.std.specs.Prelude.{◌≡◌, ℕ, List, drop, filter, length, map, min, nat_le, take}
use Rattle.world.specs.World.{LiveCcb}
use Rattle.world.specs.declared.ccb_state.CcbState.{CcbState}
use Rattle.world.specs.declared.ccb_state.CcbState.TheVariants.{Active, InRecovery, Waiting}

abbrev pub state_number : CcbState → ℕ
state_number Waiting = 1
state_number Active = 2
state_number InRecovery = 3

-- those whose number is this one or a greater one, in their order
abbrev pub ccbs_from : ℕ → List LiveCcb → List LiveCcb
ccbs_from from live = filter (λ it. nat_le from it.ccb.number.0) live

-- The front of two places has the numbers and the states of the first CCBs from this number on, as many as find room in both, and all of
-- them if they do. What stands after it stays.
pub record ListsCcbs (live : List LiveCcb) (from : ℕ) (numbers states later_numbers later_states : List ℕ) (count : ℕ) : Type 0 where
  pub count_is : count ≡ min (length (ccbs_from from live)) (min (length numbers) (length states))
  pub numbers_are : take count later_numbers ≡ map (λ it. it.ccb.number.0) (take count (ccbs_from from live))
  pub states_are : take count later_states ≡ map (λ it. state_number it.state) (take count (ccbs_from from live))
  pub numbers_stay : drop count later_numbers ≡ drop count numbers
  pub states_stay : drop count later_states ≡ drop count states
