-- What holds while a walk settles the functions of a program.
use Rattle.std.specs.Prelude.{◌≡◌, ℕ, ◌+◌, ◌<◌, ◌≤◌, Bool, true, false, List, [], ◌∷◌, length, Some, slice_get, slice_index_or, slice_set, take, suc, ◌⊎◌}
use Rattle.bpf_insn.specs.declared.program.Slot.{Slot}
use Rattle.bpf_insn.specs.declared.program.TheConstants.{MAX_SLOTS}
use Rattle.call_shape.specs.Calls.{begins, function_of, CallsThrough, StandsBefore}
use Rattle.call_shape.specs.Postorder.{IsPostorder, IsWholePostorder}
use Rattle.call_shape.specs.declared.postorder.Postorder.{Postorder}
use Rattle.call_shape.specs.declared.walk.Walk.{Walk}

-- a slot is marked in a table
abbrev pub is_marked : List Bool → ℕ → Bool
is_marked marks slot = slice_index_or marks slot false

-- how many are marked
abbrev pub marked : List Bool → ℕ
marked [] = 0
marked (true ∷ marks) = suc (marked marks)
marked (false ∷ marks) = marked marks

-- by calls one function comes to another
abbrev pub ComesTo : List Slot → ℕ → ℕ → Type 0
ComesTo program from to = (n : ℕ) × CallsThrough program n from to

-- what a walk makes
pub record IsOrderOf (program : List Slot) (order : Postorder) : Type 0 where
  pub fits : order.count ≤ MAX_SLOTS
  pub whole : IsWholePostorder program (take order.count order.places)

-- with a place more after all others
abbrev pub with_place : Postorder → ℕ → Postorder
with_place order place = record { places = slice_set order.places order.count place; count = order.count + 1 }

-- with a function entered
abbrev pub with_entered : Walk → ℕ → Walk
with_entered walk function = record walk { entered = slice_set walk.entered function true }

-- with a place settled
abbrev pub with_settled : Walk → ℕ → Walk
with_settled walk place = record walk { settled = slice_set walk.settled place true; order = with_place walk.order place }

-- what a walk keeps
pub record IsWalk (program : List Slot) (walk : Walk) : Type 0 where
  pub entered_whole : length walk.entered ≡ MAX_SLOTS
  pub settled_whole : length walk.settled ≡ MAX_SLOTS
  pub places_whole : length walk.order.places ≡ MAX_SLOTS
  pub counted : walk.order.count ≡ marked walk.settled
  pub stands : (place : ℕ) → is_marked walk.settled place ≡ true → StandsBefore walk.order.places walk.order.count place
  pub placed : (i place : ℕ) → i < walk.order.count → slice_get walk.order.places i ≡ Some place → is_marked walk.settled place ≡ true
  pub own_entered : (place : ℕ) → is_marked walk.settled place ≡ true → is_marked walk.entered (function_of program place) ≡ true
  pub order : IsPostorder program walk.order.places walk.order.count

-- each function that is entered and not settled comes to that one
abbrev pub OpenComeTo : List Slot → Walk → ℕ → Type 0
OpenComeTo program walk function =
    (open_one : ℕ) → is_marked walk.entered open_one ≡ true → is_marked walk.settled open_one ≡ false → ComesTo program open_one function

-- all later places of its function are settled
abbrev pub LaterSettled : List Slot → Walk → ℕ → Type 0
LaterSettled program walk place =
    (later : ℕ) → place < later → begins program later ≡ true → function_of program later ≡ function_of program place → is_marked walk.settled later ≡ true

-- What a part of a walk leaves of what was before: it settles no place of a function that was entered before it, but
-- for those that are excepted, and it settles each function that it enters.
pub record WalkContinues (program : List Slot) (excepted : ℕ → Type 0) (before after : Walk) : Type 0 where
  pub still_settled : (place : ℕ) → is_marked before.settled place ≡ true → is_marked after.settled place ≡ true
  pub still_entered : (function : ℕ) → is_marked before.entered function ≡ true → is_marked after.entered function ≡ true
  pub others_stay : (place : ℕ) → (excepted place → ⊥) → is_marked before.entered (function_of program place) ≡ true → is_marked after.settled place ≡ is_marked before.settled place
  pub entered_settled : (function : ℕ) → is_marked after.entered function ≡ true → (is_marked before.entered function ≡ true) ⊎ (is_marked after.settled function ≡ true)
