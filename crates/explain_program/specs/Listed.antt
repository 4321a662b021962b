-- Places of a program that are listed, each once.
use Rattle.std.specs.Prelude.{◌≡◌, ◌<◌, ◌≤◌, ◌⊎◌, ℕ, List, true, length, slice_index}
use Rattle.bpf_insn.specs.declared.program.TheConstants.{MAX_SLOTS}
use Rattle.call_shape.specs.Walk.{is_marked, marked}
use Rattle.explain_program.specs.declared.reaching.Places.{Places}

-- a place is one of the first n of a list
pub record IsAmong (order : List ℕ) (n place : ℕ) : Type 0 where
  pub index : ℕ
  pub before : index < n
  pub there : slice_index order index ≡ place

-- just those that are marked are listed, and so many they are
pub record AreListed (places : Places) : Type 0 where
  pub marked_whole : length places.marked ≡ MAX_SLOTS
  pub order_whole : length places.order ≡ MAX_SLOTS
  pub counted : places.count ≡ marked places.marked
  pub among : (place : ℕ) → is_marked places.marked place ≡ true → IsAmong places.order places.count place
  pub placed : (i : ℕ) → i < places.count → is_marked places.marked (slice_index places.order i) ≡ true

-- More are listed: those that were stand where they stood, and after them those of these places that were not listed yet.
pub record ListsToo (these : ℕ → Type 0) (before after : Places) : Type 0 where
  pub listed : AreListed after
  pub more : before.count ≤ after.count
  pub stands : (i : ℕ) → i < before.count → slice_index after.order i ≡ slice_index before.order i
  pub stays : (place : ℕ) → is_marked before.marked place ≡ true → is_marked after.marked place ≡ true
  pub from : (place : ℕ) → is_marked after.marked place ≡ true → (is_marked before.marked place ≡ true) ⊎ these place
  pub all : (place : ℕ) → these place → place < MAX_SLOTS → is_marked after.marked place ≡ true
