-- The order in which places are settled: each place after all that control may reach from it. Then what is asked of a
-- place is known of all those on which it rests.
use Rattle.std.specs.Prelude.{◌≡◌, ℕ, ◌<◌, true, List, length, Some, slice_get}
use Rattle.bpf_insn.specs.declared.program.Slot.{Slot}
use Rattle.call_shape.specs.Calls.{begins, callee_at, function_of, StandsBefore}

-- none of the first n places of a list stands before itself
unfoldable pub StandOnce : List ℕ → ℕ → Type 0
StandOnce places n = (i place : ℕ) → i < n → slice_get places i ≡ Some place → StandsBefore places i place → ⊥

-- of the first n places of a list none stands twice, and each stands after the later ones of its function, and after the
-- start of what it calls
pub record IsPostorder (program : List Slot) (places : List ℕ) (n : ℕ) : Type 0 where
  pub begun : (i place : ℕ) → i < n → slice_get places i ≡ Some place → begins program place ≡ true
  pub once : StandOnce places n
  pub later_first : (i place later : ℕ) → i < n → slice_get places i ≡ Some place → place < later → begins program later ≡ true → function_of program later ≡ function_of program place → StandsBefore places i later
  pub callee_first : (i place callee : ℕ) → i < n → slice_get places i ≡ Some place → callee_at program place ≡ Some callee → StandsBefore places i callee

-- all places where instructions begin, in such an order
pub record IsWholePostorder (program : List Slot) (places : List ℕ) : Type 0 where
  pub order : IsPostorder program places (length places)
  pub all : (place : ℕ) → begins program place ≡ true → StandsBefore places (length places) place
