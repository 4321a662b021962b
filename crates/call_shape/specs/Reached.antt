-- What holds while all functions are marked that one comes to by calls.
use Rattle.std.specs.Prelude.{◌≡◌, ℕ, Bool, true, false, List, length, Some, ◌⊎◌}
use Rattle.bpf_insn.specs.declared.program.Slot.{Slot}
use Rattle.call_shape.specs.Calls.{callee_at, Calls}
use Rattle.call_shape.specs.Walk.{is_marked, ComesTo}

-- more is marked: what was marked, and with each function all that it calls
pub record MarksOn (program : List Slot) (before after : List Bool) : Type 0 where
  pub whole : length after ≡ length before
  pub stays : (slot : ℕ) → is_marked before slot ≡ true → is_marked after slot ≡ true
  pub closed : (caller callee : ℕ) → is_marked after caller ≡ true → is_marked before caller ≡ false → Calls program caller callee → is_marked after callee ≡ true

-- a function is marked, and nothing more but what it comes to
pub record MarksFrom (program : List Slot) (function : ℕ) (before after : List Bool) : Type 0 where
  pub on : MarksOn program before after
  pub own : is_marked after function ≡ true
  pub from : (slot : ℕ) → is_marked after slot ≡ true → (is_marked before slot ≡ true) ⊎ ComesTo program function slot

-- what a place calls is marked, and nothing more but what that comes to
pub record MarksCallee (program : List Slot) (place : ℕ) (before after : List Bool) : Type 0 where
  pub on : MarksOn program before after
  pub own : (callee : ℕ) → callee_at program place ≡ Some callee → is_marked after callee ≡ true
  pub from : (slot : ℕ) → is_marked after slot ≡ true → (is_marked before slot ≡ true) ⊎ ((callee : ℕ) × (callee_at program place ≡ Some callee) × ComesTo program callee slot)
