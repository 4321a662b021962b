-- The lengths of the longest paths from all places.
use Rattle.std.specs.Prelude.{◌≡◌, ℕ, ◌≤◌, true, List, length, slice_index}
use Rattle.bpf_insn.specs.declared.program.Slot.{Slot}
use Rattle.call_shape.specs.Calls.{begins}
use Rattle.call_shape.specs.StaticPath.{outermost, StaticPath}
use Rattle.call_shape.specs.declared.lawful_shape.TheConstants.{MAX_WRITTEN_OUT}

-- some path from there to the exit of its function is so long and none is longer
pub record IsLongestFrom (program : List Slot) (place longest : ℕ) : Type 0 where
  pub path : StaticPath program (outermost place) longest
  pub most : (n : ℕ) → StaticPath program (outermost place) n → n ≤ longest
  pub few : longest ≤ MAX_WRITTEN_OUT

-- an entry for each slot, of those where an instruction begins
pub record AreLongest (program : List Slot) (lengths : List ℕ) : Type 0 where
  pub whole : length lengths ≡ length program
  pub each : (place : ℕ) → begins program place ≡ true → IsLongestFrom program place (slice_index lengths place)
