-- Where a function stands while others wait for it: on a static path with as many calls open.
use Rattle.std.specs.Prelude.{◌≡◌, ℕ, List, length}
use Rattle.bpf_insn.specs.declared.program.Slot.{Slot}
use Rattle.call_shape.specs.OnTheWay.{AreBegun, IsOnTheWay}

pub record IsChain (program : List Slot) (calls slot : ℕ) : Type 0 where
  pub returns : List ℕ
  pub count : length returns ≡ calls
  pub begun : AreBegun program returns
  pub on : IsOnTheWay program (record { slot = slot; returns = returns })
