-- Laws of shapes: a static path leads out from every place, and a calling order leaves no cycle.
use Rattle.std.specs.Prelude.{◌≡◌, ℕ, true, List}
use Rattle.bpf_insn.specs.declared.program.Slot.{Slot}
use Rattle.bpf_insn.specs.Program.{IsProgram}
use Rattle.call_shape.specs.Calls.{begins, IsOnCycle}
use Rattle.call_shape.specs.Shape.{AreOrdered}
use Rattle.call_shape.specs.StaticPath.{outermost, StaticPath}

-- from each place where an instruction begins
abbrev pub EveryPlaceHasAWayOut : Type 0
EveryPlaceHasAWayOut =
    (program : List Slot) → IsProgram program → AreOrdered program →
    (place : ℕ) → begins program place ≡ true → (n : ℕ) × StaticPath program (outermost place) n

-- the two ways of saying that calls are acyclic exclude each other
abbrev pub NothingOrderedIsOnACycle : Type 0
NothingOrderedIsOnACycle = (program : List Slot) → AreOrdered program → (place : ℕ) → IsOnCycle program place → ⊥
