-- Where control may stand on a static path through a program, while functions that were called have not returned.
use Rattle.std.specs.Prelude.{◌≡◌, ℕ, ◌≤◌, true, List, [], ◌∷◌}
use Rattle.bpf_insn.specs.declared.program.Slot.{Slot}
use Rattle.call_shape.specs.Calls.{begins}
use Rattle.call_shape.specs.StaticPath.{Standing, outermost, StaticPath, depth}

-- every path from there is the end of one through the program, which has as many frames at a time at least
abbrev pub IsOnTheWay : List Slot → Standing → Type 0
IsOnTheWay program at =
    (n : ℕ) (path : StaticPath program at n) →
    (k : ℕ) × (whole : StaticPath program (outermost 0) k) × (depth program at n path ≤ depth program (outermost 0) k whole)

-- an instruction begins wherever a call that is open goes on
abbrev pub AreBegun : List Slot → List ℕ → Type 0
AreBegun program [] = Unit {0}
AreBegun program (return ∷ returns) = (begins program return ≡ true) × AreBegun program returns
