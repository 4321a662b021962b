-- Control on its way through a program of lawful shape: each step stays on a way, a way leads out from wherever it stands, and
-- at a local call there is a frame left.
use Rattle.std.proofs.Common.{◌≡◌, ℕ, suc, ◌+◌, ◌<◌, true, List, [], ◌∷◌, length, Some, refl, arith, inr}
use Rattle.bpf_insn.specs.declared.insn.Insn.{Insn}
use Rattle.bpf_insn.specs.declared.insn.Insn.TheVariants.{Call}
use Rattle.bpf_insn.specs.declared.insn.Callee.TheVariants.{Local}
use Rattle.bpf_insn.specs.declared.program.Slot.{Slot}
use Rattle.bpf_insn.specs.Program.{IsProgram, insn_at}
use Rattle.bpf_insn.specs.Target.{target}
use Rattle.call_shape.specs.Calls.{begins}
use Rattle.call_shape.specs.OnTheWay.{AreBegun, IsOnTheWay}
use Rattle.call_shape.specs.Shape.{AreOrdered, IsLawful}
use Rattle.call_shape.specs.StaticPath.{Standing, outermost, called, StepLeadsTo}
use Rattle.bpf_stack_frame.specs.declared.frames.TheConstants.{MAX_FRAMES}
use Rattle.call_shape.proofs.Lawful.{calls_lawfully, goes_on_lawfully}
use Rattle.call_shape.proofs.Paths.{HasPath, joined, one_frame_at_least}
use Rattle.call_shape.proofs.WaysOut.{ways_out_lem}

pub begins_on_the_way : (program : List Slot) → IsOnTheWay program (outermost 0)
begins_on_the_way program n path = (n, path, omega arith)

-- one instruction on
pub further : (program : List Slot) (at to : Standing) (insn : Insn) → insn_at program at.slot ≡ Some insn → StepLeadsTo at insn to → IsOnTheWay program at → IsOnTheWay program to
further program at to insn is leads on n path =
    let whole = on (suc n) (insn, is, inr (to, leads, path)) in
    (whole.0, whole.1, omega (arith, whole.2))

pub record LeadsOut (program : List Slot) (at : Standing) : Type 0 where
  pub long : ℕ
  pub deep : ℕ
  pub path : HasPath program at long deep

-- out of the function, and of each that waits
pub way_out : (program : List Slot) (slot : ℕ) (returns : List ℕ) → IsProgram program → AreOrdered program → begins program slot ≡ true → AreBegun program returns → LeadsOut program (record { slot = slot; returns = returns })
way_out program slot [] is ordered there begun =
    let out = ways_out_lem program is ordered slot there in
    record { long = out.0; deep = _; path = (out.1, refl) }
way_out program slot (return ∷ returns) is ordered there begun =
    let inner = ways_out_lem program is ordered slot there in
    let after = way_out program return returns is ordered begun.0 begun.1 in
    record { long = inner.0 + after.long; deep = _; path = joined program inner.0 after.long (outermost slot) return returns _ after.deep (inner.1, refl) after.path }

-- a call in the eighth frame would be deeper than any static path
pub room_to_call : (program : List Slot) (place : ℕ) (returns : List ℕ) (distance : _) → IsProgram program → IsLawful program → insn_at program place ≡ Some (Call (Local distance)) → AreBegun program returns → IsOnTheWay program (record { slot = place; returns = returns }) → length returns + 1 < MAX_FRAMES
room_to_call program place returns distance is lawful at begun on =
    let here : Standing = record { slot = place; returns = returns } in
    let there : Standing = called here (target place distance) in
    let callee : begins program (target place distance) ≡ true = calls_lawfully program place (target place distance) (Call (Local distance)) is lawful at refl in
    let next : begins program (place + 1) ≡ true = goes_on_lawfully program place (Call (Local distance)) is lawful at refl in
    let out = way_out program (target place distance) ((place + 1) ∷ returns) is lawful.frames.calls callee (next, begun) in
    let whole = further program here there (Call (Local distance)) at refl on out.long out.path.0 in
    let few = lawful.frames.shallow whole.0 whole.1 in
    let deep = one_frame_at_least program there out.long out.deep out.path in
    omega (arith, few, deep, whole.2, out.path.1)
