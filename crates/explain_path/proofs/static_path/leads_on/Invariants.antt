use Rattle.std.proofs.Common.{◌∷◌, take}
use Rattle.explain_path.specs.Passes.{Passes, standing}
use Rattle.explain_path.proofs.static_path.leads_on.Given as goal

-- the slots so far are those of a path that stands there
abbrev pub invariant-loop-slot : goal.invariant-loop-slot
invariant-loop-slot l = Passes l.program (0 ∷ take l.slot-index l.slots) (standing l.at l.returns.items)
