use Rattle.std.proofs.Common.{◌≡◌, map, take}
use Rattle.explain_path.specs.Logs.{slot_at}
use Rattle.explain_path.proofs.path.slots_of.Given as goal

-- the slots of the checks so far
abbrev pub invariant-loop-check : goal.invariant-loop-check
invariant-loop-check l = l.slots.items ≡ map (slot_at l.log.sightings) (take l.check-index l.checks)
