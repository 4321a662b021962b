use Rattle.std.proofs.Common.{◌≡◌, ◌≤◌, take, length}
use Rattle.check_register_kinds.specs.Freezes.{without}
use Rattle.check_register_kinds.proofs.held.Held.without.Given as goal

-- what is kept of the freezes so far
abbrev pub invariant-loop-freeze : goal.invariant-loop-freeze
invariant-loop-freeze l = (l.kept ≡ without (take l.freeze-index l.freeze-items) l.name) × (length l.kept ≤ l.freeze-index)
