use Rattle.std.proofs.Common.{◌≡◌, take, length}
use Rattle.check_register_kinds.specs.Freezes.{with_sure}
use Rattle.check_register_kinds.proofs.held.Held.with_sure.Given as goal

-- those so far
abbrev pub invariant-loop-freeze : goal.invariant-loop-freeze
invariant-loop-freeze l = (l.held ≡ with_sure (take l.freeze-index l.freeze-items) l.name) × (length l.held ≡ l.freeze-index)
