use Rattle.std.proofs.Common.{◌≡◌, ◌==◌, ◌≤◌, take, length, not, filter}
use Rattle.bpf_machine.proofs.held_freezes.HeldFreezes.without.Given as goal

-- what is kept of the numbers so far
abbrev pub invariant-loop-number : goal.invariant-loop-number
invariant-loop-number l = (l.kept ≡ filter (λ number. not (number == l.freeze)) (take l.number-index l.number-items)) × (length l.kept ≤ l.number-index)
