use Rattle.std.proofs.Common.{◌≡◌, ℕ, List, ◌∷◌}
use Rattle.explain_path.proofs.path.checks_to.Given as goal

-- the first of them is the one to which the path leads
abbrev pub invariant-loop-check : goal.invariant-loop-check
invariant-loop-check l = (rest : List ℕ) × (l.checks.items ≡ l.number ∷ rest)
