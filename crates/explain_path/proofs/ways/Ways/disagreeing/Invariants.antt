use Rattle.std.proofs.Common.{◌≡◌, IfSome}
use Rattle.explain_path.specs.Logs.{AgreeAt}
use Rattle.explain_path.proofs.ways.Ways.disagreeing.Given as goal

-- the way that was found so far leads there, and disagrees with the last one
abbrev pub invariant-loop-way : goal.invariant-loop-way
invariant-loop-way l = IfSome l.first (λ way. (way.slot ≡ l.slot) × (AgreeAt way.known l.last.shown.known → ⊥))
