use Rattle.std.proofs.Common.{◌≡◌, ℕ, ◌<◌, None, get_or}
use Rattle.engine_runs.specs.RunsState.{told}
use Rattle.engine_runs.proofs.held_tokens.place_of_token.Given as goal

-- none of the tokens so far is of the freeze
abbrev pub invariant-loop-place : goal.invariant-loop-place
invariant-loop-place l = (k : ℕ) → k < l.place → told (get_or l.tokens k None) ≡ l.freeze → ⊥
