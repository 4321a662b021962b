-- What a run's list of tokens is.
use Rattle.std.specs.Prelude.{◌≡◌, ℕ, List, Option, Some, map}
use Rattle.ccb.specs.Rising.{AreRising}
use Rattle.freeze_ledger.specs.declared.freeze.Freeze.{Freeze}
use Rattle.freeze_ledger.specs.Freezes.{entry_of}
use Rattle.engine_runs.specs.RunsState.{tokens_of}

-- these are the tokens of those freezes, whose numbers rise, and one of them bears the number
pub record AreTokensWith (tokens : List (Option Freeze)) (freezes : List Freeze) (number : ℕ) : Type 0 where
  pub are : tokens ≡ tokens_of freezes
  pub high : ℕ
  pub rising : AreRising 0 (map (λ freeze. freeze.number) freezes) high
  pub entry : Freeze
  pub found : entry_of number freezes ≡ Some entry
