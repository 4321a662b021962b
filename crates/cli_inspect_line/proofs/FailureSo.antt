-- No failure is given.
use Rattle.std.proofs.Common.{◌≡◌, List, Option, None, MatchOption, subst, sym}
use Rattle.clap.specs.Words.{Row}
use Rattle.show_question.specs.declared.Failure.{Failure}
use Rattle.cli_inspect_line.specs.Deciding.{HasFailure}

pub no_failure : (rows : List Row) (r : Option Failure) → r ≡ None → ((failure : Failure) → HasFailure rows failure → ⊥)
    → MatchOption r ((failure : Failure) → HasFailure rows failure → ⊥) (HasFailure rows)
no_failure rows r is none = subst (λ (o : Option Failure). MatchOption o ((failure : Failure) → HasFailure rows failure → ⊥) (HasFailure rows)) (sym is) none
