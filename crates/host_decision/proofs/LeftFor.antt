-- How long a freeze is left, as far as the holders were read.
use Rattle.std.proofs.Common.{◌≡◌, ℕ, List, ◌∷◌, Option, Some, eqb, sym}
use Rattle.std.proofs.lemmas.Bool.{cond-true, cond-false, eq-eqb, ne_eqb}
use Rattle.freeze_ledger.specs.declared.freeze.Holder.{Holder}
use Rattle.host_decision.specs.Decided.{time_in, time_of}

pub here : (freeze clock number : ℕ) (holder : Holder) (rest : List (ℕ × Holder)) → number ≡ freeze → Some (time_of holder clock) ≡ time_in freeze clock ((number, holder) ∷ rest)
here freeze clock number holder rest is = sym (cond-true (eqb number freeze) (Some (time_of holder clock)) (time_in freeze clock rest) (eq-eqb number freeze is))

pub later : (freeze clock number : ℕ) (holder : Holder) (rest : List (ℕ × Holder)) → (number ≡ freeze → ⊥) → time_in freeze clock ((number, holder) ∷ rest) ≡ time_in freeze clock rest
later freeze clock number holder rest apart = cond-false (eqb number freeze) (Some (time_of holder clock)) (time_in freeze clock rest) (ne_eqb number freeze apart)
