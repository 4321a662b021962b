-- What an accepted file says of its manifest; and the fault that is told of one that is not.
use Rattle.std.proofs.Common.{◌≡◌, ◌≢◌, ◌≤◌, ◌⊎◌, ◌∙◌, ℕ, zero, suc, List, ap, arith, inl, inr, refl, subst, sym}
use Rattle.std.specs.Prelude.{IfOk, MatchResult, Option, Result, Ok, Err}
use Rattle.std.specs.Io.KnownBytes.{Appends}
use Rattle.cli_commands.specs.FaultText.{report_of}
use Rattle.cli_commands.specs.Faults.{status_of}
use Rattle.cli_commands.specs.Told.{IsManifest, IsManifestFault, IsScenarioFault}
use Rattle.trace.specs.declared.fault.TraceFault.TheVariants.{Header}
use Rattle.cli_commands.specs.declared.fault.Fault.{Fault}
use Rattle.cli_commands.specs.declared.fault.Fault.TheVariants as fault
use Rattle.cli_commands.proofs.Telling.{over_manifest}
use Rattle.cli_inspection.specs.Shown.{BeginsTrace, IsAcceptedFile, IsFileFault, PutsFault}

pub file_manifest : (manifest file : List ℕ) → IsAcceptedFile manifest file → IsManifest manifest
file_manifest manifest file (inl accepted) = over_manifest manifest file accepted
file_manifest manifest file (inr both) = both.0

-- a manifest's fault is one of the two files, if they have any
pub beside : (manifest file : List ℕ) (other told : Fault) → IsFileFault manifest file other → IsManifestFault manifest told → IsFileFault manifest file told
beside manifest file other (fault.Manifest f) (inl whole) has = inl (whole.0, has)
beside manifest file other (fault.Manifest f) (inr whole) has = inr (whole.0, inl has)
beside manifest file other fault.OutOfMemory whole has = absurd has
beside manifest file other (fault.File path) whole has = absurd has
beside manifest file other (fault.Text f) whole has = absurd has
beside manifest file other (fault.Program f) whole has = absurd has
beside manifest file other (fault.Line line) whole has = absurd has
beside manifest file other (fault.NotHeld line) whole has = absurd has
beside manifest file other (fault.Trace f) whole has = absurd has
beside manifest file other (fault.Replay f) whole has = absurd has
beside manifest file other fault.InternalError whole has = absurd has

pub puts_beside : (manifest file : List ℕ) (other : Fault) (old new : Option (List ℕ)) → IsFileFault manifest file other
    → PutsFault (IsManifestFault manifest) old new → PutsFault (IsFileFault manifest file) old new
puts_beside manifest file other old new whole put = (put.0, put.1, beside manifest file other put.0 whole put.2, put.3)

-- ---- what is told of a file that was judged as a scenario

abbrev IsToldFor : Fault → Fault → Type 0
IsToldFor other told = (told ≡ other) ⊎ ((told ≡ fault.Trace Header) × ((line : ℕ) × (other ≡ fault.Line line)))

pub told_status : (other told : Fault) → IsToldFor other told → status_of other ≡ 2 → status_of told ≡ 2
told_status other told (inl same) two = ap status_of same ∙ two
told_status other told (inr line) two = let bad : 1 ≡ 2 = sym (ap status_of line.1.1) ∙ two in absurd (omega (arith, bad))

pub told_fault : (manifest file : List ℕ) (other told : Fault) → (BeginsTrace file → ⊥) → IsToldFor other told → (status_of other ≡ 1 → IsScenarioFault manifest file other)
    → status_of told ≡ 1 → IsFileFault manifest file told
told_fault manifest file other told begins (inl same) is one =
    inr (begins, inl (subst (λ (f : Fault). IsScenarioFault manifest file f) (sym same) (is (sym (ap status_of same) ∙ one))))
told_fault manifest file other told begins (inr line) is one =
    let at = subst (λ (f : Fault). IsScenarioFault manifest file f) line.1.1 (is (ap status_of line.1.1)) in
    inr (begins, inr (line.0, (at.0, at.1, at.2), (line.1.0, at)))

-- ---- what a written report tells, by the status

module _ {A E : Type 0} (written : Result A E) (status : ℕ) (P : Type 0) (is : MatchResult written (λ _. status ≡ 1) (λ _. status ≡ 2)) where
  pub went : IfOk written (λ _. P) → status ≡ 1 → P
  went out one = split written is out one
    where
      split : (r : Result A E) → MatchResult r (λ _. status ≡ 1) (λ _. status ≡ 2) → IfOk r (λ _. P) → status ≡ 1 → P
      split (Ok x) m h one = h
      split (Err e) m h one = absurd (omega (arith, m, one))

  pub kept : IfOk written (λ _. P) → status ≢ 2 → P
  kept out other = split written is out other
    where
      split : (r : Result A E) → MatchResult r (λ _. status ≡ 1) (λ _. status ≡ 2) → IfOk r (λ _. P) → status ≢ 2 → P
      split (Ok x) m h other = h
      split (Err e) m h other = absurd (other m)

  pub within : (1 ≤ status) × (status ≤ 2)
  within = split written is
    where
      split : (r : Result A E) → MatchResult r (λ _. status ≡ 1) (λ _. status ≡ 2) → (1 ≤ status) × (status ≤ 2)
      split (Ok x) m = (omega (arith, m), omega (arith, m))
      split (Err e) m = (omega (arith, m), omega (arith, m))

-- a status that is not that of a refusal is 2
pub only_two : (status of : ℕ) → (1 ≤ status) × (status ≤ 2) → (status ≡ 1 → of ≡ 1) → of ≡ 2 → status ≡ 2
only_two zero of bounds one two = absurd (omega (arith, bounds.0))
only_two (suc zero) of bounds one two = let bad = one refl in absurd (omega (arith, bad, two))
only_two (suc (suc zero)) of bounds one two = refl
only_two (suc (suc (suc n))) of bounds one two = absurd (omega (arith, bounds.1))
