-- How steps go on.
use Rattle.std.proofs.Common.{◌≡◌, ◌∙◌, ◌+◌, ◌<◌, ℕ, zero, suc, arith, true, Option, Some, None, Result, Ok, Err, List, [], ◌∷◌, ◌++◌, refl, sym, ap, subst, append_assoc, append-nil}
use Rattle.std.specs.List.{list_all}
use Rattle.std.proofs.lemmas.List.Folds.{list_all-append}
use Rattle.base.specs.declared.or_memory.OrMemory.{OrMemory}
use Rattle.base.specs.declared.or_memory.OrMemory.TheVariants.{OutOfMemory, Fault}
use Rattle.host_recovery.specs.Recovering.{ReadsBy}
use Rattle.host_recovery.specs.declared.fault.RecoveryFault.{RecoveryFault}
use Rattle.host_recovery.specs.declared.fault.RecoveryFault.TheVariants.{Unread, TooLong, Form, Unfollowed}
use Rattle.host_recovery.specs.declared.recovering.Recovered.{Recovered}
use Rattle.host_journal.specs.Disks.{EndsIn, Failed, IsFailed, IsQuiet, Step, is_quiet, with_step}
use Rattle.host_journal.specs.Starts.{ReadsSince, after_failed}
use Rattle.host_journal.specs.declared.disk.DiskFault.TheVariants.{Failed as NotDone}
use Rattle.host_journal.specs.declared.fault.JournalFile.TheVariants.{Segment}
use Rattle.host_journal.proofs.Numbers.{both_so}

pub quiet_same : (old new : Option (List Step)) → new ≡ old → IsQuiet old new
quiet_same None new same = tt
quiet_same (Some steps) new same = ([], same ∙ ap Some (sym (append-nil steps)), refl)

pub quiet_step : (old new : Option (List Step)) (step : Step) → is_quiet step ≡ true → new ≡ with_step old step → IsQuiet old new
quiet_step None new step quiet is = tt
quiet_step (Some steps) new step quiet is = (step ∷ [], is, both_so (is_quiet step) true quiet refl)

pub quiet_trans : (old mid new : Option (List Step)) → IsQuiet old mid → IsQuiet mid new → IsQuiet old new
quiet_trans None mid new first second = tt
quiet_trans (Some steps) mid new first second =
    let next : IsQuiet (Some (steps ++ first.0)) new = subst (λ (o : Option (List Step)). IsQuiet o new) first.1 second in (
      first.0 ++ next.0,
      next.1 ∙ ap Some (append_assoc steps first.0 next.0),
      list_all-append is_quiet first.0 next.0 ∙ both_so (list_all is_quiet first.0) (list_all is_quiet next.0) first.2 next.2,
    )

-- ---- whatever the steps are

abbrev pub WentOn : Option (List Step) → Option (List Step) → Type 0
WentOn None new = Unit {0}
WentOn (Some steps) new = (more : List Step) × (new ≡ Some (steps ++ more))

pub went_same : (old new : Option (List Step)) → new ≡ old → WentOn old new
went_same None new same = tt
went_same (Some steps) new same = ([], same ∙ ap Some (sym (append-nil steps)))

pub went_quiet : (old new : Option (List Step)) → IsQuiet old new → WentOn old new
went_quiet None new quiet = tt
went_quiet (Some steps) new quiet = (quiet.0, quiet.1)

pub went_step : (old new : Option (List Step)) (step : Step) → new ≡ with_step old step → WentOn old new
went_step None new step is = tt
went_step (Some steps) new step is = (step ∷ [], is)

pub went_trans : (old mid new : Option (List Step)) → WentOn old mid → WentOn mid new → WentOn old new
went_trans None mid new first second = tt
went_trans (Some steps) mid new first second =
    let next : WentOn (Some (steps ++ first.0)) new = subst (λ (o : Option (List Step)). WentOn o new) first.1 second in
    (first.0 ++ next.0, next.1 ∙ ap Some (append_assoc steps first.0 next.0))

pub ends_step : (Is : Step → Type 0) (old new : Option (List Step)) (step : Step) → Is step → new ≡ with_step old step → EndsIn Is old new
ends_step Is None new step is same = tt
ends_step Is (Some steps) new step is same = ([], step, is, same)

pub ends_on : (Is : Step → Type 0) (old mid new : Option (List Step)) → WentOn old mid → EndsIn Is mid new → EndsIn Is old new
ends_on Is None mid new went ends = tt
ends_on Is (Some steps) mid new went ends =
    let next : EndsIn Is (Some (steps ++ went.0)) new = subst (λ (o : Option (List Step)). EndsIn Is o new) went.1 ends in (
      went.0 ++ next.0,
      next.1,
      next.2,
      next.3 ∙ ap Some (append_assoc steps went.0 (next.0 ++ next.1 ∷ []) ∙ ap (λ (t : List Step). steps ++ t) (sym (append_assoc went.0 next.0 (next.1 ∷ [])))),
    )

-- ---- reads that fail

quiet_after : (number failed : ℕ) (old new : Option (List Step)) → new ≡ after_failed number failed old → IsQuiet old new
quiet_after number zero old new is = quiet_same old new is
quiet_after number (suc n) old new is =
    quiet_trans old (after_failed number n old) new (quiet_after number n old (after_failed number n old) refl) (quiet_step (after_failed number n old) new (Failed (Segment number) NotDone) refl is)

ends_after : (number failed : ℕ) (old new : Option (List Step)) → 0 < failed → new ≡ after_failed number failed old → EndsIn (IsFailed (Segment number)) old new
ends_after number zero old new some is = absurd (omega (arith, some))
ends_after number (suc n) old new some is =
    ends_on (IsFailed (Segment number)) old (after_failed number n old) new (went_quiet old (after_failed number n old) (quiet_after number n old (after_failed number n old) refl))
    (ends_step (IsFailed (Segment number)) (after_failed number n old) new (Failed (Segment number) NotDone) refl is)

-- one read more failed, of the segment that is open
pub one_more_failed : (number others failed : ℕ) (old mid new : Option (List Step)) → others ≡ number → mid ≡ after_failed number failed old → new ≡ with_step mid (Failed (Segment others) NotDone) → new ≡ after_failed number (failed + 1) old
one_more_failed number others failed old mid new same is step =
    let next : suc failed ≡ failed + 1 = omega arith in
    step ∙ (ap (λ (n : ℕ). with_step mid (Failed (Segment n) NotDone)) same
    ∙ (ap (λ (s : Option (List Step)). with_step s (Failed (Segment number) NotDone)) is ∙ ap (λ (n : ℕ). after_failed number n old) next))

none_failed : (number failed : ℕ) (old new : Option (List Step)) → failed ≡ 0 → new ≡ after_failed number failed old → new ≡ old
none_failed number failed old new none is = is ∙ ap (λ (n : ℕ). after_failed number n old) none

-- what a reader said that counts the reads that failed
pub since_result : (number failed : ℕ) (old new : Option (List Step)) (result : Result Recovered (OrMemory RecoveryFault)) → ReadsBy 0 result failed → new ≡ after_failed number failed old → ReadsSince number old result new
since_result number failed old new (Ok recovered) by is = none_failed number failed old new by is
since_result number failed old new (Err OutOfMemory) by is = none_failed number failed old new by is
since_result number failed old new (Err (Fault Unread)) by is = (quiet_after number failed old new is, ends_after number failed old new (by (omega arith)) is)
since_result number failed old new (Err (Fault TooLong)) by is = none_failed number failed old new by is
since_result number failed old new (Err (Fault (Form fault))) by is = none_failed number failed old new by is
since_result number failed old new (Err (Fault (Unfollowed fault))) by is = none_failed number failed old new by is

pub quiet_result : (number : ℕ) (old new : Option (List Step)) (result : Result Recovered (OrMemory RecoveryFault)) → ReadsSince number old result new → IsQuiet old new
quiet_result number old new (Ok recovered) since = quiet_same old new since
quiet_result number old new (Err OutOfMemory) since = quiet_same old new since
quiet_result number old new (Err (Fault Unread)) since = since.0
quiet_result number old new (Err (Fault TooLong)) since = quiet_same old new since
quiet_result number old new (Err (Fault (Form fault))) since = quiet_same old new since
quiet_result number old new (Err (Fault (Unfollowed fault))) since = quiet_same old new since
