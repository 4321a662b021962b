-- What steps append to segments.
use Rattle.std.proofs.Common.{◌≡◌, ◌∙◌, ℕ, Option, Some, None, List, [], ◌∷◌, ◌++◌, refl, sym, ap, append_assoc, append-nil}
use Rattle.std.specs.Io.KnownBytes.{Appends, Keeps}
use Rattle.host_journal.specs.declared.disk.DiskFault.{DiskFault}
use Rattle.host_journal.specs.declared.fault.JournalFile.{JournalFile}
use Rattle.host_journal.specs.Disks.{Step, Locked, FolderMade, ManifestMade, SegmentMade, Opened, CutTo, Kept, Synced, NotOut, Out, Refused, Failed, with_step, kept_by, kept_so_far}

pub kept_both : (first second : List Step) → kept_by (first ++ second) ≡ kept_by first ++ kept_by second
kept_both [] second = refl
kept_both (Locked ∷ first) second = kept_both first second
kept_both (FolderMade ∷ first) second = kept_both first second
kept_both (ManifestMade number bytes ∷ first) second = kept_both first second
kept_both (SegmentMade number bytes ∷ first) second = kept_both first second
kept_both (Opened number ∷ first) second = kept_both first second
kept_both (CutTo bytes ∷ first) second = kept_both first second
kept_both (Kept bytes ∷ first) second = ap (λ (t : List ℕ). bytes ++ t) (kept_both first second) ∙ sym (append_assoc bytes (kept_by first) (kept_by second))
kept_both (Synced ∷ first) second = kept_both first second
kept_both (Out bytes ∷ first) second = kept_both first second
kept_both (Refused ∷ first) second = kept_both first second
kept_both (Failed file fault ∷ first) second = kept_both first second
kept_both (NotOut ∷ first) second = kept_both first second

-- a step that keeps nothing
pub nothing_kept : (steps : List Step) (step : Step) → kept_by (step ∷ []) ≡ [] → kept_by (steps ++ step ∷ []) ≡ kept_by steps
nothing_kept steps step none = kept_both steps (step ∷ []) ∙ ap (λ (t : List ℕ). kept_by steps ++ t) none ∙ append-nil (kept_by steps)

pub still_kept : (old : Option (List Step)) (step : Step) → kept_by (step ∷ []) ≡ [] → kept_so_far (with_step old step) ≡ kept_so_far old
still_kept None step none = refl
still_kept (Some steps) step none = ap Some (nothing_kept steps step none)

pub kept_more : (old new : Option (List Step)) (more : List ℕ) → new ≡ with_step old (Kept more) → Appends (kept_so_far old) (kept_so_far new) more
kept_more None new more is = tt
kept_more (Some steps) None more is = cc
kept_more (Some steps) (Some after) more is =
    let same : after ≡ steps ++ Kept more ∷ [] = cc in
    ap kept_by same ∙ kept_both steps (Kept more ∷ []) ∙ ap (λ (t : List ℕ). kept_by steps ++ t) (append-nil more)

pub synced_keeps : (old new : Option (List Step)) → new ≡ with_step old Synced → kept_so_far new ≡ kept_so_far old
synced_keeps old new is = ap kept_so_far is ∙ still_kept old Synced refl

pub put_keeps : (old new : Option (List Step)) (bytes : List ℕ) → new ≡ with_step old (Out bytes) → kept_so_far new ≡ kept_so_far old
put_keeps old new bytes is = ap kept_so_far is ∙ still_kept old (Out bytes) refl

pub failed_keeps : (old new : Option (List Step)) (file : JournalFile) (fault : DiskFault) → new ≡ with_step old (Failed file fault) → kept_so_far new ≡ kept_so_far old
failed_keeps old new file fault is = ap kept_so_far is ∙ still_kept old (Failed file fault) refl

pub unput_keeps : (old new : Option (List Step)) → new ≡ with_step old NotOut → kept_so_far new ≡ kept_so_far old
unput_keeps old new is = ap kept_so_far is ∙ still_kept old NotOut refl

pub stays_kept : (old new : Option (List ℕ)) → new ≡ old → Keeps old new
stays_kept None new is = tt
stays_kept (Some bytes) None is = cc
stays_kept (Some bytes) (Some after) is = cc
