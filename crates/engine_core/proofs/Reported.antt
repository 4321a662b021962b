-- A completion is one that a device can report, and what its status asks for.
use Rattle.std.proofs.Common.{◌≡◌, ℕ, zero, suc, ◌<◌, length, get_or, inl, inr, sym, ◌∙◌, List, [], ◌∷◌, Bool, true, false, not, eqb, ltb, refl, ap, arith}
use Rattle.std.specs.Prelude.{All}
use Rattle.std.specs.List.{list_all}
use Rattle.std.proofs.lemmas.Bool.{and_from, and_parts, cases_Bool, lt-ltb, ltb-true, le-leb, leb-true}
use Rattle.ccb.specs.declared.cam_status.CamStatus.{CamStatus}
use Rattle.ccb.specs.declared.cam_status.CamStatus.TheVariants.{RequestInProgress, RequestCompleted, RequestAborted, Busy, SelectionTimeout, CommandTimeout, ScsiStatusError, ScsiBusReset, BusDeviceResetSent, RequeueRequest}
use Rattle.ccb.specs.Status.{code_of}
use Rattle.ccb.specs.Completion.{Outcome, IsCompletion}
use Rattle.world.specs.CcbSteps.{is_success, is_completion}

all_bytes : (bytes : List ℕ) → All (λ (byte : ℕ). byte < 256) bytes → list_all (λ (byte : ℕ). ltb byte 256) bytes ≡ true
all_bytes [] all = refl
all_bytes (byte ∷ bytes) all =
    and_from (ltb byte 256) (list_all (λ (byte : ℕ). ltb byte 256) bytes) (lt-ltb byte 256 (all 0 byte (omega arith)))
    (all_bytes bytes (λ k d l. all (suc k) d (omega (arith, l))))

in_progress : (status : CamStatus) → (status ≡ RequestInProgress → ⊥) → not (eqb (code_of status) (code_of RequestInProgress)) ≡ true
in_progress RequestInProgress apart = absurd (apart refl)
in_progress RequestCompleted apart = refl
in_progress RequestAborted apart = refl
in_progress Busy apart = refl
in_progress SelectionTimeout apart = refl
in_progress CommandTimeout apart = refl
in_progress ScsiStatusError apart = refl
in_progress ScsiBusReset apart = refl
in_progress BusDeviceResetSent apart = refl
in_progress RequeueRequest apart = refl

-- what the type of completions keeps is what the world asks of one
pub reported : (outcome : Outcome) → IsCompletion outcome → is_completion outcome ≡ true
reported outcome it =
    and_from _ _
    (and_from _ _
    (and_from _ _ (in_progress outcome.status it.finished) (lt-ltb outcome.scsi 256 it.scsi_byte))
    (le-leb _ _ it.few))
    (all_bytes outcome.sense it.sense_bytes)

its_bytes : (bytes : List ℕ) → list_all (λ (byte : ℕ). ltb byte 256) bytes ≡ true → (k d : ℕ) → k < length bytes → get_or bytes k d < 256
its_bytes [] e k d l = absurd (omega (arith, l))
its_bytes (byte ∷ bytes) e zero d l = ltb-true byte 256 (and_parts (ltb byte 256) (list_all (λ (b : ℕ). ltb b 256) bytes) e).0
its_bytes (byte ∷ bytes) e (suc k) d l = its_bytes bytes (and_parts (ltb byte 256) (list_all (λ (b : ℕ). ltb b 256) bytes) e).1 k d (omega (arith, l))

-- and what no device can report is none
pub unreported : (outcome : Outcome) → (IsCompletion outcome → ⊥) → is_completion outcome ≡ false
unreported outcome none = elim (cases_Bool (is_completion outcome)) [
  | inl is ↦
      let last = and_parts _ _ is in
      let third = and_parts _ _ last.0 in
      let second = and_parts _ _ third.0 in
      absurd (none (record {
        finished = λ e. let bad : false ≡ true = sym (ap (λ (s : CamStatus). not (eqb (code_of s) (code_of RequestInProgress))) e) ∙ second.0 in cc;
        scsi_byte = ltb-true outcome.scsi 256 second.1;
        few = leb-true _ _ third.1;
        sense_bytes = its_bytes outcome.sense last.1;
      }))
  | inr other ↦ other
]

fails : (status : CamStatus) → (status ≡ RequestCompleted → ⊥) → is_success status ≡ false
fails RequestInProgress apart = refl
fails RequestCompleted apart = absurd (apart refl)
fails RequestAborted apart = refl
fails Busy apart = refl
fails SelectionTimeout apart = refl
fails CommandTimeout apart = refl
fails ScsiStatusError apart = refl
fails ScsiBusReset apart = refl
fails BusDeviceResetSent apart = refl
fails RequeueRequest apart = refl

-- a test for REQ_CMP is one for success
pub success_is : (status : CamStatus) (succeeded : Bool) → (succeeded ≡ true → status ≡ RequestCompleted) → (status ≡ RequestCompleted → succeeded ≡ true) → is_success status ≡ succeeded
success_is status true is made = ap is_success (is refl)
success_is status false is made = fails status (λ e. let bad : false ≡ true = made e in cc)
