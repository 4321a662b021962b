-- What a line reports of a CCB may be reported.
use Rattle.std.proofs.Common.{◌≡◌, ◌≢◌, ◌<◌, ◌≤◌, ℕ, true, false, Option, Some, List, length, get_or, ap, codes, nat_lt, Fits, w8, arith, unwrap_or}
use Rattle.std.proofs.lemmas.List.Elements.{All-from_get_or}
use Rattle.ccb.specs.Completion.{Outcome, IsCompletion}
use Rattle.ccb.specs.Status.{code_of}
use Rattle.ccb.specs.declared.cam_status.CamStatus.{CamStatus}
use Rattle.ccb.specs.declared.cam_status.CamStatus.TheVariants.{RequestInProgress}
use Rattle.trace_lines.specs.Calls.{word_text, outcome_of}
use Rattle.trace_lines.specs.Lines.{line_text, fields_text, slot_text}
use Rattle.trace_lines.specs.Rows.{row_of}
use Rattle.trace_lines.specs.Texts.{pair_text, field_text, status_text}
use Rattle.trace_lines.specs.Values.{status_in}
use Rattle.trace_lines.specs.declared.kind.Kind.TheVariants as kinds
use Rattle.trace_lines.specs.declared.kind.Slots.{Slots}
use Rattle.trace_lines.specs.declared.value.Value.{Value}
use Rattle.trace_lines.specs.declared.value.Value.TheVariants as values
use Rattle.trace_lines.specs.declared.word.Word.TheVariants as words
use Rattle.trace_lines.proofs.Held.{slots_of}
use Rattle.trace_lines.proofs.Tests.{parts_of, passed}

coded : (status : CamStatus) → nat_lt 0 (code_of status) ≡ true → status ≢ RequestInProgress
coded status some is = let none : nat_lt 0 (code_of status) ≡ false = ap (λ (s : CamStatus). nat_lt 0 (code_of s)) is in absurd cc

spelled : (value : Option Value) (text : List ℕ) → slot_text (Some kinds.Status) value ≡ Some text → unwrap_or (status_in value) RequestInProgress ≢ RequestInProgress
unfolding field_text
spelled (Some (values.Status status)) text e =
    let parts = parts_of (Some (codes " ")) (status_text status) text e in
    coded status (passed (nat_lt 0 (code_of status)) (pair_text (code_of status)) parts.1 parts.3).0
spelled value text e = absurd cc

-- no line says that a CCB is in progress
pub finished : (held : Slots Value) (text : List ℕ) → line_text words.Complete held ≡ Some text → (outcome_of held).status ≢ RequestInProgress
unfolding row_of
finished held text e =
    let parts = parts_of (Some (word_text words.Complete)) (fields_text (row_of words.Complete).fields held) text e in
    let slots = slots_of (row_of words.Complete).fields held parts.1 parts.3 in
    spelled held.second slots.two slots.second

below : (n : ℕ) → Fits w8 n → n < 256
below n fit = omega arith

-- what is finished is a completion, of at most 64 bytes
pub is_completion : (outcome : Outcome) → outcome.status ≢ RequestInProgress → outcome.scsi < 256 → length outcome.sense ≤ 64 → ((i : ℕ) → Fits w8 (get_or outcome.sense i 0)) → IsCompletion outcome
is_completion outcome finished byte few fit = record {
  finished = finished;
  scsi_byte = byte;
  few = few;
  sense_bytes = All-from_get_or (λ byte. byte < 256) outcome.sense 0 (λ i within. below (get_or outcome.sense i 0) (fit i));
}
