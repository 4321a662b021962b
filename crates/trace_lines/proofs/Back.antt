-- Calls and their words with values: there and back, a line a row.
use Rattle.std.proofs.Common.{◌≡◌, ℕ, Some, None, List, refl, sym, ap, ◌∙◌}
use Rattle.ccb.specs.Completion.{Outcome}
use Rattle.ccb.specs.declared.place.Place.TheVariants.{Controller, Device}
use Rattle.world_calls.specs.declared.call.Call.{Call}
use Rattle.world_calls.specs.declared.call.Call.TheVariants as calls
use Rattle.trace_lines.specs.Calls.{number_of, one, two, submitted, completed, values_of, word_of, word_text, call_of}
use Rattle.trace_lines.specs.CallsAreLines.{CallsAreLines}
use Rattle.trace_lines.specs.Rows.{row_of}
use Rattle.trace_lines.specs.Lines.{fields_text}
use Rattle.trace_lines.specs.declared.kind.Kind.TheVariants as kinds
use Rattle.trace_lines.specs.declared.kind.Slots.{Slots}
use Rattle.trace_lines.specs.declared.value.Value.{Value}
use Rattle.trace_lines.specs.declared.value.Value.TheVariants as values
use Rattle.trace_lines.specs.declared.word.Word.{Word}
use Rattle.trace_lines.specs.declared.word.Word.TheVariants as words
use Rattle.trace_lines.proofs.Held.{HasSlots, slots_of, holds_nothing, holds_number, holds_class, holds_long_number, holds_status, holds_byte, holds_bytes, as_one, as_two, as_three_more, as_four}
use Rattle.trace_lines.proofs.Tests.{parts_of}

there_and_back : (call : Call) → call_of (word_of call) (values_of call) ≡ Some call
there_and_back (calls.Submit queue priority retries None) = refl
there_and_back (calls.Submit queue priority retries (Some class)) = refl
there_and_back (calls.Dispatch queue) = refl
there_and_back (calls.Complete outcome) = refl
there_and_back (calls.Withdraw ccb) = refl
there_and_back (calls.GuestFreeze (Device queue) guest) = refl
there_and_back (calls.GuestFreeze (Controller controller) guest) = refl
there_and_back (calls.GuestRelease freeze) = refl
there_and_back (calls.Clock reading) = refl
there_and_back (calls.Park run) = refl
there_and_back (calls.Resume run) = refl

from : (made call : Call) (word : Word) (held : Slots Value) → (word_of made ≡ word) × (values_of made ≡ held) → Some made ≡ Some call → (word_of call ≡ word) × (values_of call ≡ held)
from made call word held its e = let same : made ≡ call = cc in (ap word_of (sym same) ∙ its.0, ap values_of (sym same) ∙ its.1)

one_number : (word : Word) (make : ℕ → Call) (held : Slots Value) (call : Call) → HasSlots (record { first = Some kinds.Number; second = None; third = None; fourth = None }) held
    → ((n : ℕ) → (word_of (make n) ≡ word) × (values_of (make n) ≡ one (values.Number n))) → (call_of word held ≡ Some call) → ((n : ℕ) → call_of word (one (values.Number n)) ≡ Some (make n)) → (word_of call ≡ word) × (values_of call ≡ held)
one_number word make held call s its e made =
    let a = holds_number held.first s.one s.first in
    let is = as_one held (values.Number a.0) a.1 (holds_nothing held.second s.two s.second) (holds_nothing held.third s.three s.third) (holds_nothing held.fourth s.four s.fourth) in
    let at : Some (make a.0) ≡ Some call = sym (made a.0) ∙ ap (call_of word) (sym is) ∙ e in
    let found = from (make a.0) call word (one (values.Number a.0)) (its a.0) at in
    (found.0, found.1 ∙ sym is)

two_numbers : (word : Word) (make : ℕ → ℕ → Call) (held : Slots Value) (call : Call) → HasSlots (record { first = Some kinds.Number; second = Some kinds.Number; third = None; fourth = None }) held
    → ((n m : ℕ) → (word_of (make n m) ≡ word) × (values_of (make n m) ≡ two (values.Number n) (values.Number m))) → (call_of word held ≡ Some call)
    → ((n m : ℕ) → call_of word (two (values.Number n) (values.Number m)) ≡ Some (make n m)) → (word_of call ≡ word) × (values_of call ≡ held)
two_numbers word make held call s its e made =
    let a = holds_number held.first s.one s.first in
    let b = holds_number held.second s.two s.second in
    let is = as_two held (values.Number a.0) (values.Number b.0) a.1 b.1 (holds_nothing held.third s.three s.third) (holds_nothing held.fourth s.four s.fourth) in
    let at : Some (make a.0 b.0) ≡ Some call = sym (made a.0 b.0) ∙ ap (call_of word) (sym is) ∙ e in
    let found = from (make a.0 b.0) call word (two (values.Number a.0) (values.Number b.0)) (its a.0 b.0) at in
    (found.0, found.1 ∙ sym is)

back_and_there : (word : Word) (held : Slots Value) (text : List ℕ) (call : Call) → fields_text (row_of word).fields held ≡ Some text → call_of word held ≡ Some call → (word_of call ≡ word) × (values_of call ≡ held)
unfolding row_of
back_and_there words.Submit held text call e made =
    let s = slots_of (row_of words.Submit).fields held text e in
    let a = holds_number held.first s.one s.first in
    let b = holds_number held.second s.two s.second in
    let d = holds_number held.third s.three s.third in
    let f = holds_class held.fourth s.four s.fourth in
    let is : held ≡ submitted (record { 0 = a.0 }) b.0 d.0 f.0 = as_three_more held (values.Number a.0) (values.Number b.0) (values.Number d.0) (number_of f.0) a.1 b.1 d.1 f.1 in
    let found = from (calls.Submit (record { 0 = a.0 }) b.0 d.0 f.0) call words.Submit (submitted (record { 0 = a.0 }) b.0 d.0 f.0) (refl, refl)
    (sym (there_and_back (calls.Submit (record { 0 = a.0 }) b.0 d.0 f.0)) ∙ ap (call_of words.Submit) (sym is) ∙ made) in
    (found.0, found.1 ∙ sym is)
back_and_there words.Dispatch held text call e made =
    one_number words.Dispatch (λ n. calls.Dispatch (record { 0 = n })) held call (slots_of (row_of words.Dispatch).fields held text e) (λ n. (refl, refl)) made (λ n. refl)
back_and_there words.Complete held text call e made =
    let s = slots_of (row_of words.Complete).fields held text e in
    let a = holds_number held.first s.one s.first in
    let b = holds_status held.second s.two s.second in
    let d = holds_byte held.third s.three s.third in
    let f = holds_bytes held.fourth s.four s.fourth in
    let outcome : Outcome = record { ccb = record { 0 = a.0 }; status = b.0; scsi = d.0; sense = f.0 } in
    let is : held ≡ completed outcome = as_four held (values.Number a.0) (values.Status b.0) (values.Byte d.0) (values.Bytes f.0) a.1 b.1 d.1 f.1 in
    let found = from (calls.Complete outcome) call words.Complete (completed outcome) (refl, refl) (ap (call_of words.Complete) (sym is) ∙ made) in
    (found.0, found.1 ∙ sym is)
back_and_there words.Withdraw held text call e made =
    one_number words.Withdraw (λ n. calls.Withdraw (record { 0 = n })) held call (slots_of (row_of words.Withdraw).fields held text e) (λ n. (refl, refl)) made (λ n. refl)
back_and_there words.Advance held text call e made = absurd cc
back_and_there words.FreezeQueue held text call e made =
    two_numbers words.FreezeQueue (λ n m. calls.GuestFreeze (Device (record { 0 = n })) m) held call (slots_of (row_of words.FreezeQueue).fields held text e) (λ n m. (refl, refl)) made (λ n m. refl)
back_and_there words.FreezeController held text call e made =
    two_numbers words.FreezeController (λ n m. calls.GuestFreeze (Controller n) m) held call (slots_of (row_of words.FreezeController).fields held text e) (λ n m. (refl, refl)) made (λ n m. refl)
back_and_there words.ReleaseFreeze held text call e made =
    one_number words.ReleaseFreeze calls.GuestRelease held call (slots_of (row_of words.ReleaseFreeze).fields held text e) (λ n. (refl, refl)) made (λ n. refl)
back_and_there words.Clock held text call e made =
    let s = slots_of (row_of words.Clock).fields held text e in
    let a = holds_long_number held.first s.one s.first in
    let is = as_one held (values.LongNumber a.0) a.1 (holds_nothing held.second s.two s.second) (holds_nothing held.third s.three s.third) (holds_nothing held.fourth s.four s.fourth) in
    let found = from (calls.Clock a.0) call words.Clock (one (values.LongNumber a.0)) (refl, refl) (ap (call_of words.Clock) (sym is) ∙ made) in
    (found.0, found.1 ∙ sym is)
back_and_there words.Park held text call e made =
    one_number words.Park calls.Park held call (slots_of (row_of words.Park).fields held text e) (λ n. (refl, refl)) made (λ n. refl)
back_and_there words.Resume held text call e made =
    one_number words.Resume calls.Resume held call (slots_of (row_of words.Resume).fields held text e) (λ n. (refl, refl)) made (λ n. refl)

pub calls_are_lines : CallsAreLines
calls_are_lines = (
  there_and_back,
  λ word held text call e made.
      let parts = parts_of (Some (word_text word)) (fields_text (row_of word).fields held) text e in
      back_and_there word held parts.1 call parts.3 made,
)
