-- A record is made of what was asked and of how that was answered.
use Rattle.std.proofs.Common.{◌≡◌, ◌≢◌, ℕ, Option, Some, None, List, refl, sym, ap, ◌∙◌}
use Rattle.world_calls.specs.declared.call.Call.{Call}
use Rattle.world_calls.specs.declared.call_answer.CallAnswer.{CallAnswer}
use Rattle.world_calls.specs.declared.record.Record.{Record}
use Rattle.world_calls.specs.declared.record.Record.TheVariants.{Called, Advance}
use Rattle.world_calls.specs.declared.record.StoppedAt.{StoppedAt}
use Rattle.world_calls.specs.declared.record.StoppedAt.TheVariants as stopped
use Rattle.trace_lines.specs.Answers.{answer_text}
use Rattle.trace_lines.specs.Calls.{call_of, three, values_of, word_of, word_text}
use Rattle.trace_lines.specs.Lines.{fields_text, line_text}
use Rattle.trace_lines.specs.Rows.{row_of}
use Rattle.trace_lines.specs.Texts.{long_number_text}
use Rattle.trace_lines.specs.Values.{number_at, stop_in}
use Rattle.trace_lines.specs.Written.{Reads}
use Rattle.trace_lines.specs.declared.kind.Slots.{Slots}
use Rattle.trace_lines.specs.declared.value.Stop.{Stop}
use Rattle.trace_lines.specs.declared.value.Stop.TheVariants as stops
use Rattle.trace_lines.specs.declared.value.Value.{Value}
use Rattle.trace_lines.specs.declared.value.Value.TheVariants as values
use Rattle.trace_lines.specs.declared.word.Word.{Word}
use Rattle.trace_lines.specs.declared.word.Word.TheVariants as words
use Rattle.trace_lines.proofs.Back.{calls_are_lines}
use Rattle.trace_lines.proofs.Held.{slots_of, holds_nothing, holds_number, holds_instructions, holds_stop, as_three}
use Rattle.trace_lines.proofs.Tests.{parts_of}
use Rattle.trace.specs.Reading.{ReadsAnswered, stopped_at}
use Rattle.trace.specs.TraceText.{asked_of, told_text, stop_of}

word_same : (a b : Word) (x y : Slots Value) → ◌≡◌ {A = Word × Slots Value} (a, x) (b, y) → a ≡ b
word_same a b x y e = ap (λ (it : Word × Slots Value). it.0) e

held_same : (a b : Word) (x y : Slots Value) → ◌≡◌ {A = Word × Slots Value} (a, x) (b, y) → x ≡ y
held_same a b x y e = ap (λ (it : Word × Slots Value). it.1) e

-- ---- a call

module _ (word : Word) (held : Slots Value) (told asked : List ℕ) (is : line_text word held ≡ Some asked) (other : word ≢ words.Advance) where
  told_same : (call : Call) (answer : CallAnswer) → word_of call ≡ word → answer_text (row_of (word_of call)) answer ≡ Some told → answer_text (row_of word) answer ≡ Some told
  told_same call answer same e = ap (λ (w : Word). answer_text (row_of w) answer) (sym same) ∙ e

  call_again : (call : Call) → ◌≡◌ {A = Word × Slots Value} (word_of call, values_of call) (word, held) → call_of word held ≡ Some call
  call_again call a = ap (λ (it : Word × Slots Value). call_of it.0 it.1) (sym a) ∙ calls_are_lines.0 call

  not_answered : Reads (answer_text (row_of word)) told None → (entry : Record) → asked_of entry ≡ (word, held) → told_text entry ≡ Some told → ⊥
  not_answered none (Called answer call) a t =
      let there = none.back answer (told_same call answer (word_same (word_of call) word (values_of call) held a) t) in
      absurd cc
  not_answered none (Advance run instructions stop r0) a t = other (sym (word_same words.Advance word _ held a))

  pub no_answer : Reads (answer_text (row_of word)) told None → ReadsAnswered word held told None
  no_answer none = record { said = tt; back = λ entry a t. absurd (not_answered none entry a t) }

  not_called : None ≡ call_of word held → (entry : Record) → asked_of entry ≡ (word, held) → ⊥
  not_called none (Called answer call) a = let there = call_again call a in absurd cc
  not_called none (Advance run instructions stop r0) a = other (sym (word_same words.Advance word _ held a))

  pub no_call : None ≡ call_of word held → ReadsAnswered word held told None
  no_call none = record { said = tt; back = λ entry a t. absurd (not_called none entry a) }

  module _ (answer : CallAnswer) (call : Call) (reads : Reads (answer_text (row_of word)) told (Some answer)) (made : Some call ≡ call_of word held) where
    back_called : (entry : Record) → asked_of entry ≡ (word, held) → told_text entry ≡ Some told → ◌≡◌ {A = Option Record} (Some (Called answer call)) (Some entry)
    back_called (Called other_answer other_call) a t =
        let answers = reads.back other_answer (told_same other_call other_answer (word_same (word_of other_call) word (values_of other_call) held a) t) in
        let calls_same : Some call ≡ Some other_call = made ∙ call_again other_call a in
        let p : answer ≡ other_answer = cc in
        let q : call ≡ other_call = cc in
        λ i. Some (Called (p i) (q i))
    back_called (Advance run instructions stop r0) a t = absurd (other (sym (word_same words.Advance word _ held a)))

    pub called : ReadsAnswered word held told (Some (Called answer call))
    called = record {
      said =
          let its = calls_are_lines.1 word held asked call is (sym made) in
          (λ i. (its.0 i, its.1 i), ap (λ (w : Word). answer_text (row_of w) answer) its.0 ∙ reads.said);
      back = back_called;
    }

-- ---- a run that went on

never_advance : (call : Call) → word_of call ≢ words.Advance
never_advance call e =
    let there : call_of words.Advance (values_of call) ≡ Some call = ap (λ (w : Word). call_of w (values_of call)) (sym e) ∙ calls_are_lines.0 call in
    absurd cc

kept_so : (stop : Stop) → stop_of (stopped_at stop) ≡ stop
kept_so (stops.Helper helper) = refl
kept_so (stops.Bytes helper bytes) = refl
kept_so (stops.Code helper code) = refl
kept_so stops.Exit = refl

kept_again : (kept : StoppedAt) → stopped_at (stop_of kept) ≡ kept
kept_again (stopped.Helper helper) = refl
kept_again (stopped.Trace helper bytes) = refl
kept_again (stopped.Finish helper code) = refl
kept_again stopped.Exit = refl

record IsShape (held : Slots Value) : Type 0 where
  run : ℕ
  count : ℕ
  stop : Stop
  is : held ≡ three (values.Number run) (values.Number count) (values.Stop stop)

shape : (held : Slots Value) (asked : List ℕ) → line_text words.Advance held ≡ Some asked → IsShape held
unfolding row_of
shape held asked e =
    let parts = parts_of (Some (word_text words.Advance)) (fields_text (row_of words.Advance).fields held) asked e in
    let s = slots_of (row_of words.Advance).fields held parts.1 parts.3 in
    let a = holds_number held.first s.one s.first in
    let b = holds_instructions held.second s.two s.second in
    let d = holds_stop held.third s.three s.third in
    record { run = a.0; count = b.0; stop = d.0; is = as_three held (values.Number a.0) (values.Number b.0) (values.Stop d.0) a.1 b.1 d.1 (holds_nothing held.fourth s.four s.fourth) }

module _ (held : Slots Value) (told asked : List ℕ) (is : line_text words.Advance held ≡ Some asked) where
  not_told : Reads long_number_text told None → (entry : Record) → asked_of entry ≡ (words.Advance, held) → told_text entry ≡ Some told → ⊥
  not_told none (Called answer call) a t = never_advance call (word_same (word_of call) words.Advance (values_of call) held a)
  not_told none (Advance run instructions stop r0) a t = let there = none.back r0 t in absurd cc

  pub no_r0 : Reads long_number_text told None → ReadsAnswered words.Advance held told None
  no_r0 none = record { said = tt; back = λ entry a t. absurd (not_told none entry a t) }

  -- such a line says where the run stopped
  pub no_stop : stop_in held.third ≡ None → ReadsAnswered words.Advance held told None
  no_stop none =
      let its = shape held asked is in
      let there : stop_in held.third ≡ Some its.stop = ap (λ (h : Slots Value). stop_in h.third) its.is in
      absurd cc

  module _ (r0 : ℕ) (stop : Stop) (kept : StoppedAt) (reads : Reads long_number_text told (Some r0)) (at : stop_in held.third ≡ Some stop) (kept_is : kept ≡ stopped_at stop) where
    back_advanced : (entry : Record) → asked_of entry ≡ (words.Advance, held) → told_text entry ≡ Some told → ◌≡◌ {A = Option Record} (Some (Advance (number_at held.first) (number_at held.second) kept r0)) (Some entry)
    back_advanced (Called answer call) a t = absurd (never_advance call (word_same (word_of call) words.Advance (values_of call) held a))
    back_advanced (Advance run count place number) a t =
        let same = held_same words.Advance words.Advance (three (values.Number run) (values.Number count) (values.Stop (stop_of place))) held a in
        let p : number_at held.first ≡ run = ap (λ (h : Slots Value). number_at h.first) (sym same) in
        let q : number_at held.second ≡ count = ap (λ (h : Slots Value). number_at h.second) (sym same) in
        let there : stop_in held.third ≡ Some (stop_of place) = ap (λ (h : Slots Value). stop_in h.third) (sym same) in
        let stop_same : stop ≡ stop_of place = cc in
        let k : kept ≡ place = kept_is ∙ ap stopped_at stop_same ∙ kept_again place in
        let numbers = reads.back number t in
        let z : r0 ≡ number = cc in
        λ i. Some (Advance (p i) (q i) (k i) (z i))

    asked_is : asked_of (Advance (number_at held.first) (number_at held.second) kept r0) ≡ (words.Advance, held)
    asked_is =
        let its = shape held asked is in
        let p : number_at held.first ≡ its.run = ap (λ (h : Slots Value). number_at h.first) its.is in
        let q : number_at held.second ≡ its.count = ap (λ (h : Slots Value). number_at h.second) its.is in
        let there : stop_in held.third ≡ Some its.stop = ap (λ (h : Slots Value). stop_in h.third) its.is in
        let stop_same : stop ≡ its.stop = cc in
        let k : stop_of kept ≡ its.stop = ap stop_of kept_is ∙ kept_so stop ∙ stop_same in
        let made : three (values.Number (number_at held.first)) (values.Number (number_at held.second)) (values.Stop (stop_of kept)) ≡ three (values.Number its.run) (values.Number its.count) (values.Stop its.stop) = λ i. three (values.Number (p i)) (values.Number (q i)) (values.Stop (k i)) in
        ap (λ (h : Slots Value). (words.Advance, h)) (made ∙ sym its.is)

    pub advanced : ReadsAnswered words.Advance held told (Some (Advance (number_at held.first) (number_at held.second) kept r0))
    advanced = record {
      said = (asked_is, reads.said);
      back = back_advanced;
    }
