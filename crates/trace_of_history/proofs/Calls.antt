-- A call that is an event, with what it is answered, has a text.
use Rattle.std.proofs.Common.{◌≡◌, ◌+◌, ◌&&◌, ◌==◌, not, ℕ, Bool, true, false, cond, Option, Some, None, List, [], ◌∷◌, length, inl, inr, refl, ap, sym, subst, ◌∙◌, arith, codes, nat_lt, nat_le}
use Rattle.std.specs.Prelude.{IsSome, flat_map}
use Rattle.std.specs.List.{list_all}
use Rattle.std.specs.Option.{option_map}
use Rattle.std.proofs.lemmas.Bool.{cases_Bool, cond-true, cond-false, and_parts, and_from, lt-ltb}
use Rattle.std.proofs.lemmas.Bool.Decides.{nat_tests}
use Rattle.ccb.specs.Completion.{Outcome}
use Rattle.ccb.specs.Status.{code_of}
use Rattle.ccb.specs.declared.cam_status.CamStatus.TheVariants.{RequestInProgress}
use Rattle.freeze_ledger.specs.declared.freeze.Freeze.{Freeze}
use Rattle.ccb.specs.declared.place.Place.TheVariants.{Controller, Device}
use Rattle.freeze_ledger.specs.Freezes.{entry_of, meets_limit}
use Rattle.world_calls.specs.Answered.{started_answer}
use Rattle.world_calls.specs.declared.call.Call.{Call}
use Rattle.world_calls.specs.declared.call.Call.TheVariants as calls
use Rattle.world_calls.specs.declared.call_answer.CallAnswer.{CallAnswer}
use Rattle.world_calls.specs.declared.call_answer.CallAnswer.TheVariants as answers
use Rattle.ccb.specs.declared.call_refusal.CallRefusal.{CallRefusal}
use Rattle.ccb.specs.CallRefusalText.{row_of as refusal_row}
use Rattle.world_calls.specs.declared.record.Record.TheVariants.{Called}
use Rattle.world_calls.specs.declared.start.Start.{Start}
use Rattle.world_calls.specs.declared.trace.Version.{Version}
use Rattle.world_calls.specs.declared.trace.Version.TheVariants.{One, Three, Two}
use Rattle.trace_lines.specs.Answers.{answer_text}
use Rattle.trace_lines.specs.Calls.{number_of, values_of, word_of, word_text}
use Rattle.trace_lines.specs.Lines.{fields_text, line_text, slot_text}
use Rattle.trace_lines.specs.Rows.{row_of}
use Rattle.trace_lines.specs.Texts.{field_text, is_byte, pair_text, sense_text, status_text}
use Rattle.trace_lines.specs.declared.kind.Kind.TheVariants as kinds
use Rattle.trace_lines.specs.declared.table.Row.{Row}
use Rattle.trace_lines.specs.declared.word.Word.TheVariants as words
use Rattle.trace.specs.HasText.{AnswerFits, CallFits, ClassFits}
use Rattle.world.specs.World.{Setup, LiveCcb, LiveRun, World, version_of}
use Rattle.world.specs.Lookups.{ccb_of, next_waiting, run_of}
use Rattle.world.specs.Event.{called, Reply, refused, replies, went_on, result}
use Rattle.world.specs.FreezeSteps.{guest_releases, is_guest}
use Rattle.world.specs.CcbSteps.{completes, is_success, recovers, starts, withdraws}
use Rattle.world.specs.ParkSteps.{parks, resumes}
use Rattle.world.specs.Refusals.{refusals_of, unless_refused}
use Rattle.world.specs.Step.{is_call, performs, WorldStep}
use Rattle.world_laws.proofs.Steps.Running.{some_is}
use Rattle.trace_of_history.proofs.Somes.{HasLine, some_append, some_where, some_number, some_long_number, some_named, some_field, some_line, some_entry}

-- ---- what is answered

-- a reply to a call of this line has a text
abbrev pub HasReply : Row → Reply → Type 0
HasReply row (replies answer) = AnswerFits answer → IsSome (answer_text row answer)
HasReply row went_on = ⊥
HasReply row (result r0) = ⊥

by_reply : (P : Reply → Type 0) (told : Reply × World) (reply : Reply) (after : World) → P told.0 → Some told ≡ Some (reply, after) → P reply
by_reply P told reply after has e = subst P (sym (ap (λ (x : Reply × World). x.0) (some_is told (reply, after) e))) has

-- where a test says what is done, if anything
by_test : (P : Reply → Type 0) (test : Bool) (told : Reply × World) (reply : Reply) (after : World) → P told.0 → cond test (Some told) None ≡ Some (reply, after) → P reply
by_test P true told reply after has e = by_reply P told reply after has e
by_test P false told reply after has e = absurd (let bad : None ≡ Some (reply, after) = e in cc)

pub by_found : (P : Reply → Type 0) {X : Type 0} (does : X → Reply × World) (found : Option X) (reply : Reply) (after : World) → ((x : X) → P (does x).0) → option_map does found ≡ Some (reply, after) → P reply
by_found P does None reply after has e = absurd (let bad : None ≡ Some (reply, after) = e in cc)
by_found P does (Some x) reply after has e = by_reply P (does x) reply after (has x) e

-- a start is answered by the CCB, or by the CCB and its advice
starts_a_ccb : (version : Version) (start : Start) → HasReply (row_of words.Dispatch) (replies (started_answer version start))
unfolding row_of
starts_a_ccb One start = λ fits. some_named (codes "ccb ") start.ccb.0 fits
starts_a_ccb Two start = λ fits. some_named (codes "ccb ") start.ccb.0 fits
starts_a_ccb Three start = λ fits. some_append _ _ (some_named (codes "ccb ") start.ccb.0 fits.0) (some_named (codes " advice ") start.advice fits.1)

starts_a_run : (run freeze : ℕ) → HasReply (row_of words.Complete) (replies (answers.Started run freeze))
unfolding row_of
starts_a_run run freeze = λ fits. some_append _ _ (some_named (codes "run ") run fits.0) (some_named (codes " freeze ") freeze fits.1)

done_text : HasReply (row_of words.Complete) (replies answers.Done)
unfolding row_of
done_text = λ fits. refl

recovered : (setup : Setup) (world : World) (outcome : Outcome) (live : LiveCcb) (full : Bool) → meets_limit (Device live.ccb.queue) world.transport.freezes world.transport.greatest_freeze ≡ full → HasReply (row_of words.Complete) (recovers setup world live.ccb outcome).0
recovered setup world outcome live true full = rw full (starts_a_run (world.runs.greatest + 1) 0)
recovered setup world outcome live false full = rw full (starts_a_run (world.runs.greatest + 1) (world.transport.greatest_freeze + 1))

completed : (setup : Setup) (world : World) (outcome : Outcome) (live : LiveCcb) (success : Bool) → is_success outcome.status ≡ success → HasReply (row_of words.Complete) (completes setup world outcome live).0
completed setup world outcome live true success = rw success done_text
completed setup world outcome live false success = rw success (recovered setup world outcome live (meets_limit (Device live.ccb.queue) world.transport.freezes world.transport.greatest_freeze) refl)

released : (world : World) (found : Option Freeze) (reply : Reply) (after : World) → guest_releases world found ≡ Some (reply, after) → HasReply (row_of words.ReleaseFreeze) reply
unfolding row_of
released world None reply after e = absurd (let bad : None ≡ Some (reply, after) = e in cc)
released world (Some freeze) reply after e = by_test (HasReply (row_of words.ReleaseFreeze)) (is_guest freeze.holder) _ reply after (λ fits. some_number _ fits) e

parked : (world : World) (found : Option LiveRun) (reply : Reply) (after : World) → parks world found ≡ Some (reply, after) → HasReply (row_of words.Park) reply
unfolding row_of
parked world None reply after e = absurd (let bad : None ≡ Some (reply, after) = e in cc)
parked world (Some run) reply after e = by_test (HasReply (row_of words.Park)) run.out _ reply after (λ fits. refl) e

performed : (setup : Setup) (world : World) (call : Call) (reply : Reply) (after : World) → performs setup world call ≡ Some (reply, after) → HasReply (row_of (word_of call)) reply
unfolding row_of
performed setup world (calls.Submit queue priority retries class) reply after e = by_reply (HasReply (row_of words.Submit)) _ reply after (λ fits. some_named (codes "ccb ") _ fits) e
performed setup world (calls.Dispatch queue) reply after e = by_found (HasReply (row_of words.Dispatch)) (starts setup world) (next_waiting queue.0 world.transport.live) reply after (λ live. starts_a_ccb (version_of setup) (record { ccb = live.ccb.number; advice = live.ccb.advice })) e
performed setup world (calls.Complete outcome) reply after e =
    by_found (HasReply (row_of words.Complete)) (completes setup world outcome) (ccb_of outcome.ccb.0 world.transport.live) reply after (λ live. completed setup world outcome live (is_success outcome.status) refl) e
performed setup world (calls.Withdraw ccb) reply after e = by_found (HasReply (row_of words.Withdraw)) (withdraws world) (ccb_of ccb.0 world.transport.live) reply after (λ live fits. refl) e
performed setup world (calls.GuestFreeze (Device queue) guest) reply after e = by_reply (HasReply (row_of words.FreezeQueue)) _ reply after (λ fits. some_named (codes "freeze ") _ fits) e
performed setup world (calls.GuestFreeze (Controller controller) guest) reply after e = by_reply (HasReply (row_of words.FreezeController)) _ reply after (λ fits. some_named (codes "freeze ") _ fits) e
performed setup world (calls.GuestRelease freeze) reply after e = released world (entry_of freeze world.transport.freezes) reply after e
performed setup world (calls.Clock reading) reply after e = by_reply (HasReply (row_of words.Clock)) _ reply after (λ fits. some_number _ fits) e
performed setup world (calls.Park run) reply after e = parked world (run_of run world.runs.list) reply after e
performed setup world (calls.Resume run) reply after e = by_found (HasReply (row_of words.Resume)) (resumes world) (run_of run world.runs.list) reply after (λ live fits. refl) e

-- ---- why it is refused

-- each refusal is such a reply
abbrev pub AreEach : (Reply → Type 0) → List (Bool × CallRefusal) → Type 0
AreEach P [] = Unit {0}
AreEach P (x ∷ xs) = P (refused x.1) × AreEach P xs

among : (setup : Setup) (world : World) (call : Call) → AreEach (HasReply (row_of (word_of call))) (refusals_of setup world call)
unfolding row_of refusal_row
among setup world (calls.Submit queue priority retries class) = (λ fits. refl, (λ fits. refl, tt))
among setup world (calls.Dispatch queue) = (λ fits. refl, (λ fits. refl, (λ fits. refl, (λ fits. refl, (λ fits. refl, tt)))))
among setup world (calls.Complete outcome) = (λ fits. refl, (λ fits. refl, (λ fits. refl, tt)))
among setup world (calls.Withdraw ccb) = (λ fits. refl, (λ fits. refl, (λ fits. refl, tt)))
among setup world (calls.GuestFreeze (Device queue) guest) = (λ fits. refl, (λ fits. refl, tt))
among setup world (calls.GuestFreeze (Controller controller) guest) = (λ fits. refl, (λ fits. refl, tt))
among setup world (calls.GuestRelease freeze) = tt
among setup world (calls.Clock reading) = (λ fits. refl, (λ fits. refl, tt))
among setup world (calls.Park run) = tt
among setup world (calls.Resume run) = (λ fits. refl, tt)

-- the first that holds, or else what is done
pub told : (P : Reply → Type 0) (xs : List (Bool × CallRefusal)) (world : World) (does : Option (Reply × World)) (reply : Reply) (after : World) → AreEach P xs → (does ≡ Some (reply, after) → P reply) → unless_refused xs world does ≡ Some (reply, after) → P reply
told P [] world does reply after are otherwise e = otherwise e
told P (x ∷ xs) world does reply after are otherwise e =
    elim (cases_Bool x.0) [
      | inl holds ↦ by_reply P (refused x.1, world) reply after are.0 (sym (cond-true x.0 _ _ holds) ∙ e)
      | inr fails ↦ told P xs world does reply after are.1 otherwise (sym (cond-false x.0 _ _ fails) ∙ e)
    ]

-- ---- what is asked

some_status : (outcome : Outcome) → not (code_of outcome.status == code_of RequestInProgress) ≡ true → IsSome (status_text outcome.status)
some_status outcome reported = some_where (nat_lt 0 (code_of outcome.status)) (pair_text (code_of outcome.status)) (grind (arith, nat_tests))

some_sense : (sense : List ℕ) → nat_le (length sense) 64 ≡ true → list_all is_byte sense ≡ true → IsSome (sense_text sense)
some_sense [] few bytes = refl
some_sense (byte ∷ sense) few bytes =
    some_where _ (flat_map pair_text (byte ∷ sense))
    (and_from (nat_lt 0 (length (byte ∷ sense)) && nat_le (length (byte ∷ sense)) 64) (list_all is_byte (byte ∷ sense))
    (and_from (nat_lt 0 (length (byte ∷ sense))) (nat_le (length (byte ∷ sense)) 64) (lt-ltb 0 (length (byte ∷ sense)) (omega arith)) few) bytes)

-- a class that a submission says, or leaves out
some_class : (class : Option ℕ) → ClassFits class → IsSome (slot_text (Some kinds.Class) (number_of class))
unfolding field_text
some_class None fits = refl
some_class (Some class) fits = some_field _ (some_number class fits)

asked : (setup : Setup) (call : Call) → is_call setup call ≡ true → CallFits call → IsSome (line_text (word_of call) (values_of call))
unfolding row_of fields_text field_text
asked setup (calls.Submit queue priority retries class) can fits =
    some_line (word_text words.Submit) _ _ _ _ (some_field _ (some_number queue.0 fits.0)) (some_field _ (some_number priority fits.1)) (some_field _ (some_number retries fits.2)) (some_class class fits.3)
asked setup (calls.Dispatch queue) can fits = some_line (word_text words.Dispatch) _ (Some []) (Some []) (Some []) (some_field _ (some_number queue.0 fits)) refl refl refl
asked setup (calls.Complete outcome) can fits =
    let reported : Bool = not (code_of outcome.status == code_of RequestInProgress) in
    let all = and_parts (reported && nat_lt outcome.scsi 256 && nat_le (length outcome.sense) 64) (list_all is_byte outcome.sense) can in
    let few = and_parts (reported && nat_lt outcome.scsi 256) (nat_le (length outcome.sense) 64) all.0 in
    let parts = and_parts reported (nat_lt outcome.scsi 256) few.0 in
    some_line (word_text words.Complete) _ _ _ _ (some_field _ (some_number outcome.ccb.0 fits)) (some_field _ (some_status outcome parts.0))
    (some_field _ (some_where (is_byte outcome.scsi) (pair_text outcome.scsi) parts.1)) (some_field _ (some_sense outcome.sense few.1 all.1))
asked setup (calls.Withdraw ccb) can fits = some_line (word_text words.Withdraw) _ (Some []) (Some []) (Some []) (some_field _ (some_number ccb.0 fits)) refl refl refl
asked setup (calls.GuestFreeze (Device queue) guest) can fits = some_line (word_text words.FreezeQueue) _ _ (Some []) (Some []) (some_field _ (some_number queue.0 fits.0)) (some_field _ (some_number guest fits.1)) refl refl
asked setup (calls.GuestFreeze (Controller controller) guest) can fits = some_line (word_text words.FreezeController) _ _ (Some []) (Some []) (some_field _ (some_number controller fits.0)) (some_field _ (some_number guest fits.1)) refl refl
asked setup (calls.GuestRelease freeze) can fits = some_line (word_text words.ReleaseFreeze) _ (Some []) (Some []) (Some []) (some_field _ (some_number freeze fits)) refl refl refl
asked setup (calls.Clock reading) can fits = some_line (word_text words.Clock) _ (Some []) (Some []) (Some []) (some_field _ (some_long_number reading fits)) refl refl refl
asked setup (calls.Park run) can fits = some_line (word_text words.Park) _ (Some []) (Some []) (Some []) (some_field _ (some_number run fits)) refl refl refl
asked setup (calls.Resume run) can fits = some_line (word_text words.Resume) _ (Some []) (Some []) (Some []) (some_field _ (some_number run fits)) refl refl refl

-- ---- both

-- what can be asked was asked
pub can_be : (setup : Setup) (before : World) (call : Call) (reply : Reply) (after : World) → WorldStep setup before (called call) reply after → is_call setup call ≡ true
can_be setup before call reply after e =
    elim (cases_Bool (is_call setup call)) [
      | inl can ↦ can
      | inr cannot ↦ absurd (let bad : None ≡ Some (reply, after) = sym (cond-false (is_call setup call) _ None cannot) ∙ e in cc)
    ]

-- and the answer is one of its line
pub answered : (setup : Setup) (before : World) (call : Call) (answer : CallAnswer) (after : World) → WorldStep setup before (called call) (replies answer) after → HasReply (row_of (word_of call)) (replies answer)
answered setup before call answer after e =
    told (HasReply (row_of (word_of call))) (refusals_of setup before call) before (performs setup before call) (replies answer) after (among setup before call) (performed setup before call (replies answer) after)
    (sym (cond-true (is_call setup call) _ None (can_be setup before call (replies answer) after e)) ∙ e)

pub call_has : (setup : Setup) (before : World) (call : Call) (answer : CallAnswer) (after : World) → WorldStep setup before (called call) (replies answer) after → HasLine (Called answer call)
call_has setup before call answer after e =
    let has = answered setup before call answer after e in
    λ fits. some_entry (line_text (word_of call) (values_of call)) (answer_text (row_of (word_of call)) answer) (asked setup call (can_be setup before call (replies answer) after e) fits.0) (has fits.1)
