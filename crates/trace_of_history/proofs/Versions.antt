-- A record of a history is one that a text of the configuration's version may have.
use Rattle.std.proofs.Common.{◌≡◌, ◌&&◌, ℕ, zero, suc, not, Bool, true, false, cond, Option, Some, None, List, [], ◌∷◌, take, drop, replicate, refl, ap, sym, subst, ◌∙◌, arith, nat_lt, rules}
use Rattle.std.specs.Prelude.{IsSome}
use Rattle.std.specs.List.{AllByRecursion}
use Rattle.std.proofs.lemmas.Bool.{and_from, cond-true, cond-false, le-leb}
use Rattle.std.proofs.lemmas.Bool.Decides.{nat_tests}
use Rattle.std.proofs.lemmas.List.Elements.{recursion_from_All}
use Rattle.std.proofs.lemmas.List.Sums.{sum_by-cons}
use Rattle.ccb.specs.declared.CcbId.{CcbId}
use Rattle.ccb.specs.declared.QueueId.{QueueId}
use Rattle.freeze_ledger.specs.declared.freeze.Freeze.{Freeze}
use Rattle.ccb.specs.declared.place.Place.{Place}
use Rattle.ccb.specs.declared.place.Place.TheVariants.{Controller, Device}
use Rattle.freeze_ledger.specs.Freezes.{frozen, names}
use Rattle.ccb.specs.Places.{is_place}
use Rattle.helpers.specs.Table.{are_classed, is_there, row_of as helper_row}
use Rattle.helpers.specs.declared.columns.Tells.{Tells}
use Rattle.helpers.specs.declared.columns.Tells.TheVariants as tells
use Rattle.helpers.specs.declared.limits.HelperSet.{HelperSet}
use Rattle.helpers.specs.declared.limits.HelperSet.TheVariants.{Classes, Controllers, Queues}
use Rattle.helpers.specs.declared.request.Request.{Request}
use Rattle.helpers.specs.declared.table.Helper.{Helper}
use Rattle.helpers.specs.declared.table.Helper.TheVariants.{FreezeController}
use Rattle.world_calls.specs.Answered.{started_answer}
use Rattle.world_calls.specs.Versions.{version_in}
use Rattle.world_calls.specs.declared.call.Call.{Call}
use Rattle.world_calls.specs.declared.call.Call.TheVariants as calls
use Rattle.world_calls.specs.declared.call_answer.CallAnswer.{CallAnswer}
use Rattle.world_calls.specs.declared.call_answer.CallAnswer.TheVariants as answers
use Rattle.ccb.specs.CallRefusalText.{call_refusal_text, row_of as refusal_row}
use Rattle.ccb.specs.declared.call_refusal.CallRefusal.{CallRefusal}
use Rattle.ccb.specs.declared.call_refusal.CallRefusal.TheVariants as refusals
use Rattle.world_calls.specs.declared.record.Record.{Record}
use Rattle.world_calls.specs.declared.record.Record.TheVariants.{Called, Advance}
use Rattle.world_calls.specs.declared.record.StoppedAt.{StoppedAt}
use Rattle.world_calls.specs.declared.record.StoppedAt.TheVariants as stopped
use Rattle.world_calls.specs.declared.start.Start.{Start}
use Rattle.world_calls.specs.declared.trace.Version.{Version}
use Rattle.world_calls.specs.declared.trace.Version.TheVariants.{One, Three, Two}
use Rattle.trace_lines.specs.Calls.{word_of}
use Rattle.trace_lines.specs.Rows.{may_be, row_of}
use Rattle.trace_lines.specs.Texts.{where_true}
use Rattle.trace_lines.specs.declared.word.Word.{Word}
use Rattle.trace_lines.specs.declared.word.Word.TheVariants as words
use Rattle.trace.specs.Versions.{helpers_of, is_answer_of, is_call_of, is_class_of, is_helper_of, is_later, is_later_refusal, is_of, is_start_of, is_stop_of, is_told_of, is_unknown as is_answered_unknown}
use Rattle.world.specs.World.{Setup, World, class_fits, has_classes, queue_setup, version_of}
use Rattle.world.specs.Lawful.{AreUnder, IsLawful}
use Rattle.world.specs.Limits.{NamesNoOther}
use Rattle.world.specs.Lookups.{next_waiting}
use Rattle.world.specs.CcbSteps.{starts}
use Rattle.world.specs.Refusals.{is_unknown, refusals_of, unless_refused}
use Rattle.world.specs.Told.{Told, finishes, helper_in, plain, told_by, traces}
use Rattle.world.specs.Event.{private, call, called, executes, Reply, replies, refused, went_on, result}
use Rattle.world.specs.Flat.{stop_of, advance_of, events_of}
use Rattle.world.specs.Step.{performs, WorldStep}
use Rattle.world.specs.WorldRun.{Leads}
use Rattle.world_laws.proofs.Empty.{empty_advance_is_none}
use Rattle.world_laws.proofs.Leads.{leads_split}
use Rattle.world_laws.proofs.Sound.{IsSound}
use Rattle.world_laws.proofs.Steps.Rules.{rule_parts}
use Rattle.world_laws.proofs.Steps.Running.{some_is, call_parts}
use Rattle.trace_of_history.proofs.Calls.{HasReply, answered, by_found, can_be, told}

-- ---- a submission says a class where CCBs have one, and there alone

class_said : (set : HelperSet) (class : Option ℕ) → class_fits (are_classed set) class ≡ true → is_class_of (version_in set) class ≡ true
class_said Queues None fits = refl
class_said Queues (Some class) fits = absurd (let bad : false ≡ true = fits in cc)
class_said Controllers None fits = refl
class_said Controllers (Some class) fits = absurd (let bad : false ≡ true = fits in cc)
class_said Classes None fits = absurd (let bad : false ≡ true = fits in cc)
class_said Classes (Some class) fits = refl

call_of_its : (setup : Setup) (before : World) (asked : Call) (reply : Reply) (after : World) → WorldStep setup before (called asked) reply after → is_call_of (version_of setup) asked ≡ true
call_of_its setup before (calls.Submit queue priority retries class) reply after e = class_said setup.limits.helpers class (can_be setup before (calls.Submit queue priority retries class) reply after e)
call_of_its setup before (calls.Dispatch queue) reply after e = refl
call_of_its setup before (calls.Complete outcome) reply after e = refl
call_of_its setup before (calls.Withdraw ccb) reply after e = refl
call_of_its setup before (calls.GuestFreeze place guest) reply after e = refl
call_of_its setup before (calls.GuestRelease freeze) reply after e = refl
call_of_its setup before (calls.Clock reading) reply after e = refl
call_of_its setup before (calls.Park run) reply after e = refl
call_of_its setup before (calls.Resume run) reply after e = refl

-- ---- a start reports an advice where CCBs have one, and there alone

-- the reply is an answer, and as a start's
abbrev IsStart : Version → Reply → Type 0
IsStart version (replies answer) = is_start_of version answer ≡ true
IsStart version went_on = ⊥
IsStart version (result r0) = ⊥

advice_said : (version : Version) (start : Start) → IsStart version (replies (started_answer version start))
advice_said One start = refl
advice_said Two start = refl
advice_said Three start = refl

start_of_its : (setup : Setup) (before : World) (queue : QueueId) (reply : Reply) (after : World) → WorldStep setup before (called (calls.Dispatch queue)) reply after → IsStart (version_of setup) reply
unfolding refusal_row
start_of_its setup before queue reply after e =
    told (IsStart (version_of setup)) (refusals_of setup before (calls.Dispatch queue)) before (performs setup before (calls.Dispatch queue)) reply after (refl, (refl, (refl, (refl, (refl, tt)))))
    (λ done. by_found (IsStart (version_of setup)) (starts setup before) (next_waiting queue.0 before.transport.live) reply after (λ live. advice_said (version_of setup) (record { ccb = live.ccb.number; advice = live.ccb.advice })) done)
    e

told_of_its : (setup : Setup) (before : World) (asked : Call) (answer : CallAnswer) (after : World) → WorldStep setup before (called asked) (replies answer) after → is_told_of (version_of setup) asked answer ≡ true
told_of_its setup before (calls.Submit queue priority retries class) answer after e = refl
told_of_its setup before (calls.Dispatch queue) answer after e = start_of_its setup before queue (replies answer) after e
told_of_its setup before (calls.Complete outcome) answer after e = refl
told_of_its setup before (calls.Withdraw ccb) answer after e = refl
told_of_its setup before (calls.GuestFreeze place guest) answer after e = refl
told_of_its setup before (calls.GuestRelease freeze) answer after e = refl
told_of_its setup before (calls.Clock reading) answer after e = refl
told_of_its setup before (calls.Park run) answer after e = refl
told_of_its setup before (calls.Resume run) answer after e = refl

-- ---- where queues alone freeze

module _ (setup : Setup) (lawful : IsLawful setup) (alone : setup.limits.helpers ≡ Queues) where
  no_controllers : setup.controllers ≡ 0
  no_controllers = (subst (λ (set : HelperSet). AreUnder set setup.controllers setup.queues) alone lawful.under).0

  every_is_unknown : (controller : ℕ) → is_unknown setup (Controller controller) ≡ true
  every_is_unknown controller = rw no_controllers (le-leb 0 controller (omega arith))

  names_no_other : NamesNoOther setup
  names_no_other = record {
    queues = omega (arith, lawful.agreed);
    controllers = λ there.
        let bad : is_there Queues FreezeController ≡ true = subst (λ (set : HelperSet). is_there set FreezeController ≡ true) alone there in
        absurd (let no : false ≡ true = bad in cc);
  }

  -- ---- no controller is frozen

  other_place : (controller : ℕ) (place : Place) → is_unknown setup place ≡ false → is_place place (Controller controller) ≡ false
  other_place controller (Device queue) there = grind (arith, nat_tests)
  other_place controller (Controller other) there = absurd (let bad : true ≡ false = sym (every_is_unknown other) ∙ there in cc)

  none_names : (controller : ℕ) (freezes : List Freeze) → AllByRecursion (λ freeze. is_unknown setup freeze.place ≡ false) freezes → frozen (Controller controller) freezes ≡ 0
  none_names controller [] there = refl
  none_names controller (freeze ∷ freezes) there =
      omega (
        arith,
        sum_by-cons (λ (x : Freeze). cond {A = ℕ} (names (Controller controller) x) 1 0) freeze freezes,
        ap (λ (b : Bool). cond {A = ℕ} b 1 0) (other_place controller freeze.place there.0),
        none_names controller freezes there.1,
      )

  none_frozen : (world : World) → IsSound setup world → (controller : ℕ) → nat_lt 0 (frozen (Controller controller) world.transport.freezes) ≡ false
  none_frozen world sound controller =
      let places = sound.kept.freezes.places names_no_other in
      ap (nat_lt 0) (none_names controller world.transport.freezes (recursion_from_All (λ (freeze : Freeze). is_unknown setup freeze.place ≡ false) world.transport.freezes places))

-- ---- no call is refused for a reason that the first version does not have

-- the reply is an answer, and no such refusal
abbrev IsOfFirst : Reply → Type 0
IsOfFirst (replies answer) = is_later_refusal One answer ≡ false
IsOfFirst went_on = ⊥
IsOfFirst (result r0) = ⊥

where_some : (test : Bool) (text : List ℕ) → IsSome (where_true test text) → test ≡ true
where_some true text some = refl
where_some false text some = absurd (let bad : false ≡ true = some in cc)

never : (may later : Bool) → (may && later) ≡ false → may ≡ true → later ≡ false
never true later e may = e
never false later e may = absurd (let bad : false ≡ true = may in cc)

-- the word is not that of a queue's start
abbrev is_other : Word → Bool
is_other words.Dispatch = false
is_other word = true

-- only a queue's start may be refused for such a reason
starts_alone : (word : Word) (refusal : CallRefusal) → (is_other word && may_be (row_of word) refusal && is_later One refusal) ≡ false
unfolding row_of refusal_row
starts_alone word refusal = search rules

first_alone : (word : Word) → is_other word ≡ true → (answer : CallAnswer) → HasReply (row_of word) (replies answer) → IsOfFirst (replies answer)
first_alone word other (answers.Refused refusal) has =
    never (may_be (row_of word) refusal) (is_later One refusal) (sym (ap (λ (b : Bool). b && may_be (row_of word) refusal && is_later One refusal) other) ∙ starts_alone word refusal) (where_some (may_be (row_of word) refusal) (call_refusal_text refusal) (has tt))
first_alone word other (answers.Ccb ccb) has = refl
first_alone word other (answers.Advised ccb advice) has = refl
first_alone word other answers.Done has = refl
first_alone word other (answers.Started run freeze) has = refl
first_alone word other (answers.Freeze freeze) has = refl
first_alone word other (answers.Left count) has = refl
first_alone word other (answers.Removed count) has = refl
first_alone word other answers.Ok has = refl

not_so : (test : Bool) → test ≡ false → not test ≡ true
not_so true e = absurd (let bad : true ≡ false = e in cc)
not_so false e = refl

-- a reply that what is named is not there
abbrev TellsUnknown : Reply → Type 0
TellsUnknown (replies answer) = is_answered_unknown answer ≡ true
TellsUnknown went_on = ⊥
TellsUnknown (result r0) = ⊥

-- where CCBs have no class a withdrawal is refused, since what it names is not there
withdrawn_none : (setup : Setup) → has_classes setup ≡ false → (before : World) (ccb : CcbId) (reply : Reply) (after : World) → WorldStep setup before (called (calls.Withdraw ccb)) reply after → TellsUnknown reply
withdrawn_none setup none before ccb reply after e =
    subst TellsUnknown (sym (ap (λ (x : Reply × World). x.0) (some_is (refused refusals.Unknown, before) (reply, after) (sym (cond-true _ _ _ (not_so (has_classes setup) none)) ∙ e)))) refl

start_of_first : (version : Version) (start : Start) → IsOfFirst (replies (started_answer version start))
start_of_first One start = refl
start_of_first Two start = refl
start_of_first Three start = refl

module _ (setup : Setup) (lawful : IsLawful setup) (alone : setup.limits.helpers ≡ Queues) (before : World) (sound : IsSound setup before) where
  -- where no controller is frozen, a start is refused as by the tests before that
  dispatched : (queue : QueueId) (reply : Reply) (after : World) → WorldStep setup before (called (calls.Dispatch queue)) reply after → IsOfFirst reply
  unfolding refusal_row
  dispatched queue reply after e =
      let controller = (queue_setup setup queue.0).controller in
      let tests : List (Bool × CallRefusal) = refusals_of setup before (calls.Dispatch queue) in
      told IsOfFirst (take 4 tests) before (unless_refused (drop 4 tests) before (performs setup before (calls.Dispatch queue))) reply after (refl, (refl, (refl, (refl, tt))))
      (λ last. by_found IsOfFirst (starts setup before) (next_waiting queue.0 before.transport.live) reply after (λ live. start_of_first (version_of setup) (record { ccb = live.ccb.number; advice = live.ccb.advice })) (sym (cond-false _ _ _ (none_frozen setup lawful alone before sound controller)) ∙ last))
      e

  -- a controller's freeze is refused, since there is none
  frozen_none : (controller guest : ℕ) (reply : Reply) (after : World) → WorldStep setup before (called (calls.GuestFreeze (Controller controller) guest)) reply after → TellsUnknown reply
  frozen_none controller guest reply after e =
      subst TellsUnknown (sym (ap (λ (x : Reply × World). x.0) (some_is (refused refusals.Unknown, before) (reply, after) (sym (cond-true _ _ _ (every_is_unknown setup lawful alone controller)) ∙ e)))) refl

  by_line : (asked : Call) (answer : CallAnswer) (after : World) → is_other (word_of asked) ≡ true → WorldStep setup before (called asked) (replies answer) after → not (is_later_refusal One answer) ≡ true
  by_line asked answer after other e = not_so (is_later_refusal One answer) (first_alone (word_of asked) other answer (answered setup before asked answer after e))

  answer_of_one : (asked : Call) (answer : CallAnswer) (after : World) → WorldStep setup before (called asked) (replies answer) after → is_answer_of One asked answer ≡ true
  answer_of_one (calls.Submit queue priority retries class) answer after e = by_line (calls.Submit queue priority retries class) answer after refl e
  answer_of_one (calls.Dispatch queue) answer after e = not_so (is_later_refusal One answer) (dispatched queue (replies answer) after e)
  answer_of_one (calls.Complete outcome) answer after e = by_line (calls.Complete outcome) answer after refl e
  answer_of_one (calls.Withdraw ccb) answer after e = withdrawn_none setup (ap are_classed alone) before ccb (replies answer) after e
  answer_of_one (calls.GuestFreeze (Device queue) guest) answer after e = by_line (calls.GuestFreeze (Device queue) guest) answer after refl e
  answer_of_one (calls.GuestFreeze (Controller controller) guest) answer after e = frozen_none controller guest (replies answer) after e
  answer_of_one (calls.GuestRelease freeze) answer after e = by_line (calls.GuestRelease freeze) answer after refl e
  answer_of_one (calls.Clock reading) answer after e = by_line (calls.Clock reading) answer after refl e
  answer_of_one (calls.Park run) answer after e = by_line (calls.Park run) answer after refl e
  answer_of_one (calls.Resume run) answer after e = by_line (calls.Resume run) answer after refl e

-- ---- where controllers freeze too

none_later_two : (refusal : CallRefusal) → is_later Two refusal ≡ false
unfolding refusal_row
none_later_two refusal = search rules

none_later_three : (refusal : CallRefusal) → is_later Three refusal ≡ false
unfolding refusal_row
none_later_three refusal = search rules

-- the version has each refusal
has_each : (version : Version) → ((refusal : CallRefusal) → is_later version refusal ≡ false) → (answer : CallAnswer) → not (is_later_refusal version answer) ≡ true
has_each version none (answers.Refused refusal) = not_so (is_later version refusal) (none refusal)
has_each version none (answers.Ccb ccb) = refl
has_each version none (answers.Advised ccb advice) = refl
has_each version none answers.Done = refl
has_each version none (answers.Started run freeze) = refl
has_each version none (answers.Freeze freeze) = refl
has_each version none (answers.Left count) = refl
has_each version none (answers.Removed count) = refl
has_each version none answers.Ok = refl

answer_of_two : (setup : Setup) → has_classes setup ≡ false → (before : World) (asked : Call) (answer : CallAnswer) (after : World) → WorldStep setup before (called asked) (replies answer) after → is_answer_of Two asked answer ≡ true
answer_of_two setup none before (calls.Submit queue priority retries class) answer after e = has_each Two none_later_two answer
answer_of_two setup none before (calls.Dispatch queue) answer after e = has_each Two none_later_two answer
answer_of_two setup none before (calls.Complete outcome) answer after e = has_each Two none_later_two answer
answer_of_two setup none before (calls.Withdraw ccb) answer after e = withdrawn_none setup none before ccb (replies answer) after e
answer_of_two setup none before (calls.GuestFreeze (Device queue) guest) answer after e = has_each Two none_later_two answer
answer_of_two setup none before (calls.GuestFreeze (Controller controller) guest) answer after e = has_each Two none_later_two answer
answer_of_two setup none before (calls.GuestRelease freeze) answer after e = has_each Two none_later_two answer
answer_of_two setup none before (calls.Clock reading) answer after e = has_each Two none_later_two answer
answer_of_two setup none before (calls.Park run) answer after e = has_each Two none_later_two answer
answer_of_two setup none before (calls.Resume run) answer after e = has_each Two none_later_two answer

answer_of_three : (asked : Call) (answer : CallAnswer) → is_answer_of Three asked answer ≡ true
answer_of_three (calls.Submit queue priority retries class) answer = has_each Three none_later_three answer
answer_of_three (calls.Dispatch queue) answer = has_each Three none_later_three answer
answer_of_three (calls.Complete outcome) answer = has_each Three none_later_three answer
answer_of_three (calls.Withdraw ccb) answer = has_each Three none_later_three answer
answer_of_three (calls.GuestFreeze (Device queue) guest) answer = has_each Three none_later_three answer
answer_of_three (calls.GuestFreeze (Controller controller) guest) answer = has_each Three none_later_three answer
answer_of_three (calls.GuestRelease freeze) answer = has_each Three none_later_three answer
answer_of_three (calls.Clock reading) answer = has_each Three none_later_three answer
answer_of_three (calls.Park run) answer = has_each Three none_later_three answer
answer_of_three (calls.Resume run) answer = has_each Three none_later_three answer

-- by which helpers there are
answer_of_set : (setup : Setup) → IsLawful setup → (set : HelperSet) → setup.limits.helpers ≡ set → (before : World) → IsSound setup before → (asked : Call) (answer : CallAnswer) (after : World)
    → WorldStep setup before (called asked) (replies answer) after → is_answer_of (version_in set) asked answer ≡ true
answer_of_set setup lawful Queues is before sound asked answer after e = answer_of_one setup lawful is before sound asked answer after e
answer_of_set setup lawful Controllers is before sound asked answer after e = answer_of_two setup (ap are_classed is) before asked answer after e
answer_of_set setup lawful Classes is before sound asked answer after e = answer_of_three asked answer

-- ---- a run calls helpers that there are

helper_told : (tells : Tells) (request : Request) → helper_in (told_by tells request) ≡ request.helper
helper_told tells.Name request = refl
helper_told tells.Bytes request = refl
helper_told tells.Code request = refl

same_helpers : (set : HelperSet) → helpers_of (version_in set) ≡ set
same_helpers Queues = refl
same_helpers Controllers = refl
same_helpers Classes = refl

module _ (setup : Setup) where
  called_there : (before : World) (run : ℕ) (its : Told) (r0 : ℕ) (after : World) → WorldStep setup before (executes run (call its)) (result r0) after → is_helper_of (version_of setup) (helper_in its) ≡ true
  called_there before run its r0 after e =
      let c = call_parts setup before run its (result r0) after e in
      let same : helper_in its ≡ c.request.helper = ap helper_in c.told_is ∙ helper_told (helper_row c.request.helper).tells c.request in
      let there = (rule_parts setup.limits c.it.run.machine c.request c.rule).there in
      subst (λ (set : HelperSet). is_there set (helper_in its) ≡ true) (sym (same_helpers setup.limits.helpers)) (subst (λ (helper : Helper). is_there setup.limits.helpers helper ≡ true) (sym same) there)

  stop_of_its : (before : World) (run : ℕ) (stop : StoppedAt) (r0 : ℕ) (after : World) → WorldStep setup before (executes run (stop_of stop)) (result r0) after → is_stop_of (version_of setup) stop ≡ true
  stop_of_its before run (stopped.Helper helper) r0 after e = called_there before run (plain helper) r0 after e
  stop_of_its before run (stopped.Trace helper bytes) r0 after e = called_there before run (traces helper bytes) r0 after e
  stop_of_its before run (stopped.Finish helper code) r0 after e = called_there before run (finishes helper code) r0 after e
  stop_of_its before run stopped.Exit r0 after e = refl

  advance_of_its : (before : World) (run instructions : ℕ) (stop : StoppedAt) (r0 : ℕ) (after : World) → Leads setup before (advance_of run instructions stop r0) after → is_stop_of (version_of setup) stop ≡ true
  advance_of_its before run zero stop r0 after leads = absurd (empty_advance_is_none setup run stop r0 before after leads)
  advance_of_its before run (suc n) stop r0 after leads =
      let parts = leads_split setup before (replicate n (executes run private, went_on)) ((executes run (stop_of stop), result r0) ∷ []) after leads in
      stop_of_its parts.0 run stop r0 parts.2.0 parts.2.1

-- ---- any record

pub of_version : (setup : Setup) (before : World) (entry : Record) (after : World) → IsLawful setup → IsSound setup before → Leads setup before (events_of entry) after → is_of (version_of setup) entry ≡ true
of_version setup before (Called answer asked) after lawful sound leads =
    let version = version_of setup in
    and_from (is_call_of version asked && is_told_of version asked answer) (is_answer_of version asked answer)
    (and_from (is_call_of version asked) (is_told_of version asked answer) (call_of_its setup before asked (replies answer) leads.0 leads.1) (told_of_its setup before asked answer leads.0 leads.1))
    (answer_of_set setup lawful setup.limits.helpers refl before sound asked answer leads.0 leads.1)
of_version setup before (Advance run instructions stop r0) after lawful sound leads = advance_of_its setup before run instructions stop r0 after leads
