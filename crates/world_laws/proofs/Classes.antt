-- If CCBs have a class and an advice, each step that is no withdrawal is as it was without them, with the class 0 and the advice 0.
use Rattle.std.proofs.Common.{◌≡◌, ℕ, ◌≤◌, List, [], ◌∷◌, map, slice_index, Bool, true, false, not, leb, ltb, cond, Option, Some, None, inl, inr, refl, ap, sym, subst, ◌∙◌, arith}
use Rattle.std.specs.List.{list_all}
use Rattle.std.specs.Option.{option_map}
use Rattle.std.specs.Prelude.{is_none}
use Rattle.std.proofs.lemmas.Bool.{and_parts, cases_Bool, cond-true, cond-false, leb-true, le-leb, not-true}
use Rattle.ccb.specs.declared.QueueId.{QueueId}
use Rattle.ccb.specs.declared.place.Place.{Place}
use Rattle.ccb.specs.declared.place.Place.TheVariants.{Controller, Device}
use Rattle.ccb.specs.declared.call_refusal.CallRefusal.{CallRefusal}
use Rattle.ccb.specs.declared.call_refusal.CallRefusal.TheVariants.{Unknown, Limit, Frozen, NoOpening, NothingWaits, ControllerFrozen}
use Rattle.freeze_ledger.specs.Freezes.{frozen, meets_limit}
use Rattle.helpers.specs.declared.limits.HelperSet.{HelperSet}
use Rattle.helpers.specs.declared.table.Helper.{Helper}
use Rattle.helpers.specs.Table.{are_classed, is_there, number_of}
use Rattle.world_calls.specs.declared.call.Call.{Call}
use Rattle.world_calls.specs.declared.call.Call.TheVariants as calls
use Rattle.world_calls.specs.declared.call_answer.CallAnswer.{CallAnswer}
use Rattle.world_calls.specs.declared.call_answer.CallAnswer.TheVariants as answers
use Rattle.world_calls.specs.declared.start.Start.{Start}
use Rattle.world_calls.specs.Answered.{started_answer}
use Rattle.world_calls.specs.Versions.{version_in}
use Rattle.world.specs.World.{Setup, class_fits, class_in, has_classes, queue_count, version_of, LiveCcb, World, beginning}
use Rattle.world.specs.Lookups.{active_count, ccb_of, next_waiting, run_of}
use Rattle.world.specs.Limits.{IsPlain}
use Rattle.world.specs.Event.{Event, called, executes, Reply, replies, went_on, result, refused}
use Rattle.world.specs.CcbSteps.{ccb_meets_limit, is_completion, starts, submits}
use Rattle.world.specs.FreezeSteps.{guest_freezes}
use Rattle.world.specs.Refusals.{is_unknown, refusals_of, unless_refused}
use Rattle.world.specs.Step.{step, step_call}
use Rattle.world.specs.WorldRun.{Leads}
use Rattle.world.specs.Laws.Classes.{IsClassed, classed, classed_answer, classed_call, classed_event, classed_reply, is_withdrawal, is_withdrawing, ClassesToo}
use Rattle.world.proofs.Lists.Each.{all_found}
use Rattle.world.proofs.Steps.Moves.{KeepsLists, ccb_key, next_found}
use Rattle.world_laws.proofs.Kept.{step_keeps, beginning_keeps}
use Rattle.world_laws.proofs.Wider.{IsWider, count_is, controller_is, completed_so, executes_so, same_beginning, begins_so}

-- the same step, with the reply as it is if CCBs have an advice
abbrev answered_so : Event → Reply × World → Reply × World
answered_so event p = (classed_reply event p.0, p.1)

-- a call whose answers stay is replied to in the same words
reply_stays : (its : Call) → ((answer : CallAnswer) → classed_answer its answer ≡ answer) → (p : Reply × World) → answered_so (called its) p ≡ p
reply_stays its same (replies answer, world) = ap (λ (a : CallAnswer). let x : Reply × World = (replies a, world) in x) (same answer)
reply_stays its same (went_on, world) = refl
reply_stays its same (result r0, world) = refl

-- refused alike, with the same refusal
refused_so : (queue : QueueId) (tests : List (Bool × CallRefusal)) (world : World) (one other : Option (Reply × World)) → other ≡ option_map (answered_so (called (calls.Dispatch queue))) one → unless_refused tests world other ≡ option_map (answered_so (called (calls.Dispatch queue))) (unless_refused tests world one)
refused_so queue [] world one other same = same
refused_so queue (x ∷ tests) world one other same =
    elim (cases_Bool x.0) [
      | inl holds ↦
          cond-true x.0 _ _ holds
          ∙ sym (ap (option_map (answered_so (called (calls.Dispatch queue)))) (cond-true x.0 (Some (refused x.1, world)) (unless_refused tests world one) holds))
      | inr fails ↦
          cond-false x.0 _ _ fails
          ∙ (refused_so queue tests world one other same
          ∙ sym (ap (option_map (answered_so (called (calls.Dispatch queue)))) (cond-false x.0 (Some (refused x.1, world)) (unless_refused tests world one) fails)))
    ]

-- if CCBs have no class, a submission says none
says_none : (has : Bool) (class : Option ℕ) → class_fits has class ≡ true → has ≡ false → class ≡ None
says_none has None fits none = refl
says_none has (Some class) fits none = absurd (let bad : true ≡ false = sym fits ∙ none in cc)

module _ (setup other : Setup) (its : IsClassed setup other) where
  -- a helper that is there without classes is there with them
  helpers_so : (name : Helper) → is_there setup.limits.helpers name ≡ true → is_there other.limits.helpers name ≡ true
  helpers_so name there =
      let few : number_of name ≤ 14 = leb-true _ _ (subst (λ (set : HelperSet). is_there set name ≡ true) its.controllers_too there) in
      subst (λ (set : HelperSet). is_there set name ≡ true) (sym its.classes_too) (le-leb _ _ (omega (arith, few)))

  wider : IsWider setup other
  wider = record { named = its.named; lengths = its.lengths; tables = its.tables; queues = its.queues; carried = its.carried; helpers = helpers_so }

  unclassed : has_classes setup ≡ false
  unclassed = ap are_classed its.controllers_too

  others_classed : has_classes other ≡ true
  others_classed = ap are_classed its.classes_too

  -- of a CCB for which nothing is advised, a start tells the advice 0
  starts_so : (queue : QueueId) (world : World) (next : LiveCcb) → next.ccb.advice ≡ 0 → starts other world next ≡ answered_so (called (calls.Dispatch queue)) (starts setup world next)
  starts_so queue world next none =
      let start : Start = record { ccb = next.ccb.number; advice = next.ccb.advice } in
      let told : started_answer (version_of other) start ≡ answers.Advised next.ccb.number next.ccb.advice = ap (λ (set : HelperSet). started_answer (version_in set) start) its.classes_too in
      let mine : started_answer (version_of setup) start ≡ answers.Ccb next.ccb.number = ap (λ (set : HelperSet). started_answer (version_in set) start) its.controllers_too in
      let answer_is : started_answer (version_of other) start ≡ classed_answer (calls.Dispatch queue) (started_answer (version_of setup) start) =
      told ∙ (ap (answers.Advised next.ccb.number) none ∙ sym (ap (classed_answer (calls.Dispatch queue)) mine)) in
      ap (λ (answer : CallAnswer). let x : Reply × World = (replies answer, (starts setup world next).1) in x) answer_is

  dispatches_so : (queue : QueueId) (world : World) → KeepsLists setup world → (o : Option LiveCcb) → next_waiting queue.0 world.transport.live ≡ o → option_map (starts other world) o ≡ option_map (answered_so (called (calls.Dispatch queue))) (option_map (starts setup world) o)
  dispatches_so queue world kept None is = refl
  dispatches_so queue world kept (Some next) is =
      let there = next_found queue.0 world.transport.live world.transport.greatest_ccb next kept.ccbs.rising is in
      let plain : IsPlain next = all_found ccb_key IsPlain next.ccb.number.0 world.transport.live next (kept.ccbs.plain unclassed) there.found in
      ap Some (starts_so queue world next plain.1)

  -- a call that is the same in both is answered the same
  same_call : (world : World) (it : Call) (p : Reply × World) → step_call other world it ≡ step_call setup world it → ((answer : CallAnswer) → classed_answer it answer ≡ answer) → step_call setup world it ≡ Some p → step_call other world it ≡ Some (answered_so (called it) p)
  same_call world it p same stays e = same ∙ (e ∙ ap Some (sym (reply_stays it stays p)))

  submits_so : (world : World) (queue : QueueId) (priority retries : ℕ) (class : Option ℕ) (p : Reply × World) → step_call setup world (calls.Submit queue priority retries class) ≡ Some p → step_call other world (calls.Submit queue priority retries (Some 0)) ≡ Some (answered_so (called (calls.Submit queue priority retries class)) p)
  submits_so world queue priority retries class p e =
      elim (cases_Bool (class_fits (has_classes setup) class)) [
        | inl fits ↦
            let none : class ≡ None = says_none (has_classes setup) class fits unclassed in
            let mine = sym (cond-true (class_fits (has_classes setup) class) (unless_refused (refusals_of setup world (calls.Submit queue priority retries class)) world (Some (submits world queue priority retries (class_in class)))) None fits) ∙ e in
            let plain : class_in class ≡ 0 = ap class_in none in
            let same : unless_refused ((leb (queue_count other) queue.0, Unknown) ∷ (ccb_meets_limit queue.0 world, Limit) ∷ []) world (Some (submits world queue priority retries 0))
            ≡ unless_refused ((leb (queue_count setup) queue.0, Unknown) ∷ (ccb_meets_limit queue.0 world, Limit) ∷ []) world (Some (submits world queue priority retries (class_in class))) =
            λ i. unless_refused ((leb (sym (count_is setup other wider) i) queue.0, Unknown) ∷ (ccb_meets_limit queue.0 world, Limit) ∷ []) world (Some (submits world queue priority retries (sym plain i))) in
            cond-true (has_classes other) (unless_refused (refusals_of other world (calls.Submit queue priority retries (Some 0))) world (Some (submits world queue priority retries 0))) None others_classed
            ∙ (same ∙ (mine ∙ ap Some (sym (reply_stays (calls.Submit queue priority retries class) (λ answer. refl) p))))
        | inr unfit ↦ let bad = sym (cond-false (class_fits (has_classes setup) class) (unless_refused (refusals_of setup world (calls.Submit queue priority retries class)) world (Some (submits world queue priority retries (class_in class)))) None unfit) ∙ e in absurd cc
      ]

  starts_next_so : (world : World) → KeepsLists setup world → (queue : QueueId) (p : Reply × World) → step_call setup world (calls.Dispatch queue) ≡ Some p → step_call other world (calls.Dispatch queue) ≡ Some (answered_so (called (calls.Dispatch queue)) p)
  starts_next_so world kept queue p e =
      let tests : List (Bool × CallRefusal) = refusals_of setup world (calls.Dispatch queue) in
      let same : refusals_of other world (calls.Dispatch queue) ≡ tests = λ i.
      (leb (sym (count_is setup other wider) i) queue.0, Unknown) ∷ (ltb 0 (frozen (Device queue) world.transport.freezes), Frozen)
      ∷ (leb (slice_index world.transport.openings queue.0) (active_count queue.0 world.transport.live), NoOpening)
      ∷ (is_none (next_waiting queue.0 world.transport.live), NothingWaits)
      ∷ (ltb 0 (frozen (Controller (sym (controller_is setup other wider queue.0) i)) world.transport.freezes), ControllerFrozen) ∷ [] in
      ap (λ (xs : List (Bool × CallRefusal)). unless_refused xs world (option_map (starts other world) (next_waiting queue.0 world.transport.live))) same
      ∙ (refused_so queue tests world _ _ (dispatches_so queue world kept (next_waiting queue.0 world.transport.live) refl)
      ∙ ap (option_map (answered_so (called (calls.Dispatch queue)))) e)

  -- what there is in the one there is in the other
  same_place : (place : Place) → is_unknown other place ≡ is_unknown setup place
  same_place (Device queue) = ap (λ (n : ℕ). leb n queue.0) (sym (count_is setup other wider))
  same_place (Controller controller) = ap (λ (n : ℕ). leb n controller) its.controllers

  -- each call that withdraws nothing
  calls_so : (world : World) → KeepsLists setup world → (it : Call) (p : Reply × World) → is_withdrawal it ≡ false → step_call setup world it ≡ Some p → step_call other world (classed_call it) ≡ Some (answered_so (called it) p)
  calls_so world kept (calls.Submit queue priority retries class) p none e = submits_so world queue priority retries class p e
  calls_so world kept (calls.Dispatch queue) p none e = starts_next_so world kept queue p e
  calls_so world kept (calls.Complete outcome) p none e =
      same_call world (calls.Complete outcome) p
      (ap (λ (o : Option (Reply × World)). cond (is_completion outcome) (unless_refused (refusals_of setup world (calls.Complete outcome)) world o) None)
      (sym (completed_so setup other wider world outcome (ccb_of outcome.ccb.0 world.transport.live))))
      (λ answer. refl) e
  calls_so world kept (calls.Withdraw ccb) p none e = absurd (let bad : true ≡ false = none in cc)
  calls_so world kept (calls.GuestFreeze place guest) p none e =
      same_call world (calls.GuestFreeze place guest) p
      (ap (λ (b : Bool). unless_refused ((b, Unknown) ∷ (meets_limit place world.transport.freezes world.transport.greatest_freeze, Limit) ∷ []) world (Some (guest_freezes world place guest))) (same_place place))
      (λ answer. refl) e
  calls_so world kept (calls.GuestRelease freeze) p none e = same_call world (calls.GuestRelease freeze) p refl (λ answer. refl) e
  calls_so world kept (calls.Clock reading) p none e = same_call world (calls.Clock reading) p refl (λ answer. refl) e
  calls_so world kept (calls.Park run) p none e = same_call world (calls.Park run) p refl (λ answer. refl) e
  calls_so world kept (calls.Resume run) p none e = same_call world (calls.Resume run) p refl (λ answer. refl) e

  step_so : (world : World) → KeepsLists setup world → (event : Event) (p : Reply × World) → is_withdrawing event ≡ false → step setup world event ≡ Some p → step other world (classed_event event) ≡ Some (answered_so event p)
  step_so world kept (called it) p none e = calls_so world kept it p none e
  step_so world kept (executes run instruction) p none e = executes_so setup other wider world instruction (run_of run world.runs.list) p e

  leads_so : (before : World) (xs : List (Event × Reply)) (after : World) → KeepsLists setup before → list_all (λ (x : Event × Reply). not (is_withdrawing x.0)) xs ≡ true → Leads setup before xs after → Leads other before (map classed xs) after
  leads_so before [] after kept none leads = leads
  leads_so before (x ∷ xs) after kept none leads =
      let parts = and_parts (not (is_withdrawing x.0)) (list_all (λ (y : Event × Reply). not (is_withdrawing y.0)) xs) none in (
        leads.0,
        step_so before kept x.0 (x.1, leads.0) (not-true _ parts.0) leads.1,
        leads_so leads.0 xs after (step_keeps setup before x.0 x.1 leads.0 leads.1 kept) parts.1 leads.2,
      )

pub classes_too : ClassesToo
classes_too setup other lawful its xs world none run =
    let both = wider setup other its in (
      begins_so setup other both (λ place known. same_place setup other its place ∙ known) (unclassed setup other its) run.0,
      subst (λ (w : World). Leads other w (map classed xs) world) (same_beginning setup other both) (leads_so setup other its (beginning setup) xs world (beginning_keeps setup run.0) none run.1),
    )
