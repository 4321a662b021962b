-- One controller over all queues changes no step that is not about controllers.
use Rattle.std.proofs.Common.{◌≡◌, ◌≤◌, List, [], ◌∷◌, slice_index, true, false, not, leb, ltb, cond, Option, Some, None, refl, ap, sym, subst, ◌∙◌, arith}
use Rattle.std.specs.List.{list_all}
use Rattle.std.specs.Option.{option_map}
use Rattle.std.specs.Prelude.{is_none}
use Rattle.std.proofs.lemmas.Bool.{and_parts, leb-false, leb-true, le-leb, not-true}
use Rattle.ccb.specs.declared.place.Place.{Place}
use Rattle.ccb.specs.declared.place.Place.TheVariants.{Controller, Device}
use Rattle.freeze_ledger.specs.Freezes.{frozen, meets_limit}
use Rattle.helpers.specs.declared.limits.HelperSet.{HelperSet}
use Rattle.helpers.specs.declared.limits.HelperSet.TheVariants.{Queues}
use Rattle.helpers.specs.declared.table.Helper.{Helper}
use Rattle.helpers.specs.Table.{are_classed, is_there, number_of}
use Rattle.world_calls.specs.declared.call.Call.{Call}
use Rattle.world_calls.specs.declared.call.Call.TheVariants as calls
use Rattle.world_calls.specs.declared.call_answer.CallAnswer.{CallAnswer}
use Rattle.world_calls.specs.declared.start.Start.{Start}
use Rattle.world_calls.specs.Answered.{started_answer}
use Rattle.world_calls.specs.Versions.{version_in}
use Rattle.ccb.specs.declared.call_refusal.CallRefusal.TheVariants.{Unknown, Limit, NotActive, Frozen, NoOpening, NothingWaits, ControllerFrozen}
use Rattle.world.specs.World.{Setup, class_fits, class_in, has_classes, version_of, LiveCcb, World, beginning}
use Rattle.world.specs.Lookups.{active_count, ccb_of, next_waiting, run_of}
use Rattle.world.specs.Event.{Event, called, executes, Reply, replies}
use Rattle.world.specs.CcbSteps.{ccb_meets_limit, is_completion, starts, submits, withdraws}
use Rattle.world.specs.FreezeSteps.{guest_freezes}
use Rattle.world.specs.Refusals.{is_unknown, refusals_of, unless_refused, waits}
use Rattle.world.specs.Step.{step, step_call}
use Rattle.world.specs.Lawful.{AreUnder, IsLawful}
use Rattle.world.specs.WorldRun.{Leads}
use Rattle.world.specs.Laws.OneController.{IsUnderOne, is_of_controllers, is_controller_event, OneController}
use Rattle.world_laws.proofs.Wider.{IsWider, count_is, controller_is, completed_so, executes_so, same_beginning, begins_so}

module _ (setup other : Setup) (its : IsUnderOne setup other) where
  -- a helper that is there without controllers is there with them
  helpers_so : (name : Helper) → is_there setup.limits.helpers name ≡ true → is_there other.limits.helpers name ≡ true
  helpers_so name there =
      let few : number_of name ≤ 12 = leb-true _ _ (subst (λ (set : HelperSet). is_there set name ≡ true) its.queues_alone there) in
      subst (λ (set : HelperSet). is_there set name ≡ true) (sym its.controllers_too) (le-leb _ _ (omega (arith, few)))

  wider : IsWider setup other
  wider = record { named = its.named; lengths = its.lengths; tables = its.tables; queues = its.queues; carried = its.carried; helpers = helpers_so }

  -- in neither CCBs have a class
  unclassed : has_classes setup ≡ false
  unclassed = ap are_classed its.queues_alone

  both_unclassed : has_classes setup ≡ has_classes other
  both_unclassed = unclassed ∙ sym (ap are_classed its.controllers_too)

  -- so both answer a start by its number
  answers_so : (start : Start) → started_answer (version_of setup) start ≡ started_answer (version_of other) start
  answers_so start = ap (λ (set : HelperSet). started_answer (version_in set) start) its.queues_alone ∙ sym (ap (λ (set : HelperSet). started_answer (version_in set) start) its.controllers_too)

  dispatches_so : (world : World) (o : Option LiveCcb) → option_map (starts setup world) o ≡ option_map (starts other world) o
  dispatches_so world None = refl
  dispatches_so world (Some next) =
      ap (λ (answer : CallAnswer). let x : Option (Reply × World) = Some (replies answer, (starts setup world next).1) in x) (answers_so (record { ccb = next.ccb.number; advice = next.ccb.advice }))

  -- each call that is not about controllers
  calls_so : (world : World) (call : Call) → is_of_controllers call ≡ false → step_call setup world call ≡ step_call other world call
  calls_so world (calls.Submit queue priority retries class) not_one = λ i.
      cond (class_fits (both_unclassed i) class)
      (unless_refused ((leb (count_is setup other wider i) queue.0, Unknown) ∷ (ccb_meets_limit queue.0 world, Limit) ∷ []) world (Some (submits world queue priority retries (class_in class)))) None
  calls_so world (calls.Dispatch queue) not_one = λ i.
      unless_refused
      ((leb (count_is setup other wider i) queue.0, Unknown) ∷ (ltb 0 (frozen (Device queue) world.transport.freezes), Frozen)
      ∷ (leb (slice_index world.transport.openings queue.0) (active_count queue.0 world.transport.live), NoOpening)
      ∷ (is_none (next_waiting queue.0 world.transport.live), NothingWaits)
      ∷ (ltb 0 (frozen (Controller (controller_is setup other wider queue.0 i)) world.transport.freezes), ControllerFrozen) ∷ []) world
      (dispatches_so world (next_waiting queue.0 world.transport.live) i)
  calls_so world (calls.Complete outcome) not_one =
      ap (λ (o : Option (Reply × World)). cond (is_completion outcome) (unless_refused (refusals_of setup world (calls.Complete outcome)) world o) None)
      (completed_so setup other wider world outcome (ccb_of outcome.ccb.0 world.transport.live))
  calls_so world (calls.Withdraw ccb) not_one = λ i.
      unless_refused
      ((not (both_unclassed i), Unknown) ∷ (is_none (ccb_of ccb.0 world.transport.live), Unknown)
      ∷ (not (waits (ccb_of ccb.0 world.transport.live)), NotActive) ∷ []) world
      (option_map (withdraws world) (ccb_of ccb.0 world.transport.live))
  calls_so world (calls.GuestFreeze (Device queue) guest) not_one = λ i.
      unless_refused ((leb (count_is setup other wider i) queue.0, Unknown) ∷ (meets_limit (Device queue) world.transport.freezes world.transport.greatest_freeze, Limit) ∷ []) world (Some (guest_freezes world (Device queue) guest))
  calls_so world (calls.GuestFreeze (Controller controller) guest) not_one = absurd (let bad : true ≡ false = not_one in cc)
  calls_so world rest not_one = refl

  step_so : (world : World) (event : Event) (p : Reply × World) → is_controller_event event ≡ false → step setup world event ≡ Some p → step other world event ≡ Some p
  step_so world (called its_call) p not_one e = sym (calls_so world its_call not_one) ∙ e
  step_so world (executes run instruction) p not_one e = executes_so setup other wider world instruction (run_of run world.runs.list) p e

  leads_so : (before : World) (xs : List (Event × Reply)) (after : World) → list_all (λ (x : Event × Reply). not (is_controller_event x.0)) xs ≡ true → Leads setup before xs after → Leads other before xs after
  leads_so before [] after none leads = leads
  leads_so before (x ∷ xs) after none leads =
      let parts = and_parts (not (is_controller_event x.0)) (list_all (λ (y : Event × Reply). not (is_controller_event y.0)) xs) none in
      (leads.0, step_so before x.0 (x.1, leads.0) (not-true _ parts.0) leads.1, leads_so leads.0 xs after parts.1 leads.2)

  -- what there is in the one there is in the other
  there_too : IsLawful setup → (place : Place) → is_unknown setup place ≡ false → is_unknown other place ≡ false
  there_too lawful (Device queue) known = rw (← count_is setup other wider) known
  there_too lawful (Controller controller) known =
      let under : AreUnder Queues setup.controllers setup.queues = subst (λ (set : HelperSet). AreUnder set setup.controllers setup.queues) its.queues_alone lawful.under in
      absurd (omega (arith, leb-false _ _ known, under.0))

pub one_controller : OneController
one_controller setup other lawful its xs world none run =
    let both = wider setup other its in (
      begins_so setup other both (there_too setup other its lawful) (unclassed setup other its) run.0,
      subst (λ (w : World). Leads other w xs world) (same_beginning setup other both) (leads_so setup other its (beginning setup) xs world none run.1),
    )
