-- A number that was given up, or whose freeze is gone, is never held again, and one that was handed over only by a timer.
use Rattle.std.proofs.Common.{◌≡◌, ℕ, ◌+◌, ◌≤◌, List, [], ◌∷◌, true, false, not, Option, Some, None, IsSome, inl, inr, refl, ap, sym, subst, ◌∙◌, arith}
use Rattle.std.proofs.lemmas.Bool.{cases_eq}
use Rattle.freeze_ledger.specs.declared.freeze.Holder.TheVariants.{Timer}
use Rattle.freeze_ledger.specs.declared.freeze.Freeze.{Freeze}
use Rattle.freeze_ledger.specs.Freezes.{entry_of, without}
use Rattle.helpers.specs.declared.table.HelperEffect.{HelperEffect}
use Rattle.helpers.specs.declared.table.HelperEffect.TheVariants as effects
use Rattle.helpers.specs.declared.columns.Change.{Change}
use Rattle.helpers.specs.declared.columns.Change.TheVariants as changes
use Rattle.helpers.specs.declared.request.Request.{Request}
use Rattle.helpers.specs.Table.{row_of}
use Rattle.helpers.specs.declared.request.Answer.{Answer}
use Rattle.bpf_semantics.specs.Step.{request_at}
use Rattle.world.specs.World.{Setup, LiveRun, World, beginning}
use Rattle.world.specs.Lookups.{run_of}
use Rattle.world.specs.Told.{Told, told_of}
use Rattle.world_calls.specs.declared.call.Call.TheVariants.{GuestRelease}
use Rattle.world.specs.Event.{call, Event, called, executes, Reply}
use Rattle.world.specs.FreezeSteps.{is_timer}
use Rattle.world.specs.Step.{WorldStep}
use Rattle.world.specs.WorldRun.{Leads}
use Rattle.world.specs.Laws.FreezeLaws.{IsHeld, Calls, GivenUpStaysGivenUp, GivenUpByRunStaysGivenUp, HandedOverStaysHandedOver, GoneStaysGone}
use Rattle.world.specs.Laws.TookGave.{asked_by, asked}
use Rattle.world.proofs.Lists.Found.{put, found_in_push, put_same, put_other, missing_filter}
use Rattle.world.proofs.Lists.Rising.{found_unfiltered}
use Rattle.world.proofs.Lists.Entries.{freeze_key, entry_push, entry_removed, entry_bounds, handed_is_put, none_since}
use Rattle.world_laws.proofs.Deeds.{suits}
use Rattle.world_laws.proofs.Steps.Does.{LeavesFreezes, FreezeDeed, leaves_freezes, takes_one, gives_one_back, hands_one_over}
use Rattle.world_laws.proofs.Steps.Calls.{Asks, asks_of}
use Rattle.world_laws.proofs.Steps.Cases.{case_of, guest_release_parts}
use Rattle.world.proofs.Steps.Moves.{KeepsLists, FreezeMove, freezes_stay, freeze_enters, freezes_leave, freeze_changes}
use Rattle.world_laws.proofs.Steps.Effects.{effect_of}
use Rattle.world_laws.proofs.Kept.{step_keeps}
use Rattle.world_laws.proofs.Leads.{leads_split, leads_keeps, lists_are_kept}

-- numbers only rise, and one that is not there will not be given again
pub record IsPast (number : ℕ) (world : World) : Type 0 where
  pub given : number ≤ world.transport.greatest_freeze
  pub none : entry_of number world.transport.freezes ≡ None

move_past : (setup : Setup) (before : World) (event : Event) (after : World) (number : ℕ) → FreezeMove setup before event after → IsPast number before → IsPast number after
move_past setup before event after number (freezes_stay e g) past = record { given = rw g past.given; none = rw e past.none }
move_past setup before event after number (freeze_enters queue holder known room e g comes) past =
    record { given = rw g (omega (arith, past.given)); none = rw e (entry_push number before.transport.freezes _ (λ same. omega (arith, same, past.given)) past.none) }
move_past setup before event after number (freezes_leave gone e g from) past =
    record { given = rw g past.given; none = rw e (missing_filter freeze_key (λ (f : Freeze). not (gone f)) number before.transport.freezes past.none) }
move_past setup before event after number (freeze_changes old new found queue_is e g hands) past =
    let apart : new.number ≡ number → ⊥ = λ same.
    let bad : None ≡ Some old = sym past.none ∙ (ap (λ (n : ℕ). entry_of n before.transport.freezes) (sym same) ∙ found) in cc in
    record { given = rw g past.given; none = ap (entry_of number) e ∙ (put_other freeze_key new number before.transport.freezes apart ∙ past.none) }

pub move_rises : (setup : Setup) (before : World) (event : Event) (after : World) → FreezeMove setup before event after → before.transport.greatest_freeze ≤ after.transport.greatest_freeze
move_rises setup before event after (freezes_stay e g) = omega (arith, g)
move_rises setup before event after (freeze_enters queue holder known room e g comes) = omega (arith, g)
move_rises setup before event after (freezes_leave gone e g from) = omega (arith, g)
move_rises setup before event after (freeze_changes old new found queue_is e g hands) = omega (arith, g)

step_freezes : (setup : Setup) (before : World) (event : Event) (reply : Reply) (after : World) → KeepsLists setup before → WorldStep setup before event reply after → FreezeMove setup before event after
step_freezes setup before event reply after kept e = (effect_of setup before event reply after kept (case_of setup before event reply after e)).freezes

leads_past : (setup : Setup) (before : World) (xs : List (Event × Reply)) (after : World) (number : ℕ) → KeepsLists setup before → Leads setup before xs after → IsPast number before → IsPast number after
leads_past setup before [] after number kept run past = subst (IsPast number) run past
leads_past setup before (x ∷ xs) after number kept run past =
    leads_past setup run.0 xs after number (step_keeps setup before x.0 x.1 run.0 run.1 kept) run.2
    (move_past setup before x.0 run.0 number (step_freezes setup before x.0 x.1 run.0 kept run.1) past)

pub leads_rises : (setup : Setup) (before : World) (xs : List (Event × Reply)) (after : World) → KeepsLists setup before → Leads setup before xs after → before.transport.greatest_freeze ≤ after.transport.greatest_freeze
leads_rises setup before [] after kept run = rw run (omega arith)
leads_rises setup before (x ∷ xs) after kept run =
    omega (arith, move_rises setup before x.0 run.0 (step_freezes setup before x.0 x.1 run.0 kept run.1), leads_rises setup run.0 xs after (step_keeps setup before x.0 x.1 run.0 run.1 kept) run.2)

none_held : (number : ℕ) (world : World) → entry_of number world.transport.freezes ≡ None → IsHeld number world → ⊥
none_held number world none held = let bad : IsSome {T = Freeze} None = subst (λ (o : Option Freeze). IsSome o) none held in cc

-- a number that is held was given
held_given : (setup : Setup) (world : World) (number : ℕ) (o : Option Freeze) → KeepsLists setup world → entry_of number world.transport.freezes ≡ o → IsSome o → number ≤ world.transport.greatest_freeze
held_given setup world number None kept is some = absurd (let bad : IsSome {T = Freeze} None = some in cc)
held_given setup world number (Some f) kept is some = (entry_bounds 0 world.transport.freezes world.transport.greatest_freeze number f kept.freezes.numbered is).2

-- the freeze of a number was taken out, so the number is past
removed_past : (setup : Setup) (before after : World) (number : ℕ) (freeze : Freeze) → KeepsLists setup before → entry_of number before.transport.freezes ≡ Some freeze → after.transport.freezes ≡ without number before.transport.freezes → after.transport.greatest_freeze ≡ before.transport.greatest_freeze → IsPast number after
removed_past setup before after number freeze kept entry e g =
    record {
      given = rw g (entry_bounds 0 before.transport.freezes before.transport.greatest_freeze number freeze kept.freezes.numbered entry).2;
      none = rw e (entry_removed number before.transport.freezes);
    }

pub given_up_stays_given_up : GivenUpStaysGivenUp
given_up_stays_given_up setup xs ys number reply world run held =
    let parts = leads_split setup (beginning setup) xs ((called (GuestRelease number), reply) ∷ ys) world run.1 in
    let before : World = parts.0 in
    let after : World = parts.2.0 in
    let kept = lists_are_kept setup xs before (run.0, parts.1) in
    let it = guest_release_parts setup before number reply after parts.2.1 in
    let same : it.number ≡ number = let e : called (GuestRelease number) ≡ called (GuestRelease it.number) = it.event_is in cc in
    let past = removed_past setup before after number it.freeze kept (subst (λ (n : ℕ). entry_of n before.transport.freezes ≡ Some it.freeze) same it.entry)
    (ap (λ (w : World). w.transport.freezes) it.after_is ∙ ap (λ (n : ℕ). without n before.transport.freezes) same) (ap (λ (w : World). w.transport.greatest_freeze) it.after_is) in
    none_held number world (leads_past setup after ys world number (step_keeps setup before (called (GuestRelease number)) reply after parts.2.1 kept) parts.2.2 past).none held

-- the call that is an event is the one at which the run stands
the_call : (setup : Setup) (before : World) (run : ℕ) (told : Told) (reply : Reply) (after : World) (request : Request) → Calls before run request → (it : Asks setup before (executes run (call told)) reply after) → it.request ≡ request
the_call setup before run told reply after request calls it =
    let e : executes run (call told) ≡ executes it.it.number (call (told_of it.request)) = it.it.event_is in
    let named : it.it.number ≡ run = cc in
    let runs : Some it.it.run ≡ Some calls.0 = sym it.it.found ∙ (ap (λ (n : ℕ). run_of n before.runs.list) named ∙ calls.1) in
    let same : it.it.run ≡ calls.0 = cc in
    let requests : Some it.request ≡ Some request = sym it.call_is ∙ (ap (λ (r : LiveRun). request_at r.program r.machine) same ∙ calls.2) in
    cc

-- a call gives back or hands over the freeze that it asks for
asked_for_one : (setup : Setup) (before : World) (run : LiveRun) (request : Request) (given : Answer) (between : World) (number : ℕ) → asked (Some request) ≡ number ∷ [] → LeavesFreezes setup before run request given between → ⊥
asked_for_one setup before run request given between number is effect = let bad : [] ≡ number ∷ [] = sym effect.keeps ∙ is in cc

gives_it_up : (request : Request) (number : ℕ) → (row_of request.helper).machine ≡ changes.GivesUp → request.arguments.first ≡ number → asked (Some request) ≡ number ∷ []
gives_it_up request number machine_is same = ap (λ (c : Change). asked_by c request) machine_is ∙ ap (λ (n : ℕ). n ∷ []) same

-- two deeds of one row are one
one_deed : (request : Request) (a b : HelperEffect) → (row_of request.helper).effect ≡ a → (row_of request.helper).effect ≡ b → a ≡ b
one_deed request a b first second = sym first ∙ second

-- a call that takes a freeze gives none up
takes_none : (request : Request) → (row_of request.helper).machine ≡ changes.Holds → (row_of request.helper).machine ≡ changes.GivesUp → ⊥
takes_none request holds gives = let bad : changes.Holds ≡ changes.GivesUp = sym holds ∙ gives in cc

given_back_past : (setup : Setup) (before after : World) (number : ℕ) (run : LiveRun) (request : Request) (given : Answer) (between : World) → KeepsLists setup before → (row_of request.helper).effect ≡ effects.GiveBack → request.arguments.first ≡ number → after.transport.freezes ≡ between.transport.freezes → after.transport.greatest_freeze ≡ between.transport.greatest_freeze → FreezeDeed setup before run request given between → IsPast number after
given_back_past setup before after number run request given between kept is same e g (leaves_freezes effect) =
    absurd (asked_for_one setup before run request given between number (gives_it_up request number (suits effects.GiveBack request is).machine_is same) effect)
given_back_past setup before after number run request given between kept is same e g (takes_one effect) = absurd (takes_none request effect.machine_is (suits effects.GiveBack request is).machine_is)
given_back_past setup before after number run request given between kept is same e g (gives_one_back effect) =
    removed_past setup before after number effect.freeze kept (subst (λ (n : ℕ). entry_of n before.transport.freezes ≡ Some effect.freeze) same effect.entry)
    (e ∙ (effect.freezes_is ∙ ap (λ (n : ℕ). without n before.transport.freezes) same)) (g ∙ effect.greatest_is)
given_back_past setup before after number run request given between kept is same e g (hands_one_over effect) = absurd (let bad : effects.HandOver ≡ effects.GiveBack = one_deed request _ _ effect.deed_is is in cc)

pub given_up_by_run_stays_given_up : GivenUpByRunStaysGivenUp
given_up_by_run_stays_given_up setup xs ys run number told reply before world first asks second held =
    let after : World = second.0 in
    let kept = lists_are_kept setup xs before first in
    let it = asks_of setup before run told reply after second.1 in
    let call_is = the_call setup before run told reply after asks.request asks.calls it in
    let past = given_back_past setup before after number it.it.run it.request it.given it.between kept
    (ap (λ (r : Request). (row_of r.helper).effect) call_is ∙ asks.deed_is) (ap (λ (r : Request). r.arguments.first) call_is ∙ asks.number_is)
    (ap (λ (x : Reply × World). x.1.transport.freezes) it.answer) (ap (λ (x : Reply × World). x.1.transport.greatest_freeze) it.answer) it.freezes in
    none_held number world (leads_past setup after ys world number (step_keeps setup before (executes run (call told)) reply after second.1 kept) second.2 past).none held

-- a number was given, and what bears it, if anything does, is a timer's
record IsTimed (number : ℕ) (world : World) : Type 0 where
  given : number ≤ world.transport.greatest_freeze
  timer : (freeze : Freeze) → entry_of number world.transport.freezes ≡ Some freeze → is_timer freeze.holder ≡ true

move_timed : (setup : Setup) (before : World) (event : Event) (after : World) (number : ℕ) → KeepsLists setup before → FreezeMove setup before event after → IsTimed number before → IsTimed number after
move_timed setup before event after number kept (freezes_stay e g) timed = record { given = rw g timed.given; timer = λ f found. timed.timer f (sym (ap (entry_of number) e) ∙ found) }
move_timed setup before event after number kept (freeze_enters queue holder known room e g comes) timed =
    record {
      given = rw g (omega (arith, timed.given));
      timer = λ f found.
          elim (found_in_push freeze_key number before.transport.freezes _ f (sym (ap (entry_of number) e) ∙ found)) [
            | inl old ↦ timed.timer f old
            | inr new ↦ absurd (omega (arith, new.1, timed.given))
          ];
    }
move_timed setup before event after number kept (freezes_leave gone e g from) timed =
    record {
      given = rw g timed.given;
      timer = λ f found. timed.timer f (found_unfiltered freeze_key (λ (x : Freeze). not (gone x)) 0 before.transport.freezes before.transport.greatest_freeze number f kept.freezes.numbered (sym (ap (entry_of number) e) ∙ found));
    }
move_timed setup before event after number kept (freeze_changes old new was queue_is e g hands) timed =
    record {
      given = rw g timed.given;
      timer = λ f found.
          let there : entry_of number (put freeze_key new before.transport.freezes) ≡ Some f = sym (ap (entry_of number) e) ∙ found in
          elim (cases_eq new.number number) [
            | inl same ↦
                let both : Some new ≡ Some f = sym (subst (λ (n : ℕ). entry_of n (put freeze_key new before.transport.freezes) ≡ Some new) same (put_same freeze_key new before.transport.freezes old was)) ∙ there in
                let is : new ≡ f = cc in
                subst (λ (x : Freeze). is_timer x.holder ≡ true) is hands.timed
            | inr apart ↦ timed.timer f (sym (put_other freeze_key new number before.transport.freezes apart) ∙ there)
          ];
    }

leads_timed : (setup : Setup) (before : World) (xs : List (Event × Reply)) (after : World) (number : ℕ) → KeepsLists setup before → Leads setup before xs after → IsTimed number before → IsTimed number after
leads_timed setup before [] after number kept run timed = subst (IsTimed number) run timed
leads_timed setup before (x ∷ xs) after number kept run timed =
    leads_timed setup run.0 xs after number (step_keeps setup before x.0 x.1 run.0 run.1 kept) run.2
    (move_timed setup before x.0 run.0 number kept (step_freezes setup before x.0 x.1 run.0 kept run.1) timed)

handed_over_timed : (setup : Setup) (before after : World) (number : ℕ) (run : LiveRun) (request : Request) (given : Answer) (between : World) → KeepsLists setup before → (row_of request.helper).effect ≡ effects.HandOver → request.arguments.first ≡ number → after.transport.freezes ≡ between.transport.freezes → after.transport.greatest_freeze ≡ between.transport.greatest_freeze → FreezeDeed setup before run request given between → IsTimed number after
handed_over_timed setup before after number run request given between kept is same e g (leaves_freezes effect) =
    absurd (asked_for_one setup before run request given between number (gives_it_up request number (suits effects.HandOver request is).machine_is same) effect)
handed_over_timed setup before after number run request given between kept is same e g (takes_one effect) = absurd (takes_none request effect.machine_is (suits effects.HandOver request is).machine_is)
handed_over_timed setup before after number run request given between kept is same e g (gives_one_back effect) = absurd (let bad : effects.GiveBack ≡ effects.HandOver = one_deed request _ _ effect.deed_is is in cc)
handed_over_timed setup before after number run request given between kept is same e g (hands_one_over effect) =
    let asked_number : ℕ = request.arguments.first in
    let old : Freeze = effect.freeze in
    let due : ℕ = before.transport.clock + request.arguments.second in
    let new : Freeze = record old { holder = Timer due } in
    let bounds = entry_bounds 0 before.transport.freezes before.transport.greatest_freeze asked_number old kept.freezes.numbered effect.entry in
    let freezes_is : after.transport.freezes ≡ put freeze_key new before.transport.freezes = e ∙ (effect.freezes_is ∙ handed_is_put asked_number due 0 before.transport.freezes before.transport.greatest_freeze old kept.freezes.numbered effect.entry) in
    let there : entry_of old.number after.transport.freezes ≡ Some new = ap (entry_of old.number) freezes_is ∙ put_same freeze_key new before.transport.freezes old (subst (λ (n : ℕ). entry_of n before.transport.freezes ≡ Some old) (sym bounds.0) effect.entry) in
    record {
      given = omega (arith, same, bounds.2, g, effect.greatest_is);
      timer = λ f found.
          let one : Some new ≡ Some f = sym there ∙ (ap (λ (n : ℕ). entry_of n after.transport.freezes) (bounds.0 ∙ same) ∙ found) in
          let is_new : new ≡ f = cc in
          ap (λ (x : Freeze). is_timer x.holder) (sym is_new);
    }

pub handed_over_stays_handed_over : HandedOverStaysHandedOver
handed_over_stays_handed_over setup xs ys run number told reply before world first hands second owned =
    let after : World = second.0 in
    let kept = lists_are_kept setup xs before first in
    let it = asks_of setup before run told reply after second.1 in
    let call_is = the_call setup before run told reply after hands.request hands.calls it in
    let timed = handed_over_timed setup before after number it.it.run it.request it.given it.between kept
    (ap (λ (r : Request). (row_of r.helper).effect) call_is ∙ hands.deed_is) (ap (λ (r : Request). r.arguments.first) call_is ∙ hands.number_is)
    (ap (λ (x : Reply × World). x.1.transport.freezes) it.answer) (ap (λ (x : Reply × World). x.1.transport.greatest_freeze) it.answer) it.freezes in
    let later = leads_timed setup after ys world number (step_keeps setup before (executes run (call told)) reply after second.1 kept) second.2 timed in
    let bad : false ≡ true = sym owned.2 ∙ later.timer owned.0 owned.1 in cc

pub gone_stays_gone : GoneStaysGone
gone_stays_gone setup xs ys zs number held gone later first was second not_there third is_there =
    let kept = lists_are_kept setup xs held first in
    let given = held_given setup held number (entry_of number held.transport.freezes) kept refl was in
    let past : IsPast number gone = record { given = omega (arith, given, leads_rises setup held ys gone kept second); none = none_since (entry_of number gone.transport.freezes) not_there } in
    none_held number later (leads_past setup gone zs later number (leads_keeps setup held ys gone second kept) third past).none is_there
