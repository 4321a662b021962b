-- Each live CCB waits or is active with nothing left of an earlier completion, or a run has it. So where no run is live, each is one that may
-- be taken over.
use Rattle.std.proofs.Common.{◌≡◌, ℕ, ◌+◌, List, [], ◌∷◌, true, false, eqb, Option, Some, None, ◌⊎◌, inl, inr, refl, ap, sym, subst, ◌∙◌}
use Rattle.std.specs.Prelude.{IfSome}
use Rattle.std.proofs.lemmas.Bool.{cases_Bool, cases_eq, cond-true, cond-false, ne_eqb}
use Rattle.ccb.specs.Ccb.{advised, completed, requeued, started}
use Rattle.world.specs.declared.ccb_state.CcbState.TheVariants.{Active, InRecovery, Waiting}
use Rattle.world.specs.World.{LiveCcb, LiveRun, Setup, World, beginning, beginning_of}
use Rattle.world.specs.Beginning.{Begins as BeginsSo, IsBeginning, IsCarriedCcb}
use Rattle.world.specs.Lookups.{ccb_of, is_waiting, run_of, with_ccb}
use Rattle.world.specs.Event.{Event, Instruction, Reply, call, instruction_of, private}
use Rattle.world.specs.Lawful.{IsLawful}
use Rattle.world.specs.WorldRun.{Leads, WorldRun}
use Rattle.world.specs.Told.{told_of}
use Rattle.world.specs.Laws.Headline.{is_disposal, is_disposal_of}
use Rattle.world.proofs.Lists.Found.{found_in_push, found_key, leave, leave_other, leave_same, put_other, put_same}
use Rattle.world.proofs.Lists.Each.{all_found}
use Rattle.world.proofs.Steps.Moves.{Begins, ccb_found, ccb_key, next_found}
use Rattle.world_laws.proofs.Steps.Cases.{Case, asks_one, case_of, dispatches, exits, finishes_one, freezes_one, goes_on_one, reads_clock, recovers_one, recovers_unfrozen, refuses, releases_one, submits, turns_one, withdraws_one}
use Rattle.world_laws.proofs.Steps.Calls.{Asks}
use Rattle.world_laws.proofs.Steps.Does.{CcbDeed, advises_one, ends_one, leaves_ccbs, requeues_one}
use Rattle.world_laws.proofs.Steps.Effects.{begins_frozen, begins_unfrozen, begun_found}
use Rattle.world_laws.proofs.Steps.Fates.{Disposing, Fate, disposes_of_it, fate_of, goes, leaves_its_ccb, leaves_world, machine_of, same_run, stands, turned}
use Rattle.world_laws.proofs.Steps.Running.{Executes}
use Rattle.world_laws.proofs.Runs.Reaching.{lawful_exit, reached_goes}
use Rattle.world_laws.proofs.Sound.{IsSound, beginning_sound, step_sound}

-- a live run has the CCB, and has not disposed of it
record HasRun (world : World) (ccb : ℕ) : Type 0 where
  number : ℕ
  run : LiveRun
  found : run_of number world.runs.list ≡ Some run
  ccb_is : run.ccb ≡ ccb
  fresh : run.machine.disposed ≡ false

abbrev Rests : World → ℕ → LiveCcb → Type 0
Rests world number live = IsCarriedCcb live ⊎ HasRun world number

abbrev Resting : World → Type 0
Resting world = (number : ℕ) (live : LiveCcb) → ccb_of number world.transport.live ≡ Some live → Rests world number live

-- ---- a run that does not dispose of its CCB keeps it

keeps_run : (setup : Setup) (before : World) (event : Event) (reply : Reply) (after : World) → IsLawful setup → IsSound setup before → (ccb : ℕ) (has : HasRun before ccb) → is_disposal_of has.number event ≡ false → Fate before event reply after has.number has.run → HasRun after ccb
keeps_run setup before event reply after lawful sound ccb has calm (stands out idle is) = record { number = has.number; run = turned has.run out; found = is; ccb_is = has.ccb_is; fresh = has.fresh }
keeps_run setup before event reply after lawful sound ccb has calm (goes instruction machine event_is no_exit steps is holding disposing) = by disposing
  where
    by : Disposing before after has.run instruction machine → HasRun after ccb
    by (leaves_its_ccb same live quiet) = record { number = has.number; run = machine_of has.run machine; found = is; ccb_is = has.ccb_is; fresh = same ∙ has.fresh }
    by (disposes_of_it fresh spent disposal) = absurd (let bad : true ≡ false = sym disposal ∙ (sym (ap is_disposal event_is) ∙ calm) in cc)
keeps_run setup before event reply after lawful sound ccb has calm (leaves_world r0 event_is exit_is none takes) =
    let unstuck = reached_goes setup lawful before sound.kept.runs has.number has.run has.found (sound.reached has.number has.run has.found) in
    let spent = (lawful_exit has.run.program setup.limits has.run.machine r0 unstuck exit_is).1 in
    absurd (let bad : true ≡ false = sym spent ∙ has.fresh in cc)

-- ---- what a step does to one CCB

-- the CCB was there so, and no run disposes of it
stays : (setup : Setup) (before : World) (event : Event) (reply : Reply) (after : World) → IsLawful setup → IsSound setup before → Case setup before event reply after → Resting before
    → (number : ℕ) (live : LiveCcb) → ccb_of number before.transport.live ≡ Some live → ((has : HasRun before number) → is_disposal_of has.number event ≡ false) → Rests after number live
stays setup before event reply after lawful sound it resting number live found calm =
    elim (resting number live found) [
      | inl carried ↦ inl carried
      | inr has ↦ inr (keeps_run setup before event reply after lawful sound number has (calm has) (fate_of setup before event reply after has.number has.run lawful sound.kept sound.held has.found it))
    ]

-- the event is no instruction of a run
idle_is_calm : (event : Event) → ((run : ℕ) → instruction_of run event ≡ None) → (run : ℕ) → is_disposal_of run event ≡ false
idle_is_calm event idle run = ap is_disposal (idle run)

-- or one that disposes of nothing
calm_by : (before : World) (event : Event) (instruction : Instruction) → Executes before event instruction → is_disposal (Some instruction) ≡ false → (run : ℕ) → is_disposal_of run event ≡ false
calm_by before event instruction it calm run =
    elim (cases_Bool (eqb it.number run)) [
      | inl same ↦ ap (is_disposal_of run) it.event_is ∙ (ap is_disposal (cond-true (eqb it.number run) (Some instruction) None same) ∙ calm)
      | inr other ↦ ap (is_disposal_of run) it.event_is ∙ ap is_disposal (cond-false (eqb it.number run) (Some instruction) None other)
    ]

-- another run's instruction is none of this run's
others_calm : (before : World) (event : Event) (instruction : Instruction) (it : Executes before event instruction) (run : ℕ) → (it.number ≡ run → ⊥) → is_disposal_of run event ≡ false
others_calm before event instruction it run apart = ap (is_disposal_of run) it.event_is ∙ ap is_disposal (cond-false (eqb it.number run) (Some instruction) None (ne_eqb _ _ apart))

-- two finds of one number
same_found : (number : ℕ) (world : World) (a b : LiveCcb) → ccb_of number world.transport.live ≡ Some a → ccb_of number world.transport.live ≡ Some b → a ≡ b
same_found number world a b first second = let both : Some a ≡ Some b = sym first ∙ second in cc

-- a CCB that is started was not in recovery
was_waiting : (setup : Setup) (before : World) → IsSound setup before → Resting before → (live : LiveCcb) → ccb_of live.ccb.number.0 before.transport.live ≡ Some live → is_waiting live.state ≡ true → IsCarriedCcb live
was_waiting setup before sound resting live found waits =
    elim (resting live.ccb.number.0 live found) [
      | inl carried ↦ carried
      | inr has ↦
          let recovery = sound.recovering.ccbs has.number has.run has.found has.fresh in
          let there : ccb_of has.run.ccb before.transport.live ≡ Some live = ap (λ (n : ℕ). ccb_of n before.transport.live) has.ccb_is ∙ found in
          let one : recovery.live ≡ live = same_found has.run.ccb before recovery.live live recovery.found there in
          absurd (let bad : false ≡ true = sym (ap is_waiting (sym (ap (λ (c : LiveCcb). c.state) one) ∙ recovery.state)) ∙ waits in cc)
    ]

-- one CCB is changed in its place
changes : (setup : Setup) (before : World) (event : Event) (reply : Reply) (after : World) → IsLawful setup → IsSound setup before → Case setup before event reply after → Resting before
    → (old new : LiveCcb) → ccb_of new.ccb.number.0 before.transport.live ≡ Some old → after.transport.live ≡ with_ccb new before.transport.live → Rests after new.ccb.number.0 new
    → ((number : ℕ) (has : HasRun before number) → (new.ccb.number.0 ≡ number → ⊥) → is_disposal_of has.number event ≡ false) → Resting after
changes setup before event reply after lawful sound it resting old new was live_is rests calm number live found =
    elim (cases_eq new.ccb.number.0 number) [
      | inl same ↦
          let there : ccb_of new.ccb.number.0 after.transport.live ≡ Some new = ap (ccb_of new.ccb.number.0) live_is ∙ put_same ccb_key new before.transport.live old was in
          let is : new ≡ live = same_found number after new live (subst (λ (n : ℕ). ccb_of n after.transport.live ≡ Some new) same there) found in
          subst (Rests after number) is (subst (λ (n : ℕ). Rests after n new) same rests)
      | inr apart ↦
          let there : ccb_of number before.transport.live ≡ Some live = sym (ap (ccb_of number) live_is ∙ put_other ccb_key new number before.transport.live apart) ∙ found in
          stays setup before event reply after lawful sound it resting number live there (λ has. calm number has apart)
    ]

-- one CCB is gone
one_gone : (setup : Setup) (before : World) (event : Event) (reply : Reply) (after : World) → IsLawful setup → IsSound setup before → Case setup before event reply after → Resting before
    → (left : ℕ) → after.transport.live ≡ leave ccb_key left before.transport.live
    → ((number : ℕ) (has : HasRun before number) → (left ≡ number → ⊥) → is_disposal_of has.number event ≡ false) → Resting after
one_gone setup before event reply after lawful sound it resting left live_is calm number live found =
    elim (cases_eq left number) [
      | inl same ↦
          let none : ccb_of number after.transport.live ≡ None = subst (λ (n : ℕ). ccb_of n after.transport.live ≡ None) same (ap (ccb_of left) live_is ∙ leave_same ccb_key left before.transport.live) in
          absurd (let bad : None ≡ Some live = sym none ∙ found in cc)
      | inr apart ↦
          let there : ccb_of number before.transport.live ≡ Some live = sym (ap (ccb_of number) live_is ∙ leave_other ccb_key left number before.transport.live apart) ∙ found in
          stays setup before event reply after lawful sound it resting number live there (λ has. calm number has apart)
    ]

-- all are as they were
all_stay : (setup : Setup) (before : World) (event : Event) (reply : Reply) (after : World) → IsLawful setup → IsSound setup before → Case setup before event reply after → Resting before
    → after.transport.live ≡ before.transport.live → ((run : ℕ) → is_disposal_of run event ≡ false) → Resting after
all_stay setup before event reply after lawful sound it resting live_is calm number live found =
    stays setup before event reply after lawful sound it resting number live (sym (ap (ccb_of number) live_is) ∙ found) (λ has. calm has.number)

-- a run begins with the CCB
begun_has : (setup : Setup) (before : World) (event : Event) (reply : Reply) (after : World) (run : LiveRun) → IsSound setup before → (it : Begins setup before event reply after run) → HasRun after it.live.ccb.number.0
begun_has setup before event reply after run sound it = record {
  number = before.runs.greatest + 1;
  run = run;
  found = begun_found setup before event reply after run sound.kept.runs it;
  ccb_is = ap (λ (r : LiveRun). r.ccb) it.run_is;
  fresh = ap (λ (r : LiveRun). r.machine.disposed) it.run_is;
}

begins_rest : (setup : Setup) (before : World) (event : Event) (reply : Reply) (after : World) (run : LiveRun) → IsLawful setup → IsSound setup before → Case setup before event reply after → Resting before → Begins setup before event reply after run → Resting after
begins_rest setup before event reply after run lawful sound it resting begun =
    let new : LiveCcb = record { ccb = completed begun.live.ccb begun.outcome begun.taken; state = InRecovery } in
    changes setup before event reply after lawful sound it resting begun.live new (ccb_found begun.outcome.ccb.0 before.transport.live begun.live begun.found) begun.live_is
    (inr (begun_has setup before event reply after run sound begun))
    (λ number has apart. idle_is_calm event (λ r. ap (instruction_of r) begun.event_is) has.number)

-- a run disposes of its own CCB
its_own : (setup : Setup) (before : World) (event : Event) (instruction : Instruction) → (it : Executes before event instruction) → (number : ℕ) (has : HasRun before number) → (it.run.ccb ≡ number → ⊥) → is_disposal_of has.number event ≡ false
its_own setup before event instruction it number has apart =
    others_calm before event instruction it has.number (λ same. apart (ap (λ (r : LiveRun). r.ccb) (same_run before.runs.list it.number has.number it.run has.run same it.found has.found) ∙ has.ccb_is))

asks_rests : (setup : Setup) (before : World) (event : Event) (reply : Reply) (after : World) → IsLawful setup → IsSound setup before → Case setup before event reply after → Resting before → (it : Asks setup before event reply after) → CcbDeed before it.it.run it.request it.given it.between → Resting after
asks_rests setup before event reply after lawful sound case resting it (leaves_ccbs effect) =
    all_stay setup before event reply after lawful sound case resting (ap (λ (x : Reply × World). x.1.transport.live) it.answer ∙ effect.live_is)
    (calm_by before event (call (told_of it.request)) it.it effect.calm)
asks_rests setup before event reply after lawful sound case resting it (requeues_one effect) =
    let new : LiveCcb = record { ccb = requeued effect.its.live.ccb it.request.arguments.first; state = Waiting } in
    let named : effect.its.live.ccb.number.0 ≡ it.it.run.ccb = found_key ccb_key it.it.run.ccb before.transport.live effect.its.live effect.its.found in
    changes setup before event reply after lawful sound case resting effect.its.live new (ccb_found _ before.transport.live effect.its.live effect.its.found)
    (ap (λ (x : Reply × World). x.1.transport.live) it.answer ∙ effect.live_is)
    (inl (record { state = inl refl; status = refl; scsi = refl; sense = refl; freeze = refl; advice = λ is. absurd (let bad : Waiting ≡ Active = is in cc) }))
    (λ number has apart. its_own setup before event (call (told_of it.request)) it.it number has (λ same. apart (named ∙ same)))
asks_rests setup before event reply after lawful sound case resting it (ends_one effect) =
    let named : effect.its.live.ccb.number.0 ≡ it.it.run.ccb = found_key ccb_key it.it.run.ccb before.transport.live effect.its.live effect.its.found in
    one_gone setup before event reply after lawful sound case resting effect.its.live.ccb.number.0
    (ap (λ (x : Reply × World). x.1.transport.live) it.answer ∙ effect.live_is)
    (λ number has apart. its_own setup before event (call (told_of it.request)) it.it number has (λ same. apart (named ∙ same)))
asks_rests setup before event reply after lawful sound case resting it (advises_one effect) =
    let old : LiveCcb = effect.its.live in
    let new : LiveCcb = record old { ccb = advised old.ccb it.request.arguments.first } in
    let named : old.ccb.number.0 ≡ it.it.run.ccb = found_key ccb_key it.it.run.ccb before.transport.live old effect.its.found in
    let has : HasRun before old.ccb.number.0 = record { number = it.it.number; run = it.it.run; found = it.it.found; ccb_is = sym named; fresh = effect.its.fresh } in
    let calm = calm_by before event (call (told_of it.request)) it.it effect.calm in
    changes setup before event reply after lawful sound case resting old new (ccb_found _ before.transport.live old effect.its.found)
    (ap (λ (x : Reply × World). x.1.transport.live) it.answer ∙ effect.live_is)
    (inr (keeps_run setup before event reply after lawful sound old.ccb.number.0 has (calm has.number) (fate_of setup before event reply after has.number has.run lawful sound.kept sound.held has.found case)))
    (λ number other apart. calm other.number)

-- ---- each kind of step

case_rests : (setup : Setup) (before : World) (event : Event) (reply : Reply) (after : World) → IsLawful setup → IsSound setup before → Resting before → Case setup before event reply after → Case setup before event reply after → Resting after
case_rests setup before event reply after lawful sound resting case (refuses it) =
    all_stay setup before event reply after lawful sound case resting (ap (λ (w : World). w.transport.live) it.after_is) (idle_is_calm event it.idle)
case_rests setup before event reply after lawful sound resting case (submits it) = λ number live found.
    let calm = idle_is_calm event (λ run. ap (instruction_of run) it.event_is) in
    elim (found_in_push ccb_key number before.transport.live _ live (sym (ap (λ (w : World). ccb_of number w.transport.live) it.after_is) ∙ found)) [
      | inl there ↦ stays setup before event reply after lawful sound case resting number live there (λ has. calm has.number)
      | inr is ↦ inl (subst IsCarriedCcb (sym is.0) (record { state = inl refl; status = refl; scsi = refl; sense = refl; freeze = refl; advice = λ _. refl }))
    ]
case_rests setup before event reply after lawful sound resting case (dispatches it) =
    let next = next_found it.queue.0 before.transport.live before.transport.greatest_ccb it.next sound.kept.ccbs.rising it.next_is in
    let was = was_waiting setup before sound resting it.next next.found next.waits in
    changes setup before event reply after lawful sound case resting it.next (record { ccb = started it.next.ccb; state = Active }) next.found (ap (λ (w : World). w.transport.live) it.after_is)
    (inl (record { state = inr refl; status = was.status; scsi = was.scsi; sense = was.sense; freeze = was.freeze; advice = λ _. refl }))
    (λ number has apart. idle_is_calm event (λ run. ap (instruction_of run) it.event_is) has.number)
case_rests setup before event reply after lawful sound resting case (finishes_one it) =
    one_gone setup before event reply after lawful sound case resting it.live.ccb.number.0 (ap (λ (w : World). w.transport.live) it.after_is)
    (λ number has apart. idle_is_calm event (λ run. ap (instruction_of run) it.event_is) has.number)
case_rests setup before event reply after lawful sound resting case (withdraws_one it) =
    one_gone setup before event reply after lawful sound case resting it.live.ccb.number.0 (ap (λ (w : World). w.transport.live) it.after_is)
    (λ number has apart. idle_is_calm event (λ run. ap (instruction_of run) it.event_is) has.number)
case_rests setup before event reply after lawful sound resting case (recovers_one it) =
    let begun = begins_frozen setup before event reply after it in begins_rest setup before event reply after begun.0 lawful sound case resting begun.1
case_rests setup before event reply after lawful sound resting case (recovers_unfrozen it) =
    let begun = begins_unfrozen setup before event reply after it in begins_rest setup before event reply after begun.0 lawful sound case resting begun.1
case_rests setup before event reply after lawful sound resting case (freezes_one it) =
    all_stay setup before event reply after lawful sound case resting (ap (λ (w : World). w.transport.live) it.after_is) (idle_is_calm event (λ run. ap (instruction_of run) it.event_is))
case_rests setup before event reply after lawful sound resting case (releases_one it) =
    all_stay setup before event reply after lawful sound case resting (ap (λ (w : World). w.transport.live) it.after_is) (idle_is_calm event (λ run. ap (instruction_of run) it.event_is))
case_rests setup before event reply after lawful sound resting case (reads_clock it) =
    all_stay setup before event reply after lawful sound case resting (ap (λ (w : World). w.transport.live) it.after_is) (idle_is_calm event (λ run. ap (instruction_of run) it.event_is))
case_rests setup before event reply after lawful sound resting case (turns_one it) =
    all_stay setup before event reply after lawful sound case resting (ap (λ (w : World). w.transport.live) it.after_is) (idle_is_calm event it.idle)
case_rests setup before event reply after lawful sound resting case (goes_on_one it) =
    all_stay setup before event reply after lawful sound case resting (ap (λ (w : World). w.transport.live) it.after_is) (calm_by before event private it.it refl)
case_rests setup before event reply after lawful sound resting case (asks_one it) = asks_rests setup before event reply after lawful sound case resting it it.ccbs
case_rests setup before event reply after lawful sound resting case (exits it) =
    all_stay setup before event reply after lawful sound case resting (ap (λ (w : World). w.transport.live) it.after_is) (calm_by before event _ it.it refl)

-- ---- every run

leads_rest : (setup : Setup) (before : World) (xs : List (Event × Reply)) (after : World) → IsLawful setup → Leads setup before xs after → IsSound setup before → Resting before → Resting after
leads_rest setup before [] after lawful run sound resting = subst Resting run resting
leads_rest setup before (x ∷ xs) after lawful run sound resting =
    let case = case_of setup before x.0 x.1 run.0 run.1 in
    leads_rest setup run.0 xs after lawful run.2 (step_sound setup before x.0 x.1 run.0 lawful run.1 sound) (case_rests setup before x.0 x.1 run.0 lawful sound resting case case)

beginning_rests : (setup : Setup) → BeginsSo setup → Resting (beginning setup)
beginning_rests setup begins = by setup.carried begins
  where
    by : (carried : Option World) → IfSome carried (IsBeginning setup) → Resting (beginning_of setup carried)
    by None begins number live found = absurd (let bad : None ≡ Some live = found in cc)
    by (Some world) begins number live found = inl (all_found ccb_key IsCarriedCcb number world.transport.live live begins.ccbs found)

-- where no run is live, each CCB may be taken over
pub all_rest : (setup : Setup) (xs : List (Event × Reply)) (world : World) → IsLawful setup → WorldRun setup xs world → world.runs.list ≡ [] → (number : ℕ) (live : LiveCcb) → ccb_of number world.transport.live ≡ Some live → IsCarriedCcb live
all_rest setup xs world lawful run none number live found =
    elim (leads_rest setup (beginning setup) xs world lawful run.1 (beginning_sound setup lawful run.0) (beginning_rests setup run.0) number live found) [
      | inl carried ↦ carried
      | inr has ↦ absurd (let bad : None ≡ Some has.run = sym (ap (run_of has.number) none) ∙ has.found in cc)
    ]
