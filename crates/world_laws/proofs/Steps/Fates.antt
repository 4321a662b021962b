-- What a step makes of one run: it stands, and may be parked or out again, goes on by an instruction of its own, or is
-- gone; and which run is new.
use Rattle.std.proofs.Common.{◌≡◌, ℕ, ◌+◌, ◌<◌, ◌≤◌, List, [], ◌∷◌, ◌++◌, Bool, true, false, not, cond, eqb, Some, None, inl, inr, refl, ap, sym, subst, ◌∙◌, arith}
use Rattle.std.specs.Prelude.{◌&&◌}
use Rattle.std.proofs.lemmas.Bool.{cases_eq, cond-true, cond-false, eq-eqb, ne_eqb, and_from, not_from_false}
use Rattle.freeze_ledger.specs.declared.freeze.Holder.TheVariants.{Run, Timer}
use Rattle.freeze_ledger.specs.declared.freeze.Freeze.{Freeze}
use Rattle.freeze_ledger.specs.Freezes.{entry_of, without}
use Rattle.helpers.specs.declared.request.Request.{Request}
use Rattle.helpers.specs.declared.columns.Gives.{Gives}
use Rattle.helpers.specs.declared.columns.Gives.TheVariants.{Number, NewFreeze}
use Rattle.helpers.specs.declared.columns.Change.{Change}
use Rattle.helpers.specs.declared.columns.Change.TheVariants as changes
use Rattle.helpers.specs.declared.request.Answer.{Answer}
use Rattle.helpers.specs.Table.{row_of, answer_number}
use Rattle.bpf_semantics.specs.MachineState.{MachineState}
use Rattle.bpf_semantics.specs.Calls.{is_held}
use Rattle.bpf_semantics.specs.Step.{request_at, exit_at, IsAnswer, held_without, answered, changed_by, after_call}
use Rattle.bpf_semantics.specs.Reached.{Steps}
use Rattle.world.specs.FreezeSteps.{frozen_with}
use Rattle.ccb.specs.Ccb.{advised}
use Rattle.ccb.specs.Places.{is_place}
use Rattle.world.specs.World.{Setup, queue_count, LiveCcb, LiveRun, World}
use Rattle.world.specs.Lookups.{ccb_of, run_of, with_run}
use Rattle.world.specs.Told.{told_of}
use Rattle.world.specs.Event.{Instruction, private, call, exit, Event, instruction_of, Reply}
use Rattle.world.specs.RunSteps.{is_run}
use Rattle.world.specs.Laws.FreezeLaws.{entries_of, held_by, HoldsWhatEntriesSay}
use Rattle.world.specs.Laws.TookGave.{taken_as, taken_by, asked_by, asked, given_up}
use Rattle.world.specs.Laws.Headline.{is_disposal, is_exit}
use Rattle.world.specs.Lawful.{IsLawful}
use Rattle.world.specs.Limits.{FreezeLimits, KeepsLimits}
use Rattle.world.proofs.Lists.Found.{leave, found_key, found_push, put_same, put_other, leave_same, leave_other}
use Rattle.world.proofs.Lists.Each.{all_found}
use Rattle.world.proofs.Lists.Entries.{freeze_key, frozen_without, entry_bounds, handed_is_put, place_itself}
use Rattle.world.proofs.Lists.HeldBy.{entries_put, none_above}
use Rattle.world_laws.proofs.Kept.{room_from}
use Rattle.world_laws.proofs.Steps.Running.{Executes}
use Rattle.world_laws.proofs.Steps.Does.{AnswersFrom, FreezeDeed, leaves_freezes, takes_one, gives_one_back, hands_one_over, CcbDeed, leaves_ccbs, requeues_one, ends_one, advises_one, takes_by, disposes_by}
use Rattle.world_laws.proofs.Steps.Calls.{Asks}
use Rattle.world_laws.proofs.Steps.Cases.{Case, refuses, submits, dispatches, finishes_one, withdraws_one, recovers_one, recovers_unfrozen, freezes_one, releases_one, reads_clock, Turns, turns_one, goes_on_one, asks_one, exits}
use Rattle.world.proofs.Steps.Moves.{ccb_key, ccb_found, run_key, Begins}
use Rattle.world_laws.proofs.Steps.Effects.{its_instruction, not_others, call_runs, call_takes}
use Rattle.world_laws.proofs.Steps.Private.{private_keeps}

-- the run that a run becomes, with this machine
abbrev pub machine_of : LiveRun → MachineState → LiveRun
machine_of run machine = record run { machine = machine }

-- and as it is out, or parked
abbrev pub turned : LiveRun → Bool → LiveRun
turned run out = record run { out = out }

-- What an instruction by which a run goes on does to the freezes that the run holds: nothing, or the run takes one, or one
-- of them goes or gets another holder.
pub data Holding (before : World) (event : Event) (reply : Reply) (after : World) (number : ℕ) (run : LiveRun) (instruction : Instruction) (machine : MachineState) : Type 0 where
  holds_the_same : machine.held ≡ run.machine.held → after.transport.freezes ≡ before.transport.freezes → given_up (Some instruction) (request_at run.program run.machine) ≡ [] → taken_by number event reply ≡ [] → Holding before event reply after number run instruction machine
  holds_one_more : (freeze : Freeze) → freeze.number ≡ before.transport.greatest_freeze + 1 → is_run number freeze.holder ≡ true → machine.held ≡ run.machine.held ++ freeze.number ∷ [] → after.transport.freezes ≡ before.transport.freezes ++ freeze ∷ [] → after.transport.greatest_freeze ≡ before.transport.greatest_freeze + 1 → given_up (Some instruction) (request_at run.program run.machine) ≡ [] → taken_by number event reply ≡ freeze.number ∷ [] → Holding before event reply after number run instruction machine
  holds_one_fewer : (wanted : ℕ) (freeze : Freeze) → entry_of wanted before.transport.freezes ≡ Some freeze → is_run number freeze.holder ≡ true → machine.held ≡ held_without run.machine.held wanted → entries_of number after.transport.freezes ≡ entries_of number (without wanted before.transport.freezes) → given_up (Some instruction) (request_at run.program run.machine) ≡ wanted ∷ [] → taken_by number event reply ≡ [] → Holding before event reply after number run instruction machine

-- its CCB is live as before, in the same state
pub record StaysInState (before after : World) (run : LiveRun) : Type 0 where
  pub stays : (live : LiveCcb) → ccb_of run.ccb before.transport.live ≡ Some live → (now : LiveCcb) × (ccb_of run.ccb after.transport.live ≡ Some now) × (now.state ≡ live.state)

-- And to its CCB: it stays in its state, whatever is advised for it, or the run disposes of it.
pub data Disposing (before after : World) (run : LiveRun) (instruction : Instruction) (machine : MachineState) : Type 0 where
  leaves_its_ccb : machine.disposed ≡ run.machine.disposed → StaysInState before after run → is_disposal (Some instruction) ≡ false → Disposing before after run instruction machine
  disposes_of_it : run.machine.disposed ≡ false → machine.disposed ≡ true → is_disposal (Some instruction) ≡ true → Disposing before after run instruction machine

pub data Fate (before : World) (event : Event) (reply : Reply) (after : World) (number : ℕ) (run : LiveRun) : Type 0 where
  stands : (out : Bool) → instruction_of number event ≡ None → run_of number after.runs.list ≡ Some (turned run out) → Fate before event reply after number run
  goes : (instruction : Instruction) (machine : MachineState) → instruction_of number event ≡ Some instruction → is_exit (Some instruction) ≡ false → Steps run.program run.machine machine → run_of number after.runs.list ≡ Some (machine_of run machine) → Holding before event reply after number run instruction machine → Disposing before after run instruction machine → Fate before event reply after number run
  leaves_world : (r0 : ℕ) → instruction_of number event ≡ Some exit → exit_at run.program run.machine ≡ Some r0 → run_of number after.runs.list ≡ None → taken_by number event reply ≡ [] → Fate before event reply after number run

-- two runs of one number are one
pub same_run : (runs : List LiveRun) (n m : ℕ) (a b : LiveRun) → n ≡ m → run_of n runs ≡ Some a → run_of m runs ≡ Some b → a ≡ b
same_run runs n m a b e first second =
    let both : Some a ≡ Some b = sym first ∙ (ap (λ (k : ℕ). run_of k runs) e ∙ second) in cc

-- a run that is changed in its place
pub changed_same : (runs later : List LiveRun) (number : ℕ) (run new : LiveRun) → new.number ≡ run.number → run_of number runs ≡ Some run → later ≡ with_run new runs → run_of number later ≡ Some new
changed_same runs later number run new same found e =
    let named : new.number ≡ number = same ∙ found_key run_key number runs run found in
    ap (run_of number) e
    ∙ subst (λ (n : ℕ). run_of n (with_run new runs) ≡ Some new) named
    (put_same run_key new runs run (subst (λ (n : ℕ). run_of n runs ≡ Some run) (sym named) found))

changed_other : (runs later : List LiveRun) (number : ℕ) (new : LiveRun) → later ≡ with_run new runs → (new.number ≡ number → ⊥) → run_of number later ≡ run_of number runs
changed_other runs later number new e apart = ap (run_of number) e ∙ put_other run_key new number runs apart

-- the count after a release is at most 254
pub count_after : (setup : Setup) (before : World) (number : ℕ) (freeze : Freeze) → FreezeLimits setup before → entry_of number before.transport.freezes ≡ Some freeze → frozen_with freeze (without freeze.number before.transport.freezes) ≤ 254
count_after setup before number freeze kept entry =
    let is = entry_bounds 0 before.transport.freezes before.transport.greatest_freeze number freeze kept.numbered entry in
    let fewer = frozen_without freeze.place 0 before.transport.freezes before.transport.greatest_freeze freeze.number freeze kept.numbered (subst (λ (n : ℕ). entry_of n before.transport.freezes ≡ Some freeze) (sym is.0) entry) in
    let one : cond {A = ℕ} (is_place freeze.place freeze.place) 1 0 ≡ 1 = ap (λ (b : Bool). cond {A = ℕ} b 1 0) (place_itself freeze.place) in
    omega (arith, fewer, one, kept.a_place freeze.place)

-- the runs are as they were
unchanged : (before : World) (event : Event) (reply : Reply) (after : World) (number : ℕ) (run : LiveRun) → run_of number before.runs.list ≡ Some run → instruction_of number event ≡ None → after.runs.list ≡ before.runs.list → Fate before event reply after number run
unchanged before event reply after number run found idle e = stands run.out idle (ap (run_of number) e ∙ found)

-- a run goes on, and the others stand
one_goes : (before : World) (event : Event) (reply : Reply) (after : World) (instruction : Instruction) (it : Executes before event instruction) (machine : MachineState) → after.runs.list ≡ with_run (machine_of it.run machine) before.runs.list → is_exit (Some instruction) ≡ false → Steps it.run.program it.run.machine machine → Holding before event reply after it.number it.run instruction machine → Disposing before after it.run instruction machine → (number : ℕ) (run : LiveRun) → run_of number before.runs.list ≡ Some run → Fate before event reply after number run
one_goes before event reply after instruction it machine runs_is no_exit steps holding disposing number run found =
    let named : it.run.number ≡ it.number = found_key run_key it.number before.runs.list it.run it.found in
    elim (cases_eq it.number number) [
      | inl its ↦
          let same : it.run ≡ run = same_run before.runs.list it.number number it.run run its it.found found in
          let own : Fate before event reply after it.number it.run =
          goes instruction machine (its_instruction before event instruction it) no_exit steps (changed_same before.runs.list after.runs.list it.number it.run (machine_of it.run machine) refl it.found runs_is) holding disposing in
          subst (λ (n : ℕ). Fate before event reply after n run) its (subst (λ (r : LiveRun). Fate before event reply after it.number r) same own)
      | inr apart ↦
          stands run.out (not_others before event instruction number it apart)
          (changed_other before.runs.list after.runs.list number (machine_of it.run machine) runs_is (λ e. apart (sym named ∙ e)) ∙ found)
    ]

-- a run is parked, or out again, and the others stand
one_turns : (before : World) (event : Event) (reply : Reply) (after : World) (it : Turns before event reply after) (number : ℕ) (run : LiveRun) → run_of number before.runs.list ≡ Some run → Fate before event reply after number run
one_turns before event reply after it number run found =
    let named : it.run.number ≡ it.number = found_key run_key it.number before.runs.list it.run it.found in
    let runs_is : after.runs.list ≡ with_run (turned it.run it.out) before.runs.list = ap (λ (w : World). w.runs.list) it.after_is in
    elim (cases_eq it.number number) [
      | inl its ↦
          let same : it.run ≡ run = same_run before.runs.list it.number number it.run run its it.found found in
          let own : Fate before event reply after it.number it.run =
          stands it.out (it.idle it.number) (changed_same before.runs.list after.runs.list it.number it.run (turned it.run it.out) refl it.found runs_is) in
          subst (λ (n : ℕ). Fate before event reply after n run) its (subst (λ (r : LiveRun). Fate before event reply after it.number r) same own)
      | inr apart ↦ stands run.out (it.idle number) (changed_other before.runs.list after.runs.list number (turned it.run it.out) runs_is (λ e. apart (sym named ∙ e)) ∙ found)
    ]

-- Calls of helpers.

-- the answer is one that the run may get
call_allowed : (setup : Setup) (before : World) (run : LiveRun) (request : Request) (given : Answer) (between : World) → AnswersFrom setup before run → run.machine.held ≡ held_by run.number before.transport.freezes → FreezeDeed setup before run request given between → IsAnswer run.machine request given
call_allowed setup before run request given between from held (leaves_freezes effect) = effect.allowed from
call_allowed setup before run request given between from held (takes_one effect) =
    let room = room_from effect.place before.transport.freezes before.transport.greatest_freeze effect.room in
    let fresh : is_held run.machine.held (before.transport.greatest_freeze + 1) ≡ false =
    ap (λ (ns : List ℕ). is_held ns (before.transport.greatest_freeze + 1)) held ∙ none_above run.number (before.transport.greatest_freeze + 1) before.transport.freezes before.transport.greatest_freeze from.kept.freezes.numbered (omega arith) in
    rw (effect.gives_is, effect.machine_is, effect.given_is) (inr (omega arith, omega (arith, room.numbers), fresh), tt)
call_allowed setup before run request given between from held (gives_one_back effect) =
    let number : ℕ = request.arguments.first in
    let named : effect.freeze.number ≡ number = found_key freeze_key number before.transport.freezes effect.freeze effect.entry in
    rw (effect.gives_is, effect.machine_is, effect.given_is)
    ((omega arith, subst (λ (n : ℕ). frozen_with effect.freeze (without n before.transport.freezes) ≤ 254) named (count_after setup before number effect.freeze from.kept.freezes effect.entry)), tt)
call_allowed setup before run request given between from held (hands_one_over effect) = rw (effect.gives_is, effect.machine_is, effect.given_is) ((omega arith, omega arith), tt)

-- what the run holds with the answer
call_holding : (setup : Setup) (before : World) (event : Event) (reply : Reply) (after : World) → FreezeLimits setup before → (it : Asks setup before event reply after) → FreezeDeed setup before it.it.run it.request it.given it.between → Holding before event reply after it.it.number it.it.run (call (told_of it.request)) (answered it.request it.given it.it.run.machine)
call_holding setup before event reply after kept it = by_effect
  where
    number : ℕ
    number = it.it.number

    run : LiveRun
    run = it.it.run

    named : run.number ≡ number
    named = found_key run_key number before.runs.list run it.it.found

    freezes_is : after.transport.freezes ≡ it.between.transport.freezes
    freezes_is = ap (λ (x : Reply × World). x.1.transport.freezes) it.answer

    number_in_R1 : ℕ
    number_in_R1 = it.request.arguments.first

    takes : (gives : Gives) (given : Answer) → (row_of it.request.helper).gives ≡ gives → it.given ≡ given → taken_by number event reply ≡ taken_as gives number number given.r0
    takes gives given gives_is given_is = call_takes setup before event reply after it number given given_is ∙ takes_by gives it.request gives_is number number given.r0

    given_as : (change : Change) → (row_of it.request.helper).machine ≡ change → given_up (Some (call (told_of it.request))) (request_at run.program run.machine) ≡ asked_by change it.request
    given_as change machine_is = ap asked it.call_is ∙ ap (λ (c : Change). asked_by c it.request) machine_is

    held_as : (change : Change) (given : Answer) → (row_of it.request.helper).machine ≡ change → it.given ≡ given → (answered it.request it.given run.machine).held ≡ (changed_by change it.request.arguments given (after_call run.machine given.r0)).held
    held_as change given machine_is given_is = λ i. (changed_by (machine_is i) it.request.arguments (given_is i) (after_call run.machine (given_is i).r0)).held

    by_effect : FreezeDeed setup before run it.request it.given it.between → Holding before event reply after number run (call (told_of it.request)) (answered it.request it.given run.machine)
    by_effect (leaves_freezes effect) =
        holds_the_same effect.held (freezes_is ∙ effect.freezes_is) (ap asked it.call_is ∙ effect.keeps) (call_takes setup before event reply after it number it.given refl ∙ effect.taken number number)
    by_effect (takes_one effect) =
        let next : ℕ = before.transport.greatest_freeze + 1 in
        let above : eqb next 0 ≡ false = ne_eqb _ _ (λ e. omega (arith, e)) in
        holds_one_more (record { number = next; place = effect.place; holder = Run run.number }) refl (eq-eqb _ _ named)
        (held_as changes.Holds (answer_number next) effect.machine_is effect.given_is ∙ cond-false (eqb next 0) run.machine.held (run.machine.held ++ next ∷ []) above)
        (freezes_is ∙ effect.freezes_is) (ap (λ (x : Reply × World). x.1.transport.greatest_freeze) it.answer ∙ effect.greatest_is) (given_as changes.Holds effect.machine_is)
        (takes NewFreeze (answer_number next) effect.gives_is effect.given_is
        ∙ cond-true (eqb number number && not (eqb next 0)) (next ∷ []) [] (and_from (eqb number number) (not (eqb next 0)) (eq-eqb number number refl) (not_from_false _ above)))
    by_effect (gives_one_back effect) =
        holds_one_fewer number_in_R1 effect.freeze effect.entry (subst (λ (n : ℕ). is_run n effect.freeze.holder ≡ true) named effect.its)
        (held_as changes.GivesUp it.given effect.machine_is refl) (ap (entries_of number) (freezes_is ∙ effect.freezes_is)) (given_as changes.GivesUp effect.machine_is)
        (takes (Number 0 254) it.given effect.gives_is refl)
    by_effect (hands_one_over effect) =
        let due : ℕ = before.transport.clock + it.request.arguments.second in
        let new : Freeze = record effect.freeze { holder = Timer due } in
        let is_number : effect.freeze.number ≡ number_in_R1 = found_key freeze_key number_in_R1 before.transport.freezes effect.freeze effect.entry in
        holds_one_fewer number_in_R1 effect.freeze effect.entry (subst (λ (n : ℕ). is_run n effect.freeze.holder ≡ true) named effect.its)
        (held_as changes.GivesUp it.given effect.machine_is refl)
        (ap (entries_of number) (freezes_is ∙ (effect.freezes_is ∙ handed_is_put number_in_R1 due 0 before.transport.freezes before.transport.greatest_freeze effect.freeze kept.numbered effect.entry))
        ∙ (entries_put number new before.transport.freezes refl ∙ ap (λ (n : ℕ). entries_of number (without n before.transport.freezes)) is_number))
        (given_as changes.GivesUp effect.machine_is)
        (takes (Number 0 0) it.given effect.gives_is refl)

-- and what becomes of its CCB
same_live : (before after : World) (run : LiveRun) → after.transport.live ≡ before.transport.live → StaysInState before after run
same_live before after run live_is = record { stays = λ live found. (live, ap (ccb_of run.ccb) live_is ∙ found, refl) }

disposed_by : (setup : Setup) (before : World) (event : Event) (reply : Reply) (after : World) → (it : Asks setup before event reply after) → (row_of it.request.helper).machine ≡ changes.Disposes → (answered it.request it.given it.it.run.machine).disposed ≡ true
disposed_by setup before event reply after it is =
    ap (λ (c : Change). (changed_by c it.request.arguments it.given (after_call it.it.run.machine it.given.r0)).disposed) is

call_disposing : (setup : Setup) (before : World) (event : Event) (reply : Reply) (after : World) → (it : Asks setup before event reply after) → CcbDeed before it.it.run it.request it.given it.between → Disposing before after it.it.run (call (told_of it.request)) (answered it.request it.given it.it.run.machine)
call_disposing setup before event reply after it (leaves_ccbs effect) = leaves_its_ccb effect.disposed (same_live before after it.it.run (ap (λ (x : Reply × World). x.1.transport.live) it.answer ∙ effect.live_is)) effect.calm
call_disposing setup before event reply after it (requeues_one effect) = disposes_of_it effect.its.fresh (disposed_by setup before event reply after it effect.machine_is) (disposes_by changes.Disposes it.request effect.machine_is)
call_disposing setup before event reply after it (ends_one effect) = disposes_of_it effect.its.fresh (disposed_by setup before event reply after it effect.machine_is) (disposes_by changes.Disposes it.request effect.machine_is)
call_disposing setup before event reply after it (advises_one effect) =
    let old : LiveCcb = effect.its.live in
    let new : LiveCcb = record old { ccb = advised old.ccb it.request.arguments.first } in
    let named : old.ccb.number.0 ≡ it.it.run.ccb = found_key ccb_key it.it.run.ccb before.transport.live old effect.its.found in
    let there : ccb_of old.ccb.number.0 after.transport.live ≡ Some new =
    ap (λ (x : Reply × World). ccb_of old.ccb.number.0 x.1.transport.live) it.answer
    ∙ (ap (ccb_of old.ccb.number.0) effect.live_is ∙ put_same ccb_key new before.transport.live old (ccb_found it.it.run.ccb before.transport.live old effect.its.found)) in
    leaves_its_ccb effect.disposed (record {
      stays = λ live found.
          let both : Some old ≡ Some live = sym effect.its.found ∙ found in
          let same : old ≡ live = cc in
          (new, subst (λ (n : ℕ). ccb_of n after.transport.live ≡ Some new) named there, ap (λ (c : LiveCcb). c.state) same);
    }) effect.calm

pub fate_of : (setup : Setup) (before : World) (event : Event) (reply : Reply) (after : World) (number : ℕ) (run : LiveRun) → IsLawful setup → KeepsLimits setup before → HoldsWhatEntriesSay before → run_of number before.runs.list ≡ Some run → Case setup before event reply after → Fate before event reply after number run
fate_of setup before event reply after number run lawful kept held found (refuses it) = unchanged before event reply after number run found (it.idle number) (ap (λ (w : World). w.runs.list) it.after_is)
fate_of setup before event reply after number run lawful kept held found (submits it) = unchanged before event reply after number run found (ap (instruction_of number) it.event_is) (ap (λ (w : World). w.runs.list) it.after_is)
fate_of setup before event reply after number run lawful kept held found (dispatches it) = unchanged before event reply after number run found (ap (instruction_of number) it.event_is) (ap (λ (w : World). w.runs.list) it.after_is)
fate_of setup before event reply after number run lawful kept held found (finishes_one it) = unchanged before event reply after number run found (ap (instruction_of number) it.event_is) (ap (λ (w : World). w.runs.list) it.after_is)
fate_of setup before event reply after number run lawful kept held found (withdraws_one it) = unchanged before event reply after number run found (ap (instruction_of number) it.event_is) (ap (λ (w : World). w.runs.list) it.after_is)
fate_of setup before event reply after number run lawful kept held found (recovers_one it) =
    stands run.out (ap (instruction_of number) it.fails.event_is) (ap (λ (x : Reply × World). run_of number x.1.runs.list) it.starts_is ∙ found_push run_key number before.runs.list _ run found)
fate_of setup before event reply after number run lawful kept held found (recovers_unfrozen it) =
    stands run.out (ap (instruction_of number) it.fails.event_is) (ap (λ (x : Reply × World). run_of number x.1.runs.list) it.starts_is ∙ found_push run_key number before.runs.list _ run found)
fate_of setup before event reply after number run lawful kept held found (freezes_one it) = unchanged before event reply after number run found (ap (instruction_of number) it.event_is) (ap (λ (w : World). w.runs.list) it.after_is)
fate_of setup before event reply after number run lawful kept held found (releases_one it) = unchanged before event reply after number run found (ap (instruction_of number) it.event_is) (ap (λ (w : World). w.runs.list) it.after_is)
fate_of setup before event reply after number run lawful kept held found (reads_clock it) = unchanged before event reply after number run found (ap (instruction_of number) it.event_is) (ap (λ (w : World). w.runs.list) it.after_is)
fate_of setup before event reply after number run lawful kept held found (turns_one it) = one_turns before event reply after it number run found
fate_of setup before event reply after number run lawful kept held found (goes_on_one it) =
    let same = private_keeps it.it.run.program it.it.run.machine it.machine it.step in
    one_goes before event reply after private it.it it.machine (ap (λ (w : World). w.runs.list) it.after_is) refl (inl it.step)
    (holds_the_same same.held (ap (λ (w : World). w.transport.freezes) it.after_is) refl (λ i. taken_by it.it.number (it.it.event_is i) (it.reply_is i)))
    (leaves_its_ccb same.disposed (same_live before after it.it.run (ap (λ (w : World). w.transport.live) it.after_is)) refl)
    number run found
fate_of setup before event reply after number run lawful kept held found (asks_one it) =
    let named : it.it.run.number ≡ it.it.number = found_key run_key it.it.number before.runs.list it.it.run it.it.found in
    let holds : it.it.run.machine.held ≡ held_by it.it.run.number before.transport.freezes = held.machines it.it.number it.it.run it.it.found ∙ ap (λ (n : ℕ). held_by n before.transport.freezes) (sym named) in
    let known : it.it.run.queue < queue_count setup = all_found run_key (λ (r : LiveRun). r.queue < queue_count setup) it.it.number before.runs.list it.it.run kept.runs.queues it.it.found in
    one_goes before event reply after (call (told_of it.request)) it.it (answered it.request it.given it.it.run.machine) (call_runs setup before event reply after it) refl
    (inr (it.request, it.given, it.call_is, (call_allowed setup before it.it.run it.request it.given it.between (record { lawful = lawful; kept = kept; queue = known }) holds it.freezes, refl)))
    (call_holding setup before event reply after kept.freezes it it.freezes) (call_disposing setup before event reply after it it.ccbs)
    number run found
fate_of setup before event reply after number run lawful kept held found (exits it) =
    let named : it.it.run.number ≡ it.it.number = found_key run_key it.it.number before.runs.list it.it.run it.it.found in
    let runs_is : after.runs.list ≡ leave run_key it.it.run.number before.runs.list = ap (λ (w : World). w.runs.list) it.after_is in
    elim (cases_eq it.it.number number) [
      | inl its ↦
          let same : it.it.run ≡ run = same_run before.runs.list it.it.number number it.it.run run its it.it.found found in
          leaves_world it.r0 (subst (λ (n : ℕ). instruction_of n event ≡ Some exit) its (its_instruction before event exit it.it))
          (subst (λ (r : LiveRun). exit_at r.program r.machine ≡ Some it.r0) same it.exit_is)
          (ap (run_of number) runs_is ∙ subst (λ (n : ℕ). run_of number (leave run_key n before.runs.list) ≡ None) (sym (named ∙ its)) (leave_same run_key number before.runs.list))
          (λ i. taken_by number (it.it.event_is i) (it.reply_is i))
      | inr apart ↦
          stands run.out (not_others before event exit number it.it apart)
          (ap (run_of number) runs_is ∙ (leave_other run_key it.it.run.number number before.runs.list (λ e. apart (sym named ∙ e)) ∙ found))
    ]

-- there is no run of the number before, and one after: it begins
pub record Newly (setup : Setup) (before : World) (event : Event) (reply : Reply) (after : World) (number : ℕ) (run : LiveRun) : Type 0 where
  pub number_is : number ≡ before.runs.greatest + 1
  pub begins : Begins setup before event reply after run
