-- The life of one run, from its start to its exit: how many instructions it executed, and whether it disposed of its CCB.
use Rattle.std.proofs.Common.{◌≡◌, ℕ, suc, ◌+◌, ◌<◌, ◌≤◌, List, [], ◌∷◌, Bool, true, false, cond, Option, Some, None, ◌⊎◌, inl, inr, refl, ap, sym, subst, ◌∙◌, arith}
use Rattle.std.specs.Option.{is_some}
use Rattle.std.proofs.lemmas.List.Sums.{sum_by-cons}
use Rattle.bpf_insn.specs.declared.program.Slot.{Slot}
use Rattle.bpf_semantics.specs.MachineState.{MachineState}
use Rattle.bpf_semantics.specs.Reached.{Steps, Reached, Within}
use Rattle.std.specs.Prelude.{IsSome}
use Rattle.world.specs.World.{Setup, queue_count, queue_setup, LiveRun, World}
use Rattle.world.specs.Lawful.{IsLawful}
use Rattle.world.specs.Lookups.{run_of}
use Rattle.world.specs.Event.{Instruction, Event, instruction_of, Reply}
use Rattle.world.specs.Step.{WorldStep}
use Rattle.world.specs.WorldRun.{Leads}
use Rattle.world.specs.Laws.Headline.{is_step_of, is_disposal, is_exit, is_disposal_of, is_exit_of, steps_of, disposals_of, exits_of}
use Rattle.world.proofs.Lists.Each.{all_found}
use Rattle.world_laws.proofs.Steps.Cases.{case_of}
use Rattle.world.proofs.Steps.Moves.{lists_of, run_key, RunMove, runs_stay, run_enters, run_changes, run_leaves, Effect}
use Rattle.world_laws.proofs.Steps.Effects.{effect_of}
use Rattle.world_laws.proofs.Steps.Fates.{machine_of, turned, Disposing, leaves_its_ccb, disposes_of_it, Fate, stands, goes, leaves_world, fate_of}
use Rattle.world_laws.proofs.Steps.Beginnings.{new_run}
use Rattle.world_laws.proofs.Runs.Reaching.{lawful_queue, reached_goes, lawful_exit}
use Rattle.world_laws.proofs.Freezes.Held.{live_given}
use Rattle.world_laws.proofs.Sound.{IsSound, step_sound}

-- disposed of as often as it made its CCB wait again
abbrev pub Disposed : LiveRun → ℕ → Type 0
Disposed run requeues = ((run.machine.disposed ≡ false) × (requeues ≡ 0)) ⊎ ((run.machine.disposed ≡ true) × (requeues ≡ 1))

-- a run after so many steps, requeues and exits: live, or over
pub data Life (setup : Setup) (start : LiveRun) (number steps requeues exits : ℕ) (world : World) : Type 0 where
  alive : (now : LiveRun) → run_of number world.runs.list ≡ Some now → now.queue ≡ start.queue → now.ccb ≡ start.ccb → Reached now.program steps now.machine → Disposed now requeues → exits ≡ 0 → Life setup start number steps requeues exits world
  over : run_of number world.runs.list ≡ None → number ≤ world.runs.greatest → steps ≤ (queue_setup setup start.queue).budget → requeues ≡ 1 → exits ≡ 1 → Life setup start number steps requeues exits world

abbrev one : Bool → ℕ
one b = cond b 1 0

-- what a step of the world adds
abbrev Later : Setup → LiveRun → ℕ → ℕ → ℕ → ℕ → Event → World → Type 0
Later setup start number k j e event world = Life setup start number (k + one (is_step_of number event)) (j + one (is_disposal_of number event)) (e + one (is_exit_of number event)) world

-- counted otherwise
pub recount : (setup : Setup) (start : LiveRun) (number k j e k' j' e' : ℕ) (world : World) → k ≡ k' → j ≡ j' → e ≡ e' → Life setup start number k j e world → Life setup start number k' j' e' world
recount setup start number k j e k' j' e' world p q r life =
    subst (λ (n : ℕ). Life setup start number k' j' n world) r
    (subst (λ (n : ℕ). Life setup start number k' n e world) q
    (subst (λ (n : ℕ). Life setup start number n j e world) p life))

-- nothing is added by a step of anyone else
not_counted : (setup : Setup) (start : LiveRun) (number k j e : ℕ) (event : Event) (world : World) → instruction_of number event ≡ None → Life setup start number k j e world → Later setup start number k j e event world
not_counted setup start number k j e event world idle life =
    let step : one (is_step_of number event) ≡ 0 = ap (λ (o : Option Instruction). one (is_some o)) idle in
    let again : one (is_disposal_of number event) ≡ 0 = ap (λ (o : Option Instruction). one (is_disposal o)) idle in
    let gone : one (is_exit_of number event) ≡ 0 = ap (λ (o : Option Instruction). one (is_exit o)) idle in
    recount setup start number k j e _ _ _ world (omega (arith, step)) (omega (arith, again)) (omega (arith, gone)) life

-- a run that is not live makes no step
pub gone_stands : (setup : Setup) (before : World) (event : Event) (reply : Reply) (after : World) (number : ℕ) → run_of number before.runs.list ≡ None → Effect setup before event reply after → instruction_of number event ≡ None
gone_stands setup before event reply after number none it = split (instruction_of number event) refl
  where
    split : (o : Option Instruction) → instruction_of number event ≡ o → o ≡ None
    split None e = refl
    split (Some instruction) e = absurd (let bad : IsSome {T = LiveRun} None = subst (λ (o : Option LiveRun). IsSome o) none (it.acts number instruction e) in cc)

pub rises : (setup : Setup) (before : World) (event : Event) (reply : Reply) (after : World) → RunMove setup before event reply after → before.runs.greatest ≤ after.runs.greatest
rises setup before event reply after (runs_stay e g quiet) = omega (arith, g)
rises setup before event reply after (run_enters run begins known room g) = omega (arith, g)
rises setup before event reply after (run_changes old new found queue_is controller_is program_is e g quiet its) = omega (arith, g)
rises setup before event reply after (run_leaves run found e g quiet its) = omega (arith, g)

-- a run that is over stays over
pub stays_over : (setup : Setup) (before : World) (event : Event) (reply : Reply) (after : World) (number : ℕ) → run_of number before.runs.list ≡ None → number ≤ before.runs.greatest → RunMove setup before event reply after → (run_of number after.runs.list ≡ None) × (number ≤ after.runs.greatest)
stays_over setup before event reply after number none given it = (split (run_of number after.runs.list) refl, omega (arith, given, rises setup before event reply after it))
  where
    split : (o : Option LiveRun) → run_of number after.runs.list ≡ o → run_of number after.runs.list ≡ None
    split None found = found
    split (Some run) found = absurd (let new = new_run setup before event reply after number run it none found in omega (arith, given, new.number_is))

-- what a run is within
pub within : (setup : Setup) (world : World) (number : ℕ) (run : LiveRun) → IsLawful setup → IsSound setup world → run_of number world.runs.list ≡ Some run → Within run.program (queue_setup setup run.queue).budget
within setup world number run lawful sound found =
    let known = all_found run_key (λ (r : LiveRun). r.queue < queue_count setup) number world.runs.list run sound.kept.runs.queues found in
    let program = all_found run_key (λ (r : LiveRun). r.program ≡ (queue_setup setup r.queue).program) number world.runs.list run sound.kept.runs.programs found in
    subst (λ (p : List Slot). Within p (queue_setup setup run.queue).budget) (sym program) (lawful_queue setup lawful run.queue known).within

-- one instruction further
further : (program : List Slot) (k : ℕ) (m m' : MachineState) → Reached program k m → Steps program m m' → Reached program (k + 1) m'
further program k m m' reached steps =
    let more : suc k ≡ k + 1 = omega arith in
    subst (λ (n : ℕ). Reached program n m') more (m, reached, steps)

pub unspent : (run : LiveRun) (j : ℕ) → Disposed run j → run.machine.disposed ≡ false → j ≡ 0
unspent run j (inl p) fresh = p.1
unspent run j (inr p) fresh = absurd (let bad : true ≡ false = sym p.0 ∙ fresh in cc)

spent : (run : LiveRun) (j : ℕ) → Disposed run j → run.machine.disposed ≡ true → j ≡ 1
spent run j (inl p) used = absurd (let bad : false ≡ true = sym p.0 ∙ used in cc)
spent run j (inr p) used = p.1

same_disposal : (run : LiveRun) (machine : MachineState) (j : ℕ) → machine.disposed ≡ run.machine.disposed → Disposed run j → Disposed (machine_of run machine) j
same_disposal run machine j same (inl p) = inl (same ∙ p.0, p.1)
same_disposal run machine j same (inr p) = inr (same ∙ p.0, p.1)

alive_step : (setup : Setup) (start : LiveRun) (number k j e : ℕ) (before : World) (event : Event) (reply : Reply) (after : World) → IsLawful setup → IsSound setup before → Effect setup before event reply after → (now : LiveRun) → run_of number before.runs.list ≡ Some now → now.queue ≡ start.queue → now.ccb ≡ start.ccb → Reached now.program k now.machine → Disposed now j → e ≡ 0 → Fate before event reply after number now → Later setup start number k j e event after
alive_step setup start number k j e before event reply after lawful sound effect now found queue ccb reached disposed none_yet (stands out idle is) =
    not_counted setup start number k j e event after idle (alive (turned now out) is queue ccb reached disposed none_yet)
alive_step setup start number k j e before event reply after lawful sound effect now found queue ccb reached disposed none_yet (goes instruction machine event_is no_exit steps is holding disposing) = by_disposing disposing
  where
    counted : one (is_step_of number event) ≡ 1
    counted = ap (λ (o : Option Instruction). one (is_some o)) event_is

    gone : one (is_exit_of number event) ≡ 0
    gone = ap (λ (o : Option Instruction). one (is_exit o)) event_is ∙ ap one no_exit

    again_is : one (is_disposal_of number event) ≡ one (is_disposal (Some instruction))
    again_is = ap (λ (o : Option Instruction). one (is_disposal o)) event_is

    goes_calmly : is_disposal (Some instruction) ≡ false → machine.disposed ≡ now.machine.disposed → Later setup start number k j e event after
    goes_calmly calm same =
        let again : one (is_disposal_of number event) ≡ 0 = again_is ∙ ap one calm in
        recount setup start number (k + 1) j e _ _ _ after (omega (arith, counted)) (omega (arith, again)) (omega (arith, gone))
        (alive (machine_of now machine) is queue ccb (further now.program k now.machine machine reached steps) (same_disposal now machine j same disposed) none_yet)

    by_disposing : Disposing before after now instruction machine → Later setup start number k j e event after
    by_disposing (leaves_its_ccb same its calm) = goes_calmly calm same
    by_disposing (disposes_of_it fresh used disposal) =
        let again : one (is_disposal_of number event) ≡ 1 = again_is ∙ ap one disposal in
        let zero_yet = unspent now j disposed fresh in
        recount setup start number (k + 1) 1 e _ _ _ after (omega (arith, counted)) (omega (arith, again, zero_yet)) (omega (arith, gone))
        (alive (machine_of now machine) is queue ccb (further now.program k now.machine machine reached steps) (inr (used, refl)) none_yet)
alive_step setup start number k j e before event reply after lawful sound effect now found queue ccb reached disposed none_yet (leaves_world r0 event_is exit_is none takes) =
    let counted : one (is_step_of number event) ≡ 1 = ap (λ (o : Option Instruction). one (is_some o)) event_is in
    let again : one (is_disposal_of number event) ≡ 0 = ap (λ (o : Option Instruction). one (is_disposal o)) event_is in
    let gone : one (is_exit_of number event) ≡ 1 = ap (λ (o : Option Instruction). one (is_exit o)) event_is in
    let unstuck = reached_goes setup lawful before sound.kept.runs number now found (k, reached) in
    let used = spent now j disposed (lawful_exit now.program setup.limits now.machine r0 unstuck exit_is).1 in
    let most : k + 1 ≤ (queue_setup setup now.queue).budget = (within setup before number now lawful sound found k now.machine reached).1 (subst (λ (o : Option ℕ). IsSome o) (sym exit_is) refl) in
    let given = live_given setup before number now (lists_of sound.kept) found in
    recount setup start number (k + 1) j 1 _ _ _ after (omega (arith, counted)) (omega (arith, again)) (omega (arith, gone, none_yet))
    (over none (omega (arith, given, rises setup before event reply after effect.runs))
    (subst (λ (q : ℕ). k + 1 ≤ (queue_setup setup q).budget) queue most) used refl)

life_step : (setup : Setup) (start : LiveRun) (number k j e : ℕ) (before : World) (event : Event) (reply : Reply) (after : World) → IsLawful setup → IsSound setup before → WorldStep setup before event reply after → Life setup start number k j e before → Later setup start number k j e event after
life_step setup start number k j e before event reply after lawful sound step (alive now found queue ccb reached disposed none_yet) =
    let it = case_of setup before event reply after step in
    alive_step setup start number k j e before event reply after lawful sound (effect_of setup before event reply after (lists_of sound.kept) it) now found queue ccb reached disposed none_yet
    (fate_of setup before event reply after number now lawful sound.kept sound.held found it)
life_step setup start number k j e before event reply after lawful sound step (over none given most used gone) =
    let it = effect_of setup before event reply after (lists_of sound.kept) (case_of setup before event reply after step) in
    let still = stays_over setup before event reply after number none given it.runs in
    not_counted setup start number k j e event after (gone_stands setup before event reply after number none it) (over still.0 still.1 most used gone)

-- along a run of the world
pub life_leads : (setup : Setup) (start : LiveRun) (number k j e : ℕ) (before : World) (xs : List (Event × Reply)) (after : World) → IsLawful setup → IsSound setup before → Leads setup before xs after → Life setup start number k j e before → Life setup start number (k + steps_of number xs) (j + disposals_of number xs) (e + exits_of number xs) after
life_leads setup start number k j e before [] after lawful sound run life =
    recount setup start number k j e _ _ _ after (omega arith) (omega arith) (omega arith) (subst (λ (w : World). Life setup start number k j e w) run life)
life_leads setup start number k j e before (x ∷ xs) after lawful sound run life =
    let between : World = run.0 in
    let now = life_step setup start number k j e before x.0 x.1 between lawful sound run.1 life in
    let rest = life_leads setup start number (k + one (is_step_of number x.0)) (j + one (is_disposal_of number x.0)) (e + one (is_exit_of number x.0)) between xs after lawful (step_sound setup before x.0 x.1 between lawful run.1 sound) run.2 now in
    let steps = sum_by-cons (λ (y : Event × Reply). one (is_step_of number y.0)) x xs in
    let again = sum_by-cons (λ (y : Event × Reply). one (is_disposal_of number y.0)) x xs in
    let gone = sum_by-cons (λ (y : Event × Reply). one (is_exit_of number y.0)) x xs in
    recount setup start number _ _ _ _ _ _ after (omega (arith, steps)) (omega (arith, again)) (omega (arith, gone)) rest
