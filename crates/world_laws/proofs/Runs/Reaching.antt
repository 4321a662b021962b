-- Each live run's machine was reached, and the run is of its queue's program; so it is not stuck.
use Rattle.std.proofs.Common.{◌≡◌, ℕ, suc, ◌<◌, List, [], true, false, Option, Some, None, inl, inr, refl, sym, subst, ◌∙◌}
use Rattle.helpers.specs.declared.limits.HelperLimits.{HelperLimits}
use Rattle.bpf_insn.specs.declared.program.Slot.{Slot}
use Rattle.bpf_semantics.specs.MachineState.{MachineState}
use Rattle.bpf_semantics.specs.Step.{exit_at}
use Rattle.bpf_semantics.specs.Stuck.{is_stuck}
use Rattle.bpf_semantics.specs.Reached.{Steps, Reached}
use Rattle.bpf_semantics.proofs.Progress.{progress_lem}
use Rattle.world.specs.World.{Setup, queue_count, queue_setup, no_queue, LiveRun, World}
use Rattle.world.specs.Lawful.{IsLawfulQueue, IsLawful}
use Rattle.world.specs.Lookups.{run_of}
use Rattle.world.specs.Event.{Event, Reply}
use Rattle.world.specs.Limits.{RunLimits, KeepsLimits}
use Rattle.world.specs.Laws.FreezeLaws.{HoldsWhatEntriesSay}
use Rattle.world.proofs.Lists.Each.{all_found}
use Rattle.world_laws.proofs.Steps.Cases.{Case}
use Rattle.world.proofs.Steps.Moves.{lists_of, run_key}
use Rattle.world_laws.proofs.Steps.Effects.{effect_of}
use Rattle.world_laws.proofs.Steps.Fates.{machine_of, turned, Fate, stands, goes, leaves_world, fate_of, same_run}
use Rattle.world_laws.proofs.Steps.Beginnings.{new_run, begins_at_entry}

pub same_found : (world : World) (number : ℕ) (a b : LiveRun) → run_of number world.runs.list ≡ Some a → run_of number world.runs.list ≡ Some b → a ≡ b
same_found world number a b first second = same_run world.runs.list number number a b refl first second

from_steps : (after : World) (number : ℕ) (run now : LiveRun) (machine : MachineState) → ((n : ℕ) × Reached run.program n run.machine) → run_of number after.runs.list ≡ Some now → Steps run.program run.machine machine → run_of number after.runs.list ≡ Some (machine_of run machine) → (n : ℕ) × Reached now.program n now.machine
from_steps after number run now machine reached some steps is =
    subst (λ (r : LiveRun). (n : ℕ) × Reached r.program n r.machine) (same_found after number (machine_of run machine) now is some)
    (suc reached.0, (run.machine, reached.1, steps))

-- each live run's machine was reached
abbrev pub AllReached : World → Type 0
AllReached world = (number : ℕ) (run : LiveRun) → run_of number world.runs.list ≡ Some run → (n : ℕ) × Reached run.program n run.machine

-- a run that stands or goes on was reached after the step where it was reached before
from_fate : (before : World) (event : Event) (reply : Reply) (after : World) (number : ℕ) (run : LiveRun) (now : LiveRun) → ((n : ℕ) × Reached run.program n run.machine) → run_of number after.runs.list ≡ Some now → Fate before event reply after number run → (n : ℕ) × Reached now.program n now.machine
from_fate before event reply after number run now reached some (stands out idle is) =
    subst (λ (r : LiveRun). (n : ℕ) × Reached r.program n r.machine) (same_found after number (turned run out) now is some) reached
from_fate before event reply after number run now reached some (goes instruction machine event_is no_exit steps is holding disposing) = from_steps after number run now machine reached some steps is
from_fate before event reply after number run now reached some (leaves_world r0 event_is exit_is none takes) = absurd (let bad : None ≡ Some now = sym none ∙ some in cc)

pub case_reaches : (setup : Setup) (before : World) (event : Event) (reply : Reply) (after : World) → IsLawful setup → KeepsLimits setup before → HoldsWhatEntriesSay before → Case setup before event reply after → AllReached before → AllReached after
case_reaches setup before event reply after lawful kept held it reached number now some = split (run_of number before.runs.list) refl
  where
    split : (o : Option LiveRun) → run_of number before.runs.list ≡ o → (n : ℕ) × Reached now.program n now.machine
    split None none = (0, begins_at_entry setup before event reply after now (new_run setup before event reply after number now (effect_of setup before event reply after (lists_of kept) it).runs none some).begins)
    split (Some run) found = from_fate before event reply after number run now (reached number run found) some (fate_of setup before event reply after number run lawful kept held found it)

-- the queue of a live run is lawful
pub lawful_queue : (setup : Setup) → IsLawful setup → (queue : ℕ) → queue < queue_count setup → IsLawfulQueue setup.limits (queue_setup setup queue)
lawful_queue setup lawful queue known = lawful.queues queue no_queue known

-- what a live run was reached as is not stuck
pub reached_goes : (setup : Setup) → IsLawful setup → (world : World) → RunLimits setup world → (number : ℕ) (run : LiveRun) → run_of number world.runs.list ≡ Some run → ((n : ℕ) × Reached run.program n run.machine) → is_stuck run.program setup.limits run.machine ≡ false
reached_goes setup lawful world kept number run found reached =
    let known = all_found run_key (λ (r : LiveRun). r.queue < queue_count setup) number world.runs.list run kept.queues found in
    let program = all_found run_key (λ (r : LiveRun). r.program ≡ (queue_setup setup r.queue).program) number world.runs.list run kept.programs found in
    let safe = (lawful_queue setup lawful run.queue known).safe in
    subst (λ (p : List Slot). is_stuck p setup.limits run.machine ≡ false) (sym program)
    (safe reached.0 run.machine (subst (λ (p : List Slot). Reached p reached.0 run.machine) program reached.1))

-- at the exit of a run that is not stuck nothing is held, and its CCB is disposed of
pub lawful_exit : (program : List Slot) (limits : HelperLimits) (m : MachineState) (r0 : ℕ) → is_stuck program limits m ≡ false → exit_at program m ≡ Some r0 → (m.held ≡ []) × (m.disposed ≡ true)
lawful_exit program limits m r0 unstuck exit_is =
    elim (progress_lem program limits m unstuck) [
      | inl has_step ↦ absurd (let bad : None ≡ Some r0 = sym has_step.no_exit ∙ exit_is in cc)
      | inr stands_at ↦
          elim stands_at [
            | inl at_call ↦ absurd (let bad : None ≡ Some r0 = sym at_call.no_exit ∙ exit_is in cc)
            | inr at_exit ↦ (at_exit.released, at_exit.disposed)
          ]
    ]
