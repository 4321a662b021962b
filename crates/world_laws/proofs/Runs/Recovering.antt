-- The CCB of a run that has not disposed of it is in recovery, by that run alone.
use Rattle.std.proofs.Common.{◌≡◌, ℕ, Bool, true, false, Option, Some, None, ◌⊎◌, inl, inr, refl, ap, sym, subst, ◌∙◌}
use Rattle.std.specs.Option.{is_some}
use Rattle.bpf_semantics.specs.MachineState.{MachineState}
use Rattle.ccb.specs.Ccb.{completed}
use Rattle.world.specs.declared.ccb_state.CcbState.{CcbState}
use Rattle.world.specs.declared.ccb_state.CcbState.TheVariants.{InRecovery}
use Rattle.world.specs.World.{Setup, LiveCcb, LiveRun, World}
use Rattle.world.specs.Lookups.{is_active, ccb_of, run_of}
use Rattle.world.specs.Event.{Instruction, Event, Reply}
use Rattle.world.specs.Lawful.{IsLawful}
use Rattle.world.specs.Limits.{KeepsLimits}
use Rattle.world.specs.Laws.FreezeLaws.{HoldsWhatEntriesSay}
use Rattle.world.specs.Laws.Headline.{is_step_of}
use Rattle.world.proofs.Lists.Found.{found_key, found_push, put_same, put_other, leave_other}
use Rattle.world_laws.proofs.Steps.Cases.{Case}
use Rattle.world.proofs.Steps.Moves.{lists_of, ccb_key, ccb_found, MayTouch, CcbMove, ccbs_stay, ccb_enters, ccb_changes, ccb_leaves, Begins, Effect}
use Rattle.world_laws.proofs.Steps.Effects.{effect_of}
use Rattle.world_laws.proofs.Steps.Fates.{machine_of, turned, StaysInState, Disposing, leaves_its_ccb, disposes_of_it, Fate, stands, goes, leaves_world, fate_of, Newly}
use Rattle.world_laws.proofs.Steps.Beginnings.{no_some, new_run}
use Rattle.world_laws.proofs.Runs.Reaching.{same_found}

-- the CCB of this number is in recovery
pub record IsInRecovery (ccb : ℕ) (world : World) : Type 0 where
  pub live : LiveCcb
  pub found : ccb_of ccb world.transport.live ≡ Some live
  pub state : live.state ≡ InRecovery

pub record Recovering (world : World) : Type 0 where
  pub ccbs : (number : ℕ) (run : LiveRun) → run_of number world.runs.list ≡ Some run → run.machine.disposed ≡ false → IsInRecovery run.ccb world
  pub alone : (n m : ℕ) (a b : LiveRun) → run_of n world.runs.list ≡ Some a → run_of m world.runs.list ≡ Some b → a.ccb ≡ b.ccb → a.machine.disposed ≡ false → b.machine.disposed ≡ false → n ≡ m

-- one CCB is not in two states
one_state : (number : ℕ) (world : World) (it : LiveCcb) (test : CcbState → Bool) → IsInRecovery number world → test InRecovery ≡ false → ccb_of number world.transport.live ≡ Some it → test it.state ≡ true → ⊥
one_state number world it test recovery is_not found is =
    let both : Some recovery.live ≡ Some it = sym recovery.found ∙ found in
    let same : recovery.live ≡ it = cc in
    let bad : false ≡ true = sym is_not ∙ (ap test (sym recovery.state) ∙ (ap (λ (c : LiveCcb). test c.state) same ∙ is)) in
    cc

-- a run's CCB stays in its state
stays_in_recovery : (run : LiveRun) (before after : World) → StaysInState before after run → IsInRecovery run.ccb before → IsInRecovery run.ccb after
stays_in_recovery run before after its recovery =
    let now = its.stays recovery.live recovery.found in
    record { live = now.0; found = now.1; state = now.2 ∙ recovery.state }

-- an active CCB is not the one that is in recovery
not_active_one : (ccb number : ℕ) (before : World) (it : LiveCcb) → IsInRecovery ccb before → ccb_of number before.transport.live ≡ Some it → is_active it.state ≡ true → it.ccb.number.0 ≡ ccb → ⊥
not_active_one ccb number before it recovery found is same =
    one_state ccb before it is_active recovery refl (subst (λ (n : ℕ). ccb_of n before.transport.live ≡ Some it) same (ccb_found number before.transport.live it found)) is

-- what a step of anyone else may touch is not the CCB of a run
untouched : (before : World) (event : Event) (number : ℕ) (run : LiveRun) (old : LiveCcb) → Recovering before → run_of number before.runs.list ≡ Some run → run.machine.disposed ≡ false → is_step_of number event ≡ false → ccb_of run.ccb before.transport.live ≡ Some old → MayTouch before event old → ⊥
untouched before event number run old recovering found fresh other there may =
    let recovery = recovering.ccbs number run found fresh in
    let both : Some recovery.live ≡ Some old = sym recovery.found ∙ there in
    let same : recovery.live ≡ old = cc in
    elim may [
      | inl idle ↦ idle (sym (ap (λ (c : LiveCcb). c.state) same) ∙ recovery.state)
      | inr by ↦
          let one : by.number ≡ number = recovering.alone by.number number by.run run by.found found (sym by.ccb_is ∙ found_key ccb_key run.ccb before.transport.live old there) by.fresh fresh in
          let bad : true ≡ false = sym (subst (λ (k : ℕ). is_step_of k event ≡ true) one by.its) ∙ other in cc
    ]

-- so that CCB stays as it is
pub others_ccb : (setup : Setup) (before : World) (event : Event) (reply : Reply) (after : World) (number : ℕ) (run : LiveRun) → Recovering before → run_of number before.runs.list ≡ Some run → run.machine.disposed ≡ false → is_step_of number event ≡ false → CcbMove setup before event reply after → ccb_of run.ccb after.transport.live ≡ ccb_of run.ccb before.transport.live
others_ccb setup before event reply after number run recovering found fresh other (ccbs_stay e g unended) = ap (ccb_of run.ccb) e
others_ccb setup before event reply after number run recovering found fresh other (ccb_enters queue priority retries class unclassed known full e g unended) =
    let recovery = recovering.ccbs number run found fresh in
    ap (ccb_of run.ccb) e ∙ (found_push ccb_key run.ccb before.transport.live _ recovery.live recovery.found ∙ sym recovery.found)
others_ccb setup before event reply after number run recovering found fresh other (ccb_changes old new plain was queue_is active may e g unended) =
    ap (ccb_of run.ccb) e
    ∙ put_other ccb_key new run.ccb before.transport.live
    (λ same. untouched before event number run old recovering found fresh other (subst (λ (k : ℕ). ccb_of k before.transport.live ≡ Some old) same was) may)
others_ccb setup before event reply after number run recovering found fresh other (ccb_leaves left code old was may e g one) =
    ap (ccb_of run.ccb) e
    ∙ leave_other ccb_key left run.ccb before.transport.live
    (λ same. untouched before event number run old recovering found fresh other (subst (λ (k : ℕ). ccb_of k before.transport.live ≡ Some old) same was) may)

-- and in recovery
others_recover : (setup : Setup) (before : World) (event : Event) (reply : Reply) (after : World) (number : ℕ) (run : LiveRun) → Recovering before → run_of number before.runs.list ≡ Some run → run.machine.disposed ≡ false → is_step_of number event ≡ false → CcbMove setup before event reply after → IsInRecovery run.ccb after
others_recover setup before event reply after number run recovering found fresh other move =
    let recovery = recovering.ccbs number run found fresh in
    record { live = recovery.live; found = others_ccb setup before event reply after number run recovering found fresh other move ∙ recovery.found; state = recovery.state }

-- a run after a step: it was there before with the same CCB, and had not disposed of it if it has not now; or it begins
pub record Continues (before : World) (number : ℕ) (now : LiveRun) : Type 0 where
  pub run : LiveRun
  pub found : run_of number before.runs.list ≡ Some run
  pub ccb_is : now.ccb ≡ run.ccb
  pub fresh : now.machine.disposed ≡ false → run.machine.disposed ≡ false

was_fresh : (before after : World) (run : LiveRun) (instruction : Instruction) (machine : MachineState) → Disposing before after run instruction machine → machine.disposed ≡ false → run.machine.disposed ≡ false
was_fresh before after run instruction machine (leaves_its_ccb same its calm) e = sym same ∙ e
was_fresh before after run instruction machine (disposes_of_it fresh spent disposal) e = fresh

continues : (before : World) (event : Event) (reply : Reply) (after : World) (number : ℕ) (run now : LiveRun) → run_of number before.runs.list ≡ Some run → run_of number after.runs.list ≡ Some now → Fate before event reply after number run → Continues before number now
continues before event reply after number run now found some (stands out idle is) =
    let same = same_found after number (turned run out) now is some in
    record { run = run; found = found; ccb_is = sym (ap (λ (r : LiveRun). r.ccb) same); fresh = λ e. ap (λ (r : LiveRun). r.machine.disposed) same ∙ e }
continues before event reply after number run now found some (goes instruction machine event_is no_exit steps is holding disposing) =
    let same = same_found after number (machine_of run machine) now is some in
    record { run = run; found = found; ccb_is = sym (ap (λ (r : LiveRun). r.ccb) same); fresh = λ e. was_fresh before after run instruction machine disposing (ap (λ (r : LiveRun). r.machine.disposed) same ∙ e) }
continues before event reply after number run now found some (leaves_world r0 event_is exit_is none takes) = absurd (no_some (run_of number after.runs.list) now none some)

origin : (setup : Setup) (before : World) (event : Event) (reply : Reply) (after : World) (number : ℕ) (now : LiveRun) → IsLawful setup → KeepsLimits setup before → HoldsWhatEntriesSay before → Case setup before event reply after → run_of number after.runs.list ≡ Some now → Continues before number now ⊎ Newly setup before event reply after number now
origin setup before event reply after number now lawful kept held it some = split (run_of number before.runs.list) refl
  where
    split : (o : Option LiveRun) → run_of number before.runs.list ≡ o → Continues before number now ⊎ Newly setup before event reply after number now
    split None none = inr (new_run setup before event reply after number now (effect_of setup before event reply after (lists_of kept) it).runs none some)
    split (Some run) found = inl (continues before event reply after number run now found some (fate_of setup before event reply after number run lawful kept held found it))

-- the CCB of a run that begins is in recovery
pub begun_recovers : (setup : Setup) (before : World) (event : Event) (reply : Reply) (after : World) (run : LiveRun) → Begins setup before event reply after run → IsInRecovery run.ccb after
begun_recovers setup before event reply after run it =
    let named : it.live.ccb.number.0 ≡ run.ccb = sym (ap (λ (r : LiveRun). r.ccb) it.run_is) in
    let new : LiveCcb = record { ccb = completed it.live.ccb it.outcome it.taken; state = InRecovery } in
    let there : ccb_of it.live.ccb.number.0 after.transport.live ≡ Some new = ap (ccb_of it.live.ccb.number.0) it.live_is ∙ put_same ccb_key new before.transport.live it.live (ccb_found it.outcome.ccb.0 before.transport.live it.live it.found) in
    record { live = new; found = subst (λ (n : ℕ). ccb_of n after.transport.live ≡ Some new) named there; state = refl }

ccbs_recover : (setup : Setup) (before : World) (event : Event) (reply : Reply) (after : World) → IsLawful setup → KeepsLimits setup before → HoldsWhatEntriesSay before → Recovering before → Case setup before event reply after → (number : ℕ) (now : LiveRun) → run_of number after.runs.list ≡ Some now → now.machine.disposed ≡ false → IsInRecovery now.ccb after
ccbs_recover setup before event reply after lawful kept held recovering it number now some fresh_now = split (run_of number before.runs.list) refl
  where
    effect : Effect setup before event reply after
    effect = effect_of setup before event reply after (lists_of kept) it

    by_disposing : (run : LiveRun) (instruction : Instruction) (machine : MachineState) → run_of number before.runs.list ≡ Some run → machine.disposed ≡ false → Disposing before after run instruction machine → IsInRecovery run.ccb after
    by_disposing run instruction machine found fresh (leaves_its_ccb same its calm) = stays_in_recovery run before after its (recovering.ccbs number run found (sym same ∙ fresh))
    by_disposing run instruction machine found fresh (disposes_of_it was spent disposal) = absurd (let bad : true ≡ false = sym spent ∙ fresh in cc)

    by_fate : (run : LiveRun) → run_of number before.runs.list ≡ Some run → Fate before event reply after number run → IsInRecovery now.ccb after
    by_fate run found (stands out idle is) =
        let same = same_found after number (turned run out) now is some in
        subst (λ (r : LiveRun). IsInRecovery r.ccb after) same
        (others_recover setup before event reply after number run recovering found (ap (λ (r : LiveRun). r.machine.disposed) same ∙ fresh_now) (ap is_some idle) effect.ccbs)
    by_fate run found (goes instruction machine event_is no_exit steps is holding disposing) =
        let same = same_found after number (machine_of run machine) now is some in
        subst (λ (r : LiveRun). IsInRecovery r.ccb after) same
        (by_disposing run instruction machine found (ap (λ (r : LiveRun). r.machine.disposed) same ∙ fresh_now) disposing)
    by_fate run found (leaves_world r0 event_is exit_is none takes) = absurd (no_some (run_of number after.runs.list) now none some)

    split : (o : Option LiveRun) → run_of number before.runs.list ≡ o → IsInRecovery now.ccb after
    split None none = begun_recovers setup before event reply after now (new_run setup before event reply after number now effect.runs none some).begins
    split (Some run) found = by_fate run found (fate_of setup before event reply after number run lawful kept held found it)

runs_alone : (setup : Setup) (before : World) (event : Event) (reply : Reply) (after : World) → IsLawful setup → KeepsLimits setup before → HoldsWhatEntriesSay before → Recovering before → Case setup before event reply after → (n m : ℕ) (a b : LiveRun) → run_of n after.runs.list ≡ Some a → run_of m after.runs.list ≡ Some b → a.ccb ≡ b.ccb → a.machine.disposed ≡ false → b.machine.disposed ≡ false → n ≡ m
runs_alone setup before event reply after lawful kept held recovering it n m a b first second same fresh fresh_too =
    elim (origin setup before event reply after n a lawful kept held it first) [
      | inl old ↦
          elim (origin setup before event reply after m b lawful kept held it second) [
            | inl older ↦ recovering.alone n m old.run older.run old.found older.found (sym old.ccb_is ∙ (same ∙ older.ccb_is)) (old.fresh fresh) (older.fresh fresh_too)
            | inr new ↦ absurd (not_new old.run n b new.begins old.found (old.fresh fresh) (sym old.ccb_is ∙ same))
          ]
      | inr new ↦
          elim (origin setup before event reply after m b lawful kept held it second) [
            | inl old ↦ absurd (not_new old.run m a new.begins old.found (old.fresh fresh_too) (sym old.ccb_is ∙ sym same))
            | inr newer ↦ new.number_is ∙ sym newer.number_is
          ]
    ]
  where
    not_new : (run : LiveRun) (number : ℕ) (fresh_run : LiveRun) → Begins setup before event reply after fresh_run → run_of number before.runs.list ≡ Some run → run.machine.disposed ≡ false → run.ccb ≡ fresh_run.ccb → ⊥
    not_new run number fresh_run begins found unspent ccb_is =
        not_active_one run.ccb begins.outcome.ccb.0 before begins.live (recovering.ccbs number run found unspent) begins.found begins.is_active
        (sym (ap (λ (r : LiveRun). r.ccb) begins.run_is) ∙ sym ccb_is)

pub case_recovers : (setup : Setup) (before : World) (event : Event) (reply : Reply) (after : World) → IsLawful setup → KeepsLimits setup before → HoldsWhatEntriesSay before → Recovering before → Case setup before event reply after → Recovering after
case_recovers setup before event reply after lawful kept held recovering it =
    record { ccbs = ccbs_recover setup before event reply after lawful kept held recovering it; alone = runs_alone setup before event reply after lawful kept held recovering it }
