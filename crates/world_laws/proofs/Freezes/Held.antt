-- What the machine of each run holds is what the entries say, through every step.
use Rattle.std.proofs.Common.{◌≡◌, ℕ, ◌+◌, ◌≤◌, List, [], ◌∷◌, ◌++◌, map, true, false, not, cond, eqb, Option, Some, None, IsSome, ◌⊎◌, inl, inr, refl, ap, sym, subst, ◌∙◌, arith}
use Rattle.std.specs.Option.{is_some}
use Rattle.std.proofs.lemmas.Bool.{cases_Bool, cond-true, cond-false, eq-eqb, ne_eqb}
use Rattle.freeze_ledger.specs.declared.freeze.Freeze.{Freeze}
use Rattle.freeze_ledger.specs.Freezes.{entry_of}
use Rattle.bpf_semantics.specs.Calls.{is_held}
use Rattle.world.specs.World.{Setup, LiveRun, World}
use Rattle.world.specs.Lawful.{IsLawful}
use Rattle.world.specs.Lookups.{run_of}
use Rattle.bpf_semantics.specs.MachineState.{MachineState}
use Rattle.bpf_semantics.specs.Step.{held_without}
use Rattle.world.specs.Event.{Instruction, Event, Reply}
use Rattle.world.specs.RunSteps.{is_run}
use Rattle.world.specs.Limits.{KeepsLimits}
use Rattle.world.specs.Laws.FreezeLaws.{entries_of, held_by, HoldsWhatEntriesSay}
use Rattle.world.specs.Laws.Headline.{is_step_of}
use Rattle.world.proofs.Lists.Found.{put, found_in_push, put_same, put_other}
use Rattle.world.proofs.Lists.Rising.{found_bounds, found_unfiltered}
use Rattle.world.proofs.Lists.Entries.{freeze_key}
use Rattle.world_laws.proofs.Steps.Cases.{Case}
use Rattle.world.proofs.Steps.Moves.{KeepsLists, lists_of, run_key, FreezeMove, freezes_stay, freeze_enters, freezes_leave, freeze_changes, Begins, Effect}
use Rattle.world_laws.proofs.Steps.Effects.{timer_is_none, effect_of}
use Rattle.world_laws.proofs.Steps.Fates.{machine_of, turned, Holding, holds_the_same, holds_one_more, holds_one_fewer, Fate, stands, goes, leaves_world, fate_of}
use Rattle.world_laws.proofs.Steps.Beginnings.{no_some, new_run}
use Rattle.world_laws.proofs.Runs.Reaching.{AllReached, same_found, reached_goes, lawful_exit}
use Rattle.world.proofs.Lists.HeldBy.{held_push_own, entries_push_other, held_without_own, entries_kept, entries_without_other, entries_put, held_none, is_among}

-- the number of a live run was given
pub live_given : (setup : Setup) (world : World) (number : ℕ) (run : LiveRun) → KeepsLists setup world → run_of number world.runs.list ≡ Some run → number ≤ world.runs.greatest
live_given setup world number run kept found = (found_bounds run_key 0 world.runs.list world.runs.greatest number run kept.runs.rising found).1

-- a step of anyone else leaves the entries of a live run
pub others_entries : (setup : Setup) (before : World) (event : Event) (after : World) (number : ℕ) (run : LiveRun) → KeepsLists setup before → run_of number before.runs.list ≡ Some run → is_step_of number event ≡ false → FreezeMove setup before event after → entries_of number after.transport.freezes ≡ entries_of number before.transport.freezes
others_entries setup before event after number run kept found other (freezes_stay e g) = ap (entries_of number) e
others_entries setup before event after number run kept found other (freeze_enters queue holder known room e g comes) =
    let given = live_given setup before number run kept found in
    let not_its : is_run number holder ≡ false = elim (cases_Bool (is_run number holder)) [
      | inl its ↦
          absurd (elim (comes.whose number its) [
            | inl new ↦ omega (arith, new, given)
            | inr own ↦ let bad : true ≡ false = sym own ∙ other in cc
          ])
      | inr apart ↦ apart
    ] in
    ap (entries_of number) e ∙ entries_push_other number before.transport.freezes _ not_its
others_entries setup before event after number run kept found other (freezes_leave gone e g from) =
    ap (entries_of number) e
    ∙ entries_kept number 0 before.transport.freezes before.transport.greatest_freeze gone kept.freezes.numbered (λ n f entry its.
    elim (cases_Bool (gone f)) [
      | inl leaves ↦ absurd (let bad : true ≡ false = sym (from n f entry leaves number its) ∙ other in cc)
      | inr stays ↦ stays
    ])
others_entries setup before event after number run kept found other (freeze_changes old new was queue_is e g hands) =
    let not_its : is_run number old.holder ≡ false = elim (cases_Bool (is_run number old.holder)) [
      | inl its ↦ absurd (let bad : true ≡ false = sym (hands.whose number its) ∙ other in cc)
      | inr apart ↦ apart
    ] in
    ap (entries_of number) e
    ∙ (entries_put number new before.transport.freezes (timer_is_none number new.holder hands.timed)
    ∙ entries_without_other number new.number 0 before.transport.freezes before.transport.greatest_freeze old kept.freezes.numbered was not_its)

-- the entries that name a run that was not there before
pub nothing_held : (setup : Setup) (before : World) (number : ℕ) → KeepsLists setup before → HoldsWhatEntriesSay before → run_of number before.runs.list ≡ None → held_by number before.transport.freezes ≡ []
nothing_held setup before number kept held none =
    held_none number 0 before.transport.freezes before.transport.greatest_freeze kept.freezes.numbered (λ n f entry.
    elim (cases_Bool (is_run number f.holder)) [
      | inl its ↦
          let live : IsSome (run_of number before.runs.list) = held.entries n number f entry its in
          absurd (let bad : IsSome {T = LiveRun} None = subst (λ (o : Option LiveRun). IsSome o) none live in cc)
      | inr other ↦ other
    ])

-- a run that begins holds its freeze, or nothing
held_at_start : (setup : Setup) (before : World) (event : Event) (reply : Reply) (after : World) (number : ℕ) (run : LiveRun) → held_by number before.transport.freezes ≡ [] → number ≡ before.runs.greatest + 1 → Begins setup before event reply after run → run.machine.held ≡ held_by number after.transport.freezes
held_at_start setup before event reply after number run none number_is it =
    let held_is : run.machine.held ≡ cond (eqb it.freeze 0) [] (it.freeze ∷ []) = ap (λ (r : LiveRun). r.machine.held) it.run_is in
    elim it.freezes_is [
      | inl nothing ↦
          held_is ∙ (cond-true (eqb it.freeze 0) [] (it.freeze ∷ []) (eq-eqb _ _ nothing.0)
          ∙ sym (ap (held_by number) nothing.1 ∙ none))
      | inr some_one ↦
          held_is ∙ (cond-false (eqb it.freeze 0) [] (it.freeze ∷ []) (ne_eqb _ _ (λ e. omega (arith, e, some_one.0)))
          ∙ sym (ap (held_by number) some_one.2
          ∙ (held_push_own number before.transport.freezes _ (eq-eqb _ _ (sym number_is))
          ∙ ap (λ (ns : List ℕ). ns ++ it.freeze ∷ []) none)))
    ]

machines_hold : (setup : Setup) (before : World) (event : Event) (reply : Reply) (after : World) → IsLawful setup → KeepsLimits setup before → HoldsWhatEntriesSay before → Case setup before event reply after → (number : ℕ) (now : LiveRun) → run_of number after.runs.list ≡ Some now → now.machine.held ≡ held_by number after.transport.freezes
machines_hold setup before event reply after lawful kept held it number now some = split (run_of number before.runs.list) refl
  where
    effect : Effect setup before event reply after
    effect = effect_of setup before event reply after (lists_of kept) it

    by_holding : (run : LiveRun) (instruction : Instruction) (machine : MachineState) → run_of number before.runs.list ≡ Some run → Holding before event reply after number run instruction machine → machine.held ≡ held_by number after.transport.freezes
    by_holding run instruction machine found (holds_the_same same freezes gives takes) = same ∙ (held.machines number run found ∙ sym (ap (held_by number) freezes))
    by_holding run instruction machine found (holds_one_more freeze next own more freezes greatest gives takes) =
        more
        ∙ (ap (λ (ns : List ℕ). ns ++ freeze.number ∷ []) (held.machines number run found)
        ∙ sym (ap (held_by number) freezes ∙ held_push_own number before.transport.freezes freeze own))
    by_holding run instruction machine found (holds_one_fewer wanted freeze entry own fewer entries gives takes) =
        fewer
        ∙ (ap (λ (ns : List ℕ). held_without ns wanted) (held.machines number run found)
        ∙ sym (ap (map freeze_key) entries ∙ held_without_own number wanted before.transport.freezes))

    by_fate : (run : LiveRun) → run_of number before.runs.list ≡ Some run → Fate before event reply after number run → now.machine.held ≡ held_by number after.transport.freezes
    by_fate run found (stands out idle is) =
        let same = same_found after number (turned run out) now is some in
        sym (ap (λ (r : LiveRun). r.machine.held) same) ∙ (held.machines number run found ∙ sym (ap (map freeze_key) (others_entries setup before event after number run (lists_of kept) found (ap is_some idle) effect.freezes)))
    by_fate run found (goes instruction machine event_is no_exit steps is holding disposing) =
        let same = same_found after number (machine_of run machine) now is some in
        sym (ap (λ (r : LiveRun). r.machine.held) same) ∙ by_holding run instruction machine found holding
    by_fate run found (leaves_world r0 event_is exit_is none takes) = absurd (no_some (run_of number after.runs.list) now none some)

    split : (o : Option LiveRun) → run_of number before.runs.list ≡ o → now.machine.held ≡ held_by number after.transport.freezes
    split None none =
        let it_is = new_run setup before event reply after number now effect.runs none some in
        held_at_start setup before event reply after number now (nothing_held setup before number (lists_of kept) held none) it_is.number_is it_is.begins
    split (Some run) found = by_fate run found (fate_of setup before event reply after number run lawful kept held found it)

-- where an entry that names a run comes from: it was there before, or it came for a run that is there
entry_source : (setup : Setup) (before : World) (event : Event) (after : World) (n r : ℕ) (f : Freeze) → KeepsLists setup before → entry_of n after.transport.freezes ≡ Some f → is_run r f.holder ≡ true → FreezeMove setup before event after → (entry_of n before.transport.freezes ≡ Some f) ⊎ IsSome (run_of r after.runs.list)
entry_source setup before event after n r f kept some its (freezes_stay e g) = inl (sym (ap (entry_of n) e) ∙ some)
entry_source setup before event after n r f kept some its (freeze_enters queue holder known room e g comes) =
    elim (found_in_push freeze_key n before.transport.freezes _ f (sym (ap (entry_of n) e) ∙ some)) [
      | inl old ↦ inl old
      | inr new ↦ inr (comes.live r (subst (λ (x : Freeze). is_run r x.holder ≡ true) new.0 its))
    ]
entry_source setup before event after n r f kept some its (freezes_leave gone e g from) =
    inl (found_unfiltered freeze_key (λ (x : Freeze). not (gone x)) 0 before.transport.freezes before.transport.greatest_freeze n f kept.freezes.numbered (sym (ap (entry_of n) e) ∙ some))
entry_source setup before event after n r f kept some its (freeze_changes old new was queue_is e g hands) =
    inl (sym (put_other freeze_key new n before.transport.freezes (λ same.
    let now : entry_of n after.transport.freezes ≡ Some new = ap (entry_of n) e ∙ subst (λ (k : ℕ). entry_of k (put freeze_key new before.transport.freezes) ≡ Some new) same (put_same freeze_key new before.transport.freezes old was) in
    let both : Some new ≡ Some f = sym now ∙ some in
    let is : new ≡ f = cc in
    let bad : false ≡ true = sym (timer_is_none r new.holder hands.timed) ∙ subst (λ (x : Freeze). is_run r x.holder ≡ true) (sym is) its in cc))
    ∙ (sym (ap (entry_of n) e) ∙ some))

some_there : (o : Option LiveRun) (run : LiveRun) → o ≡ Some run → IsSome o
some_there o run e = subst (λ (x : Option LiveRun). IsSome x) (sym e) refl

entries_live : (setup : Setup) (before : World) (event : Event) (reply : Reply) (after : World) → IsLawful setup → KeepsLimits setup before → AllReached before → HoldsWhatEntriesSay before → Case setup before event reply after → (n r : ℕ) (f : Freeze) → entry_of n after.transport.freezes ≡ Some f → is_run r f.holder ≡ true → IsSome (run_of r after.runs.list)
entries_live setup before event reply after lawful kept reached held it n r f some its =
    elim (entry_source setup before event after n r f (lists_of kept) some its (effect_of setup before event reply after (lists_of kept) it).freezes) [
      | inl old ↦ split old (run_of r before.runs.list) refl
      | inr live ↦ live
    ]
  where
    by_fate : entry_of n before.transport.freezes ≡ Some f → (run : LiveRun) → run_of r before.runs.list ≡ Some run → Fate before event reply after r run → IsSome (run_of r after.runs.list)
    by_fate old run found (stands out idle is) = some_there (run_of r after.runs.list) _ is
    by_fate old run found (goes instruction machine event_is no_exit steps is holding disposing) = some_there (run_of r after.runs.list) _ is
    by_fate old run found (leaves_world r0 event_is exit_is none takes) =
        let unstuck = reached_goes setup lawful before kept.runs r run found (reached r run found) in
        let empty : held_by r before.transport.freezes ≡ [] = sym (held.machines r run found) ∙ (lawful_exit run.program setup.limits run.machine r0 unstuck exit_is).0 in
        absurd (let bad : false ≡ true = sym (ap (λ (ns : List ℕ). is_held ns n) empty) ∙ is_among r n before.transport.freezes f old its in cc)

    split : entry_of n before.transport.freezes ≡ Some f → (o : Option LiveRun) → run_of r before.runs.list ≡ o → IsSome (run_of r after.runs.list)
    split old None none =
        let live : IsSome (run_of r before.runs.list) = held.entries n r f old its in
        absurd (let bad : IsSome {T = LiveRun} None = subst (λ (o : Option LiveRun). IsSome o) none live in cc)
    split old (Some run) found = by_fate old run found (fate_of setup before event reply after r run lawful kept held found it)

pub case_holds : (setup : Setup) (before : World) (event : Event) (reply : Reply) (after : World) → IsLawful setup → KeepsLimits setup before → AllReached before → HoldsWhatEntriesSay before → Case setup before event reply after → HoldsWhatEntriesSay after
case_holds setup before event reply after lawful kept reached held it =
    record {
      machines = machines_hold setup before event reply after lawful kept held it;
      entries = entries_live setup before event reply after lawful kept reached held it;
    }
