-- A run holds exactly the freezes that it got and did not give up yet.
use Rattle.std.proofs.Common.{◌≡◌, ℕ, ◌+◌, ◌<◌, ◌≤◌, List, [], ◌∷◌, ◌++◌, map, Bool, true, false, not, cond, eqb, Option, Some, None, inl, inr, refl, ap, sym, subst, ◌∙◌, arith}
use Rattle.std.specs.List.{filter}
use Rattle.std.proofs.lemmas.Bool.{cases_Bool, cases_eq, cond-true, cond-false, eq-eqb, ne_eqb, not_from_true, not_from_false}
use Rattle.std.proofs.lemmas.List.Sums.{sum_by-cons, sum_by-append}
use Rattle.freeze_ledger.specs.declared.freeze.Freeze.{Freeze}
use Rattle.freeze_ledger.specs.Freezes.{entry_of}
use Rattle.world.specs.World.{Setup, LiveRun, World}
use Rattle.world.specs.Lawful.{IsLawful}
use Rattle.world.specs.Lookups.{run_of}
use Rattle.bpf_semantics.specs.MachineState.{MachineState}
use Rattle.bpf_semantics.specs.Step.{request_at, held_without}
use Rattle.world.specs.Event.{Instruction, exit, Event, instruction_of, Reply}
use Rattle.world.specs.RunSteps.{is_run}
use Rattle.world.specs.WorldRun.{Leads}
use Rattle.world.specs.Laws.TookGave.{taken_by, request_of_run, given_up, given_by, took, gave}
use Rattle.world.specs.Laws.FreezeLaws.{held_by}
use Rattle.world.specs.Laws.Headline.{times_in}
use Rattle.world.proofs.Lists.Found.{at_head, at_tail}
use Rattle.world.proofs.Lists.Rising.{rising_high}
use Rattle.world.proofs.Lists.Entries.{freeze_key, FreezesRise}
use Rattle.world_laws.proofs.Steps.Cases.{Case, case_of}
use Rattle.world.proofs.Steps.Moves.{lists_of, Effect}
use Rattle.world_laws.proofs.Steps.Effects.{effect_of}
use Rattle.world_laws.proofs.Steps.Fates.{machine_of, turned, Holding, holds_the_same, holds_one_more, holds_one_fewer, Fate, stands, goes, leaves_world, fate_of}
use Rattle.world.proofs.Lists.HeldBy.{held_head, held_tail}
use Rattle.world_laws.proofs.Freezes.Held.{live_given}
use Rattle.world_laws.proofs.Freezes.Gone.{move_rises}
use Rattle.world_laws.proofs.Runs.Reaching.{same_found, reached_goes, lawful_exit}
use Rattle.world_laws.proofs.Steps.Beginnings.{no_some}
use Rattle.world_laws.proofs.Sound.{IsSound, step_sound}
use Rattle.world_laws.proofs.Runs.Lives.{gone_stands, rises, stays_over}

-- numbers in a list

abbrev one : Bool → ℕ
one b = cond b 1 0

times_cons : (n k : ℕ) (ns : List ℕ) → times_in n (k ∷ ns) ≡ one (eqb k n) + times_in n ns
times_cons n k ns = sum_by-cons (λ (other : ℕ). one (eqb other n)) k ns

pub times_one : (n k : ℕ) → times_in n (k ∷ []) ≡ one (eqb k n)
times_one n k = let is = times_cons n k [] in omega (arith, is)

pub times_append : (n : ℕ) (ks ns : List ℕ) → times_in n (ks ++ ns) ≡ times_in n ks + times_in n ns
times_append n ks ns = sum_by-append (λ (other : ℕ). one (eqb other n)) ks ns

-- a number that is taken out is there no more, and any other as often as before
times_out : (n m : ℕ) (ns : List ℕ) → times_in n (filter (λ k. not (eqb k m)) ns) + cond (eqb m n) (times_in n ns) 0 ≡ times_in n ns
times_out n m [] = cond_same (eqb m n) 0
  where
    cond_same : (b : Bool) (x : ℕ) → 0 + cond b 0 0 ≡ 0
    cond_same true x = refl
    cond_same false x = refl
times_out n m (k ∷ ns) =
    let rest = times_out n m ns in
    let all = times_cons n k ns in
    elim (cases_eq k m) [
      | inl same ↦
          let out : times_in n (filter (λ (x : ℕ). not (eqb x m)) (k ∷ ns)) ≡ times_in n (filter (λ (x : ℕ). not (eqb x m)) ns) =
          ap (times_in n) (cond-false (not (eqb k m)) _ _ (not_from_true _ (eq-eqb _ _ same))) in
          elim (cases_eq m n) [
            | inl this ↦
                let now : cond (eqb m n) (times_in n (k ∷ ns)) 0 ≡ times_in n (k ∷ ns) = cond-true (eqb m n) _ 0 (eq-eqb _ _ this) in
                let was : cond (eqb m n) (times_in n ns) 0 ≡ times_in n ns = cond-true (eqb m n) _ 0 (eq-eqb _ _ this) in
                omega (arith, rest, all, out, now, was)
            | inr that ↦
                let now : cond (eqb m n) (times_in n (k ∷ ns)) 0 ≡ 0 = cond-false (eqb m n) _ 0 (ne_eqb _ _ that) in
                let was : cond (eqb m n) (times_in n ns) 0 ≡ 0 = cond-false (eqb m n) _ 0 (ne_eqb _ _ that) in
                let none : one (eqb k n) ≡ 0 = ap one (ne_eqb _ _ (λ e. that (sym same ∙ e))) in
                omega (arith, rest, all, out, now, was, none)
          ]
      | inr apart ↦
          let out : times_in n (filter (λ (x : ℕ). not (eqb x m)) (k ∷ ns)) ≡ times_in n (k ∷ filter (λ (x : ℕ). not (eqb x m)) ns) =
          ap (times_in n) (cond-true (not (eqb k m)) _ _ (not_from_false _ (ne_eqb _ _ apart))) in
          let kept = times_cons n k (filter (λ (x : ℕ). not (eqb x m)) ns) in
          elim (cases_eq m n) [
            | inl this ↦
                let now : cond (eqb m n) (times_in n (k ∷ ns)) 0 ≡ times_in n (k ∷ ns) = cond-true (eqb m n) _ 0 (eq-eqb _ _ this) in
                let was : cond (eqb m n) (times_in n ns) 0 ≡ times_in n ns = cond-true (eqb m n) _ 0 (eq-eqb _ _ this) in
                let none : one (eqb k n) ≡ 0 = ap one (ne_eqb _ _ (λ e. apart (e ∙ sym this))) in
                omega (arith, rest, all, out, kept, now, was, none)
            | inr that ↦
                let now : cond (eqb m n) (times_in n (k ∷ ns)) 0 ≡ 0 = cond-false (eqb m n) _ 0 (ne_eqb _ _ that) in
                let was : cond (eqb m n) (times_in n ns) 0 ≡ 0 = cond-false (eqb m n) _ 0 (ne_eqb _ _ that) in
                omega (arith, rest, all, out, kept, now, was)
          ]
    ]

-- the numbers of entries are apart

times_below : (r n low : ℕ) (fs : List Freeze) (high : ℕ) → FreezesRise low fs high → n ≤ low → times_in n (held_by r fs) ≡ 0
times_below r n low [] high h le = refl
times_below r n low (g ∷ fs) high h le =
    let rest = times_below r n g.number fs high h.1 (omega (arith, le, h.0)) in
    elim (cases_Bool (is_run r g.holder)) [
      | inl its ↦
          let none : one (eqb g.number n) ≡ 0 = ap one (ne_eqb _ _ (λ e. omega (arith, e, le, h.0))) in
          let all = times_cons n g.number (held_by r fs) in
          let is : times_in n (held_by r (g ∷ fs)) ≡ times_in n (g.number ∷ held_by r fs) = ap (times_in n) (held_head r g fs its) in
          omega (arith, is, all, none, rest)
      | inr other ↦ ap (times_in n) (held_tail r g fs other) ∙ rest
    ]

-- a number that is still to be given is not held
pub times_above : (r n low : ℕ) (fs : List Freeze) (high : ℕ) → FreezesRise low fs high → high < n → times_in n (held_by r fs) ≡ 0
times_above r n low [] high h lt = refl
times_above r n low (g ∷ fs) high h lt =
    let rest = times_above r n g.number fs high h.1 lt in
    elim (cases_Bool (is_run r g.holder)) [
      | inl its ↦
          let none : one (eqb g.number n) ≡ 0 = ap one (ne_eqb _ _ (λ e. omega (arith, e, lt, rising_high g.number (map freeze_key fs) high h.1))) in
          let all = times_cons n g.number (held_by r fs) in
          let is : times_in n (held_by r (g ∷ fs)) ≡ times_in n (g.number ∷ held_by r fs) = ap (times_in n) (held_head r g fs its) in
          omega (arith, is, all, none, rest)
      | inr other ↦ ap (times_in n) (held_tail r g fs other) ∙ rest
    ]

-- what an entry says that the run holds is held once
times_held : (r n low : ℕ) (fs : List Freeze) (high : ℕ) (f : Freeze) → FreezesRise low fs high → entry_of n fs ≡ Some f → is_run r f.holder ≡ true → times_in n (held_by r fs) ≡ 1
times_held r n low [] high f h entry its = absurd (let bad : None ≡ Some f = entry in cc)
times_held r n low (g ∷ fs) high f h entry its =
    elim (cases_eq g.number n) [
      | inl same ↦
          let both : Some g ≡ Some f = sym (at_head freeze_key n g fs same) ∙ entry in
          let is_f : g ≡ f = cc in
          let is : times_in n (held_by r (g ∷ fs)) ≡ times_in n (g.number ∷ held_by r fs) = ap (times_in n) (held_head r g fs (subst (λ (x : Freeze). is_run r x.holder ≡ true) (sym is_f) its)) in
          let all = times_cons n g.number (held_by r fs) in
          let this : one (eqb g.number n) ≡ 1 = ap one (eq-eqb _ _ same) in
          let none = times_below r n g.number fs high h.1 (omega (arith, same)) in
          omega (arith, is, all, this, none)
      | inr apart ↦
          let rest = times_held r n g.number fs high f h.1 (sym (at_tail freeze_key n g fs apart) ∙ entry) its in
          elim (cases_Bool (is_run r g.holder)) [
            | inl own ↦
                let is : times_in n (held_by r (g ∷ fs)) ≡ times_in n (g.number ∷ held_by r fs) = ap (times_in n) (held_head r g fs own) in
                let all = times_cons n g.number (held_by r fs) in
                let none : one (eqb g.number n) ≡ 0 = ap one (ne_eqb _ _ apart) in
                omega (arith, is, all, none, rest)
            | inr other ↦ ap (times_in n) (held_tail r g fs other) ∙ rest
          ]
    ]

-- what a step of anyone else takes from a run
nothing_given : (number : ℕ) (world : World) (event : Event) → instruction_of number event ≡ None → given_by number world event ≡ []
nothing_given number world event idle = ap (λ (o : Option Instruction). given_up o (request_of_run (run_of number world.runs.list))) idle

-- of one number: how often the run got it, and gave it up
pub data Balance (n number got given : ℕ) (world : World) : Type 0 where
  has : (now : LiveRun) → run_of number world.runs.list ≡ Some now → got ≡ times_in n now.machine.held + given → Balance n number got given world
  had : run_of number world.runs.list ≡ None → number ≤ world.runs.greatest → got ≡ given → Balance n number got given world

-- the run got it once at most, and not at all if it is still to be given
pub record IsGotOnce (n got : ℕ) (world : World) : Type 0 where
  pub once : got ≤ 1
  pub later : world.transport.greatest_freeze < n → got ≡ 0

-- what the run got and gave up after a step, or along a run of the world, if it had got and given so much
pub record Balanced (n number got given : ℕ) (after : World) (more gave_up : List ℕ) : Type 0 where
  pub got_once : IsGotOnce n (got + times_in n more) after
  pub balance : Balance n number (got + times_in n more) (given + times_in n gave_up) after

-- a step by which the run gets nothing
got_nothing : (n got : ℕ) (before after : World) (taken : List ℕ) → IsGotOnce n got before → before.transport.greatest_freeze ≤ after.transport.greatest_freeze → taken ≡ [] → IsGotOnce n (got + times_in n taken) after
got_nothing n got before after taken got_once greatest none =
    let nothing : times_in n taken ≡ 0 = ap (times_in n) none in
    record {
      once = omega (arith, nothing, got_once.once);
      later = λ above. let same = got_once.later (omega (arith, greatest, above)) in omega (arith, nothing, same);
    }

balance_step : (setup : Setup) (n number got given : ℕ) (before : World) (event : Event) (reply : Reply) (after : World) → IsLawful setup → IsSound setup before → IsGotOnce n got before → Case setup before event reply after → Balance n number got given before → Balanced n number got given after (taken_by number event reply) (given_by number before event)
balance_step setup n number got given before event reply after lawful sound got_once it (had none number_given same) =
    let effect = effect_of setup before event reply after (lists_of sound.kept) it in
    let still = stays_over setup before event reply after number none number_given effect.runs in
    let idle = gone_stands setup before event reply after number none effect in
    let takes = effect.taken number number_given idle in
    let not_taken : times_in n (taken_by number event reply) ≡ 0 = ap (times_in n) takes in
    let not_given : times_in n (given_by number before event) ≡ 0 = ap (times_in n) (nothing_given number before event idle) in
    record {
      got_once = got_nothing n got before after (taken_by number event reply) got_once (move_rises setup before event after effect.freezes) takes;
      balance = had still.0 still.1 (omega (arith, same, not_taken, not_given));
    }
balance_step setup n number got given before event reply after lawful sound got_once it (has now found same) =
    by_fate (fate_of setup before event reply after number now lawful sound.kept sound.held found it)
  where
    effect : Effect setup before event reply after
    effect = effect_of setup before event reply after (lists_of sound.kept) it

    greatest_rises : before.transport.greatest_freeze ≤ after.transport.greatest_freeze
    greatest_rises = move_rises setup before event after effect.freezes

    gives_by : (instruction : Instruction) → instruction_of number event ≡ Some instruction → given_by number before event ≡ given_up (Some instruction) (request_at now.program now.machine)
    gives_by instruction event_is =
        ap (λ (o : Option Instruction). given_up o (request_of_run (run_of number before.runs.list))) event_is
        ∙ ap (λ (o : Option LiveRun). given_up (Some instruction) (request_of_run o)) found

    by_holding : (instruction : Instruction) (machine : MachineState) → instruction_of number event ≡ Some instruction → run_of number after.runs.list ≡ Some (machine_of now machine) → Holding before event reply after number now instruction machine → Balanced n number got given after (taken_by number event reply) (given_by number before event)
    by_holding instruction machine event_is is (holds_the_same held_is freezes gives takes) =
        let not_given : times_in n (given_by number before event) ≡ 0 = ap (times_in n) (gives_by instruction event_is ∙ gives) in
        let not_taken : times_in n (taken_by number event reply) ≡ 0 = ap (times_in n) takes in
        let held : times_in n machine.held ≡ times_in n now.machine.held = ap (times_in n) held_is in
        record {
          got_once = got_nothing n got before after (taken_by number event reply) got_once greatest_rises takes;
          balance = has (machine_of now machine) is (omega (arith, same, not_given, not_taken, held));
        }
    by_holding instruction machine event_is is (holds_one_more freeze next own more freezes greatest gives takes) =
        let not_given : times_in n (given_by number before event) ≡ 0 = ap (times_in n) (gives_by instruction event_is ∙ gives) in
        let one_taken : times_in n (taken_by number event reply) ≡ one (eqb freeze.number n) = ap (times_in n) takes ∙ times_one n freeze.number in
        let held : times_in n machine.held ≡ times_in n now.machine.held + times_in n (freeze.number ∷ []) = ap (times_in n) more ∙ times_append n now.machine.held (freeze.number ∷ []) in
        record {
          got_once = elim (cases_eq freeze.number n) [
            | inl this ↦
                let counted : one (eqb freeze.number n) ≡ 1 = ap one (eq-eqb _ _ this) in
                let none_yet = got_once.later (omega (arith, this, next)) in
                record { once = omega (arith, one_taken, counted, none_yet); later = λ above. absurd (omega (arith, above, greatest, this, next)) }
            | inr that ↦
                let counted : one (eqb freeze.number n) ≡ 0 = ap one (ne_eqb _ _ that) in
                record { once = omega (arith, one_taken, counted, got_once.once); later = λ above. let none_yet = got_once.later (omega (arith, above, greatest)) in omega (arith, one_taken, counted, none_yet) }
          ];
          balance = has (machine_of now machine) is (omega (arith, same, not_given, one_taken, held, times_one n freeze.number));
        }
    by_holding instruction machine event_is is (holds_one_fewer wanted freeze entry own fewer entries gives takes) =
        let given_now : times_in n (given_by number before event) ≡ one (eqb wanted n) = ap (times_in n) (gives_by instruction event_is ∙ gives) ∙ times_one n wanted in
        let not_taken : times_in n (taken_by number event reply) ≡ 0 = ap (times_in n) takes in
        let once : times_in wanted now.machine.held ≡ 1 =
        ap (times_in wanted) (sound.held.machines number now found) ∙ times_held number wanted 0 before.transport.freezes before.transport.greatest_freeze freeze sound.kept.freezes.numbered entry own in
        let left : times_in n machine.held ≡ times_in n (held_without now.machine.held wanted) = ap (times_in n) fewer in
        let out = times_out n wanted now.machine.held in
        record {
          got_once = got_nothing n got before after (taken_by number event reply) got_once greatest_rises takes;
          balance = elim (cases_eq wanted n) [
            | inl this ↦
                let counted : one (eqb wanted n) ≡ 1 = ap one (eq-eqb _ _ this) in
                let there : times_in n now.machine.held ≡ 1 = subst (λ (k : ℕ). times_in k now.machine.held ≡ 1) this once in
                let all : cond (eqb wanted n) (times_in n now.machine.held) 0 ≡ times_in n now.machine.held = cond-true (eqb wanted n) _ 0 (eq-eqb _ _ this) in
                has (machine_of now machine) is (omega (arith, same, given_now, not_taken, counted, there, all, left, out))
            | inr that ↦
                let counted : one (eqb wanted n) ≡ 0 = ap one (ne_eqb _ _ that) in
                let none : cond (eqb wanted n) (times_in n now.machine.held) 0 ≡ 0 = cond-false (eqb wanted n) _ 0 (ne_eqb _ _ that) in
                has (machine_of now machine) is (omega (arith, same, given_now, not_taken, counted, none, left, out))
          ];
        }

    by_fate : Fate before event reply after number now → Balanced n number got given after (taken_by number event reply) (given_by number before event)
    by_fate (stands out idle is) =
        let takes = effect.taken number (live_given setup before number now (lists_of sound.kept) found) idle in
        let not_taken : times_in n (taken_by number event reply) ≡ 0 = ap (times_in n) takes in
        let not_given : times_in n (given_by number before event) ≡ 0 = ap (times_in n) (nothing_given number before event idle) in
        record {
          got_once = got_nothing n got before after (taken_by number event reply) got_once greatest_rises takes;
          balance = has (turned now out) is (omega (arith, same, not_taken, not_given));
        }
    by_fate (goes instruction machine event_is no_exit steps is holding disposing) = by_holding instruction machine event_is is holding
    by_fate (leaves_world r0 event_is exit_is none takes) =
        let not_taken : times_in n (taken_by number event reply) ≡ 0 = ap (times_in n) takes in
        let not_given : times_in n (given_by number before event) ≡ 0 = ap (times_in n) (gives_by exit event_is) in
        let unstuck = reached_goes setup lawful before sound.kept.runs number now found (sound.reached number now found) in
        let empty : times_in n now.machine.held ≡ 0 = ap (times_in n) (lawful_exit now.program setup.limits now.machine r0 unstuck exit_is).0 in
        let number_given = live_given setup before number now (lists_of sound.kept) found in
        record {
          got_once = got_nothing n got before after (taken_by number event reply) got_once greatest_rises takes;
          balance = had none (omega (arith, number_given, rises setup before event reply after effect.runs)) (omega (arith, same, not_taken, not_given, empty));
        }

-- along a run of the world
pub balance_leads : (setup : Setup) (n number got given : ℕ) (before : World) (xs : List (Event × Reply)) (after : World) → IsLawful setup → IsSound setup before → IsGotOnce n got before → (run : Leads setup before xs after) → Balance n number got given before → Balanced n number got given after (took number xs) (gave number setup before xs after run)
balance_leads setup n number got given before [] after lawful sound got_once run balance =
    let no_more : got ≡ got + 0 = omega arith in
    let none_given : given ≡ given + 0 = omega arith in
    record {
      got_once = subst (λ (k : ℕ). IsGotOnce n k after) no_more (subst (IsGotOnce n got) run got_once);
      balance = subst (λ (k : ℕ). Balance n number k (given + 0) after) no_more (subst (λ (k : ℕ). Balance n number got k after) none_given (subst (Balance n number got given) run balance));
    }
balance_leads setup n number got given before (x ∷ xs) after lawful sound got_once run balance =
    let between : World = run.0 in
    let taken : List ℕ = taken_by number x.0 x.1 in
    let given_now : List ℕ = given_by number before x.0 in
    let later : List ℕ = gave number setup between xs after run.2 in
    let now = balance_step setup n number got given before x.0 x.1 between lawful sound got_once (case_of setup before x.0 x.1 between run.1) balance in
    let rest = balance_leads setup n number (got + times_in n taken) (given + times_in n given_now) between xs after lawful (step_sound setup before x.0 x.1 between lawful run.1 sound) now.got_once run.2 now.balance in
    let all_got : got + times_in n taken + times_in n (took number xs) ≡ got + times_in n (taken ++ took number xs) = omega (arith, times_append n taken (took number xs)) in
    let all_given : given + times_in n given_now + times_in n later ≡ given + times_in n (given_now ++ later) = omega (arith, times_append n given_now later) in
    record {
      got_once = subst (λ (k : ℕ). IsGotOnce n k after) all_got rest.got_once;
      balance = subst (λ (k : ℕ). Balance n number k (given + times_in n (given_now ++ later)) after) all_got
          (subst (λ (k : ℕ). Balance n number (got + times_in n taken + times_in n (took number xs)) k after) all_given rest.balance);
    }

-- what the balance says of a run that is live, and of one that is gone
pub live_balance : (n number got given : ℕ) (world : World) (now : LiveRun) → run_of number world.runs.list ≡ Some now → Balance n number got given world → got ≡ times_in n now.machine.held + given
live_balance n number got given world now found (has its found_too same) =
    subst (λ (r : LiveRun). got ≡ times_in n r.machine.held + given) (same_found world number its now found_too found) same
live_balance n number got given world now found (had none number_given same) = absurd (no_some (run_of number world.runs.list) now none found)

pub gone_balance : (n number got given : ℕ) (world : World) → run_of number world.runs.list ≡ None → Balance n number got given world → got ≡ given
gone_balance n number got given world none (has its found same) = absurd (no_some (run_of number world.runs.list) its none found)
gone_balance n number got given world none (had none_too number_given same) = same
