-- The laws of runs, read off their lives.
use Rattle.std.proofs.Common.{◌≡◌, ℕ, ◌+◌, ◌<◌, ◌≤◌, List, [], ◌∷◌, Bool, true, false, not, cond, eqb, Some, None, inl, inr, refl, ap, sym, subst, ◌∙◌, arith}
use Rattle.std.specs.Prelude.{◌&&◌}
use Rattle.std.proofs.lemmas.Bool.{cases_Bool, eq-eqb}
use Rattle.ccb.specs.Completion.{Outcome}
use Rattle.bpf_semantics.specs.Reached.{Reached}
use Rattle.world.specs.World.{Setup, queue_setup, LiveRun, World}
use Rattle.world.specs.Lawful.{IsLawful}
use Rattle.world.specs.Lookups.{run_of}
use Rattle.world_calls.specs.declared.call.Call.TheVariants.{Complete}
use Rattle.world_calls.specs.declared.call_answer.CallAnswer.TheVariants as answers
use Rattle.world.specs.Event.{Event, called, Reply, replies}
use Rattle.world.specs.WorldRun.{Leads}
use Rattle.world.specs.Laws.Headline.{is_own_of, steps_of, disposals_of, exits_of, StartedRun, KeepsWithin, WithinBudget, InRecoveryBy, DisposedOnce, OthersLeaveIt, GoneRunStaysGone, times_in, ExactFreezes}
use Rattle.world.proofs.Lists.Found.{found_key, found_push, put_other, leave_other}
use Rattle.world_laws.proofs.Steps.Cases.{case_of}
use Rattle.world.proofs.Steps.Moves.{KeepsLists, lists_of, ccb_key, run_key, Begins, RunMove, runs_stay, run_enters, run_changes, run_leaves}
use Rattle.world_laws.proofs.Steps.Effects.{begun_found, effect_of}
use Rattle.world_laws.proofs.Kept.{step_keeps}
use Rattle.world_laws.proofs.Leads.{leads_keeps, lists_are_kept}
use Rattle.world_laws.proofs.Freezes.Held.{live_given, others_entries}
use Rattle.world_laws.proofs.Steps.Beginnings.{no_some, started_begins, begins_at_entry}
use Rattle.world_laws.proofs.Runs.Reaching.{same_found}
use Rattle.world_laws.proofs.Disposals.{in_recovery_by, disposal_of}
use Rattle.world_laws.proofs.Sound.{IsSound, step_sound, run_sound, leads_sound}
use Rattle.world.specs.Laws.FreezeLaws.{held_by}
use Rattle.world.specs.Laws.TookGave.{taken_by, took}
use Rattle.world_laws.proofs.Freezes.Exact.{has, times_append, times_one, times_above, IsGotOnce, balance_leads, live_balance, gone_balance}
use Rattle.world_laws.proofs.Runs.Lives.{Life, alive, over, recount, rises, stays_over, life_leads, within}

-- a run from its start on
record Story (setup : Setup) (outcome : Outcome) (run : ℕ) (ys : List (Event × Reply)) (world : World) (started : World) : Type 0 where
  start : LiveRun
  found : run_of run started.runs.list ≡ Some start
  ccb_is : start.ccb ≡ outcome.ccb.0
  sound : IsSound setup world
  life : Life setup start run (steps_of run ys) (disposals_of run ys) (exits_of run ys) world

story : (setup : Setup) → IsLawful setup → (outcome : Outcome) (run : ℕ) (ys : List (Event × Reply)) (world : World) (it : StartedRun setup outcome run ys world) → Story setup outcome run ys world it.started
story setup lawful outcome run ys world it =
    let before : World = it.before in
    let started : World = it.started in
    let sound = run_sound setup it.xs before lawful it.run_before in
    let begun = started_begins setup before outcome run it.freeze started (effect_of setup before (called (Complete outcome)) (replies (answers.Started run it.freeze)) started (lists_of sound.kept) (case_of setup before (called (Complete outcome)) (replies (answers.Started run it.freeze)) started it.step)).runs in
    let begins = begun.1 in
    let same_event : called (Complete begins.outcome) ≡ called (Complete outcome) = sym begins.event_is in
    let same_outcome : begins.outcome ≡ outcome = cc in
    let same_reply : replies (answers.Started run it.freeze) ≡ replies (answers.Started (before.runs.greatest + 1) begins.freeze) = begins.reply_is in
    let named : before.runs.greatest + 1 ≡ run = cc in
    let there = subst (λ (n : ℕ). run_of n started.runs.list ≡ Some begun.0) named (begun_found setup before (called (Complete outcome)) (replies (answers.Started run it.freeze)) started begun.0 sound.kept.runs begins) in
    let began : Life setup begun.0 run 0 0 0 started =
    alive begun.0 there refl refl (begins_at_entry setup before (called (Complete outcome)) (replies (answers.Started run it.freeze)) started begun.0 begins)
    (inl (ap (λ (r : LiveRun). r.machine.disposed) begins.run_is, refl)) refl in
    let after_start = step_sound setup before (called (Complete outcome)) (replies (answers.Started run it.freeze)) started lawful it.step sound in
    record {
      start = begun.0;
      found = there;
      ccb_is =
          ap (λ (r : LiveRun). r.ccb) begins.run_is
          ∙ (found_key ccb_key begins.outcome.ccb.0 before.transport.live begins.live begins.found ∙ ap (λ (o : Outcome). o.ccb.0) same_outcome);
      sound = leads_sound setup started ys world lawful it.goes_on after_start;
      life = recount setup begun.0 run _ _ _ _ _ _ world (omega arith) (omega arith) (omega arith) (life_leads setup begun.0 run 0 0 0 started ys world lawful after_start it.goes_on began);
    }

keeps_within : (setup : Setup) (start : LiveRun) (run k j e : ℕ) (world : World) → IsLawful setup → IsSound setup world → Life setup start run k j e world → KeepsWithin setup run start k world
keeps_within setup start run k j e world lawful sound (alive now found queue ccb reached disposed none_yet) =
    record {
      budget = subst (λ (q : ℕ). k ≤ (queue_setup setup q).budget) queue ((within setup world run now lawful sound found k now.machine reached).0);
      reached = λ it found_too. subst (λ (r : LiveRun). (r.queue ≡ start.queue) × Reached r.program k r.machine) (same_found world run now it found found_too) (queue, reached);
    }
keeps_within setup start run k j e world lawful sound (over none given most used gone) =
    record { budget = most; reached = λ it found_too. absurd (no_some (run_of run world.runs.list) it none found_too) }

pub within_budget : WithinBudget
within_budget setup lawful outcome run ys world it =
    let s = story setup lawful outcome run ys world it in
    (s.start, s.found, keeps_within setup s.start run (steps_of run ys) (disposals_of run ys) (exits_of run ys) world lawful s.sound s.life)

-- what the life of a run says of its CCB
record Disposes (run ccb j e : ℕ) (world : World) : Type 0 where
  most : j ≤ 1
  at_exit : 0 < e → j ≡ 1
  until_then : j ≡ 0 → InRecoveryBy run ccb world
  its_ccb : (now : LiveRun) → run_of run world.runs.list ≡ Some now → now.ccb ≡ ccb

-- a live run is of the CCB of its start
stays_its_own : (world : World) (run : ℕ) (start now : LiveRun) → run_of run world.runs.list ≡ Some now → now.ccb ≡ start.ccb → (it : LiveRun) → run_of run world.runs.list ≡ Some it → it.ccb ≡ start.ccb
stays_its_own world run start now found ccb it found_too = subst (λ (r : LiveRun). r.ccb ≡ start.ccb) (same_found world run now it found found_too) ccb

disposes : (setup : Setup) (start : LiveRun) (run k j e : ℕ) (world : World) → IsSound setup world → Life setup start run k j e world → Disposes run start.ccb j e world
disposes setup start run k j e world sound (alive now found queue ccb reached (inl fresh) none_yet) =
    record {
      most = omega (arith, fresh.1);
      at_exit = λ some. absurd (omega (arith, some, none_yet));
      until_then = λ none. subst (λ (n : ℕ). InRecoveryBy run n world) ccb (in_recovery_by run now world sound.recovering found fresh.0);
      its_ccb = stays_its_own world run start now found ccb;
    }
disposes setup start run k j e world sound (alive now found queue ccb reached (inr spent) none_yet) =
    record {
      most = omega (arith, spent.1);
      at_exit = λ some. absurd (omega (arith, some, none_yet));
      until_then = λ none. absurd (omega (arith, none, spent.1));
      its_ccb = stays_its_own world run start now found ccb;
    }
disposes setup start run k j e world sound (over none given most used gone) =
    record {
      most = omega (arith, used);
      at_exit = λ some. used;
      until_then = λ zero_yet. absurd (omega (arith, zero_yet, used));
      its_ccb = λ it found_too. absurd (no_some (run_of run world.runs.list) it none found_too);
    }

pub disposed_once : DisposedOnce
disposed_once setup lawful outcome run ys world it =
    let s = story setup lawful outcome run ys world it in
    let d = disposes setup s.start run (steps_of run ys) (disposals_of run ys) (exits_of run ys) world s.sound s.life in
    let its_ccb : (now : LiveRun) → run_of run world.runs.list ≡ Some now → now.ccb ≡ outcome.ccb.0 = λ now found. d.its_ccb now found ∙ s.ccb_is in (
      d.most,
      d.at_exit,
      λ none. subst (λ (n : ℕ). InRecoveryBy run n world) s.ccb_is (d.until_then none),
      its_ccb,
      λ event reply after step disposal. disposal_of setup world event reply after run outcome.ccb.0 s.sound.recovering its_ccb step disposal,
    )

-- what a run holds at its start is what it got
start_balance : (setup : Setup) (before : World) (event : Event) (reply : Reply) (after : World) (run : ℕ) (start : LiveRun) (n : ℕ) → before.runs.greatest + 1 ≡ run → Begins setup before event reply after start → (times_in n (taken_by run event reply) ≡ times_in n start.machine.held) × (times_in n (taken_by run event reply) ≤ 1)
start_balance setup before event reply after run start n named it =
    let got : taken_by run event reply ≡ cond (not (eqb it.freeze 0)) (it.freeze ∷ []) [] =
    (λ i. taken_by run (it.event_is i) (it.reply_is i))
    ∙ ap (λ (b : Bool). cond (b && not (eqb it.freeze 0)) (it.freeze ∷ []) []) (eq-eqb _ _ named) in
    let held : start.machine.held ≡ cond (eqb it.freeze 0) [] (it.freeze ∷ []) = ap (λ (r : LiveRun). r.machine.held) it.run_is in
    let same : taken_by run event reply ≡ start.machine.held = got ∙ (turned (eqb it.freeze 0) ∙ sym held) in
    let all : times_in n (taken_by run event reply) ≡ times_in n start.machine.held = ap (times_in n) same in
    let few : times_in n start.machine.held ≤ 1 = subst (λ (ns : List ℕ). times_in n ns ≤ 1) (sym held) (at_most (eqb it.freeze 0)) in
    (all, omega (arith, all, few))
  where
    turned : (b : Bool) → cond (not b) (it.freeze ∷ []) [] ≡ cond b [] (it.freeze ∷ [])
    turned true = refl
    turned false = refl

    at_most : (b : Bool) → times_in n (cond b [] (it.freeze ∷ [])) ≤ 1
    at_most true = omega arith
    at_most false =
        elim (cases_Bool (eqb it.freeze n)) [
          | inl yes_it ↦ let is : times_in n (it.freeze ∷ []) ≡ 1 = times_one n it.freeze ∙ ap (λ (b : Bool). cond {A = ℕ} b 1 0) yes_it in omega (arith, is)
          | inr not_it ↦ let is : times_in n (it.freeze ∷ []) ≡ 0 = times_one n it.freeze ∙ ap (λ (b : Bool). cond {A = ℕ} b 1 0) not_it in omega (arith, is)
        ]

pub exact_freezes : ExactFreezes
exact_freezes setup lawful outcome run ys world it =
    let before : World = it.before in
    let started : World = it.started in
    let event : Event = called (Complete outcome) in
    let reply : Reply = replies (answers.Started run it.freeze) in
    let sound = run_sound setup it.xs before lawful it.run_before in
    let begun = started_begins setup before outcome run it.freeze started (effect_of setup before event reply started (lists_of sound.kept) (case_of setup before event reply started it.step)).runs in
    let same_reply : replies (answers.Started run it.freeze) ≡ replies (answers.Started (before.runs.greatest + 1) begun.1.freeze) = begun.1.reply_is in
    let named : before.runs.greatest + 1 ≡ run = cc in
    let there = subst (λ (n : ℕ). run_of n started.runs.list ≡ Some begun.0) named (begun_found setup before event reply started begun.0 sound.kept.runs begun.1) in
    let after_start = step_sound setup before event reply started lawful it.step sound in
    let at_start = λ (n : ℕ). start_balance setup before event reply started run begun.0 n named begun.1 in
    let got_once : (n : ℕ) → IsGotOnce n (times_in n (taken_by run event reply)) started = λ (n : ℕ). record {
      once = (at_start n).1;
      later = λ above.
          let held : times_in n begun.0.machine.held ≡ times_in n (held_by run started.transport.freezes) = ap (times_in n) (after_start.held.machines run begun.0 there) in
          omega (arith, (at_start n).0, held, times_above run n 0 started.transport.freezes started.transport.greatest_freeze after_start.kept.freezes.numbered above);
    } in
    let balanced = λ (n : ℕ).
    balance_leads setup n run (times_in n (taken_by run event reply)) 0 started ys world lawful after_start (got_once n) it.goes_on
    (has begun.0 there (omega (arith, (at_start n).0))) in
    let all = λ (n : ℕ). times_append n (taken_by run event reply) (took run ys) in
    record {
      once = λ n. omega (arith, all n, (balanced n).got_once.once);
      live = λ now found n.
          let now_is = live_balance n run _ _ world now found (balanced n).balance in
          omega (arith, all n, now_is);
      gone = λ none n.
          let then_is = gone_balance n run _ _ world none (balanced n).balance in
          omega (arith, all n, then_is);
    }

-- what is one run's own is none of another's
not_one : (number another : ℕ) (event : Event) → is_own_of number event ≡ false → is_own_of another event ≡ true → another ≡ number → ⊥
not_one number another event other its same = let bad : false ≡ true = sym other ∙ subst (λ (n : ℕ). is_own_of n event ≡ true) same its in cc

-- an event that is not the run's own leaves it
pub not_its_own : (setup : Setup) (before : World) (event : Event) (reply : Reply) (after : World) (number : ℕ) (run : LiveRun) → is_own_of number event ≡ false → run_of number before.runs.list ≡ Some run → RunMove setup before event reply after → run_of number after.runs.list ≡ Some run
not_its_own setup before event reply after number run other found (runs_stay e g quiet) = ap (run_of number) e ∙ found
not_its_own setup before event reply after number run other found (run_enters fresh begins known room g) = ap (run_of number) begins.runs_is ∙ found_push run_key number before.runs.list fresh run found
not_its_own setup before event reply after number run other found (run_changes old new there queue_is controller_is program_is e g quiet its) =
    ap (run_of number) e ∙ (put_other run_key new number before.runs.list (not_one number new.number event other its) ∙ found)
not_its_own setup before event reply after number run other found (run_leaves another there e g quiet its) =
    ap (run_of number) e ∙ (leave_other run_key another.number number before.runs.list (not_one number another.number event other its) ∙ found)

pub others_leave_it : OthersLeaveIt
others_leave_it setup xs before first event reply after e number run found =
    let kept = lists_are_kept setup xs before first in
    let effect = effect_of setup before event reply after kept (case_of setup before event reply after e) in
    (λ other. not_its_own setup before event reply after number run other found effect.runs, λ other. others_entries setup before event after number run kept found other effect.freezes)

-- run numbers only rise, and a run that is over stays over
leads_over : (setup : Setup) (before : World) (xs : List (Event × Reply)) (after : World) (number : ℕ) → KeepsLists setup before → Leads setup before xs after → run_of number before.runs.list ≡ None → number ≤ before.runs.greatest → run_of number after.runs.list ≡ None
leads_over setup before [] after number kept run none given = subst (λ (w : World). run_of number w.runs.list ≡ None) run none
leads_over setup before (x ∷ xs) after number kept run none given =
    let it = effect_of setup before x.0 x.1 run.0 kept (case_of setup before x.0 x.1 run.0 run.1) in
    let still = stays_over setup before x.0 x.1 run.0 number none given it.runs in
    leads_over setup run.0 xs after number (step_keeps setup before x.0 x.1 run.0 run.1 kept) run.2 still.0 still.1

leads_rise : (setup : Setup) (before : World) (xs : List (Event × Reply)) (after : World) → KeepsLists setup before → Leads setup before xs after → before.runs.greatest ≤ after.runs.greatest
leads_rise setup before [] after kept run = rw run (omega arith)
leads_rise setup before (x ∷ xs) after kept run =
    let it = effect_of setup before x.0 x.1 run.0 kept (case_of setup before x.0 x.1 run.0 run.1) in
    omega (
      arith,
      rises setup before x.0 x.1 run.0 it.runs,
      leads_rise setup run.0 xs after (step_keeps setup before x.0 x.1 run.0 run.1 kept) run.2,
    )

pub gone_run_stays_gone : GoneRunStaysGone
gone_run_stays_gone setup xs ys zs number run live gone later first found second none third =
    let kept = lists_are_kept setup xs live first in
    let given = live_given setup live number run kept found in
    leads_over setup gone zs later number (leads_keeps setup live ys gone second kept) third none
    (omega (arith, given, leads_rise setup live ys gone kept second))
