-- What every world of every run keeps: the limits, that each machine was reached, what runs hold and what they recover.
use Rattle.std.proofs.Common.{◌≡◌, ℕ, List, [], ◌∷◌, Bool, true, false, Option, Some, None, ap, sym, ◌∙◌, subst}
use Rattle.std.specs.Prelude.{◌||◌, IfSome}
use Rattle.freeze_ledger.specs.declared.freeze.Holder.{Holder}
use Rattle.freeze_ledger.specs.declared.freeze.Holder.TheVariants.{Guest, Run, Timer}
use Rattle.world.specs.RunSteps.{is_run}
use Rattle.world.specs.World.{LiveRun, Setup, World, beginning, beginning_of, opening}
use Rattle.world.specs.Beginning.{Begins, IsBeginning, IsCarriedFreeze}
use Rattle.world.specs.FreezeSteps.{is_guest, is_timer}
use Rattle.world.specs.Lookups.{run_of}
use Rattle.world.proofs.Lists.Each.{all_found}
use Rattle.world.proofs.Lists.Entries.{freeze_key}
use Rattle.world.specs.Lawful.{IsLawful}
use Rattle.world.specs.Event.{Event, Reply}
use Rattle.world.specs.Step.{WorldStep}
use Rattle.world.specs.WorldRun.{Leads, WorldRun}
use Rattle.world.specs.Limits.{KeepsLimits}
use Rattle.world.specs.Laws.FreezeLaws.{HoldsWhatEntriesSay, HeldAreEntries}
use Rattle.world.specs.Laws.Headline.{MachinesAreReached}
use Rattle.world_laws.proofs.Steps.Cases.{case_of}
use Rattle.world_laws.proofs.Kept.{case_keeps_limits, opening_keeps_limits}
use Rattle.world_laws.proofs.Runs.Reaching.{AllReached, case_reaches}
use Rattle.world_laws.proofs.Freezes.Held.{case_holds}
use Rattle.world_laws.proofs.Runs.Recovering.{Recovering, case_recovers}

pub record IsSound (setup : Setup) (world : World) : Type 0 where
  pub kept : KeepsLimits setup world
  pub reached : AllReached world
  pub held : HoldsWhatEntriesSay world
  pub recovering : Recovering world

pub step_sound : (setup : Setup) (before : World) (event : Event) (reply : Reply) (after : World) → IsLawful setup → WorldStep setup before event reply after → IsSound setup before → IsSound setup after
step_sound setup before event reply after lawful e sound =
    let it = case_of setup before event reply after e in
    record {
      kept = case_keeps_limits setup before event reply after it sound.kept;
      reached = case_reaches setup before event reply after lawful sound.kept sound.held it sound.reached;
      held = case_holds setup before event reply after lawful sound.kept sound.reached sound.held it;
      recovering = case_recovers setup before event reply after lawful sound.kept sound.held sound.recovering it;
    }

pub leads_sound : (setup : Setup) (before : World) (xs : List (Event × Reply)) (after : World) → IsLawful setup → Leads setup before xs after → IsSound setup before → IsSound setup after
leads_sound setup before [] after lawful run sound = subst (IsSound setup) run sound
leads_sound setup before (x ∷ xs) after lawful run sound = leads_sound setup run.0 xs after lawful run.2 (step_sound setup before x.0 x.1 run.0 lawful run.1 sound)

pub opening_sound : (setup : Setup) → IsLawful setup → IsSound setup (opening setup)
opening_sound setup lawful =
    record {
      kept = opening_keeps_limits setup lawful;
      reached = λ number run found. absurd (let bad : None ≡ Some run = found in cc);
      held = record {
        machines = λ number run found. absurd (let bad : None ≡ Some run = found in cc);
        entries = λ number run freeze entry its. absurd (let bad : None ≡ Some freeze = entry in cc);
      };
      recovering = record {
        ccbs = λ number run found fresh. absurd (let bad : None ≡ Some run = found in cc);
        alone = λ n m a b first second same fresh too. absurd (let bad : None ≡ Some a = first in cc);
      };
    }

-- what a timer or a guest holds no run holds
none_by_run : (run : ℕ) (holder : Holder) → (is_timer holder || is_guest holder) ≡ true → is_run run holder ≡ true → ⊥
none_by_run run (Run number) other its = let bad : false ≡ true = other in cc
none_by_run run (Timer due) other its = let bad : false ≡ true = its in cc
none_by_run run (Guest guest) other its = let bad : false ≡ true = its in cc

-- a world that is taken over has no runs, and no freeze that a run holds
of_taken_over : (setup : Setup) (world : World) → IsBeginning setup world → IsSound setup world
of_taken_over setup world begins =
    let none : (number : ℕ) (run : LiveRun) → run_of number world.runs.list ≡ Some run → ⊥ = λ number run found.
    let bad : None ≡ Some run = sym (ap (run_of number) begins.no_run) ∙ found in cc in
    record {
      kept = begins.limits;
      reached = λ number run found. absurd (none number run found);
      held = record {
        machines = λ number run found. absurd (none number run found);
        entries = λ number run freeze entry its. absurd (none_by_run run freeze.holder (all_found freeze_key (IsCarriedFreeze setup) number world.transport.freezes freeze begins.freezes entry).holder its);
      };
      recovering = record {
        ccbs = λ number run found fresh. absurd (none number run found);
        alone = λ n m a b first second same fresh too. absurd (none n a first);
      };
    }

pub beginning_sound : (setup : Setup) → IsLawful setup → Begins setup → IsSound setup (beginning setup)
beginning_sound setup lawful begins = by setup.carried begins
  where
    by : (carried : Option World) → IfSome carried (IsBeginning setup) → IsSound setup (beginning_of setup carried)
    by None begins = opening_sound setup lawful
    by (Some world) begins = of_taken_over setup world begins

pub run_sound : (setup : Setup) (xs : List (Event × Reply)) (world : World) → IsLawful setup → WorldRun setup xs world → IsSound setup world
run_sound setup xs world lawful run = leads_sound setup (beginning setup) xs world lawful run.1 (beginning_sound setup lawful run.0)

pub held_are_entries : HeldAreEntries
held_are_entries setup lawful xs world run = (run_sound setup xs world lawful run).held

pub machines_are_reached : MachinesAreReached
machines_are_reached setup lawful xs world run = (run_sound setup xs world lawful run).reached
