-- A world without live runs is one that may be taken over.
use Rattle.std.proofs.Common.{◌≡◌, ℕ, ◌<◌, List, [], ◌∷◌, map, true, false, Option, Some, None, refl, ap, subst, ◌∙◌, arith}
use Rattle.std.specs.Prelude.{◌||◌, All, IsSome}
use Rattle.std.proofs.lemmas.Bool.{eq-eqb}
use Rattle.std.proofs.lemmas.List.Elements.{All-cons, All-nil}
use Rattle.ccb.specs.Rising.{AreRising}
use Rattle.freeze_ledger.specs.declared.freeze.Freeze.{Freeze}
use Rattle.freeze_ledger.specs.declared.freeze.Holder.{Holder}
use Rattle.freeze_ledger.specs.declared.freeze.Holder.TheVariants.{Guest, Run, Timer}
use Rattle.helpers.specs.declared.limits.HelperSet.{HelperSet}
use Rattle.helpers.specs.declared.limits.HelperSet.TheVariants.{Classes, Controllers, Queues}
use Rattle.helpers.specs.declared.table.Helper.TheVariants.{FreezeController}
use Rattle.helpers.specs.Table.{is_there}
use Rattle.world.specs.Beginning.{IsCarriedCcb, IsCarriedFreeze}
use Rattle.world.specs.FreezeSteps.{is_guest, is_timer}
use Rattle.world.specs.Lawful.{AreUnder, IsLawful}
use Rattle.world.specs.Limits.{NamesNoOther}
use Rattle.world.specs.Lookups.{run_of}
use Rattle.world.specs.Refusals.{is_unknown}
use Rattle.world.specs.RunSteps.{is_run}
use Rattle.world.specs.World.{LiveRun, QueueSetup, Setup}
use Rattle.world.proofs.Lists.Each.{all_found}
use Rattle.world.proofs.Lists.Entries.{freeze_key}
use Rattle.world.proofs.Lists.Found.{at, at_head, at_tail}
use Rattle.world.proofs.Lists.Rising.{found_bounds}
use Rattle.world.proofs.Steps.Moves.{ccb_key}
use Rattle.world_laws.proofs.Sound.{run_sound}
use Rattle.engine_carried.specs.Leaving.{LeavesABeginning}
use Rattle.engine_carried.proofs.Resting.{all_rest}

-- what holds of each element that is found by its number holds of all
module _ {A : Type 0} (key : A → ℕ) where
  all_each : (P : A → Type 0) (low : ℕ) (xs : List A) (high : ℕ) → AreRising low (map key xs) high → ((n : ℕ) (x : A) → at key n xs ≡ Some x → P x) → All P xs
  all_each P low [] high rising each = All-nil P
  all_each P low (y ∷ xs) high rising each =
      All-cons P y xs (each (key y) y (at_head key (key y) y xs refl))
      (all_each P (key y) xs high rising.1 (λ n x found. each n x (at_tail key n y xs (λ same. omega (arith, same, (found_bounds key (key y) xs high n x rising.1 found).0)) ∙ found)))

-- a lawful setup names no queue and no controller that there is not
names_no_other : (setup : Setup) → IsLawful setup → NamesNoOther setup
names_no_other setup lawful = record { queues = omega (arith, lawful.agreed); controllers = by setup.limits.helpers lawful.under }
  where
    by : (helpers : HelperSet) → AreUnder helpers setup.controllers setup.queues → is_there helpers FreezeController ≡ true → All (λ (queue : QueueSetup). queue.controller < setup.controllers) setup.queues
    by Queues under there = absurd (let bad : false ≡ true = there in cc)
    by Controllers under there = under.1
    by Classes under there = under.1

-- what no live run holds a timer or a guest does
held_otherwise : (holder : Holder) → ((run : ℕ) → is_run run holder ≡ true → ⊥) → (is_timer holder || is_guest holder) ≡ true
held_otherwise (Run run) none = absurd (none run (eq-eqb run run refl))
held_otherwise (Timer due) none = refl
held_otherwise (Guest guest) none = refl

pub leaves_a_beginning : LeavesABeginning
leaves_a_beginning setup lawful xs world run none =
    let sound = run_sound setup xs world lawful run in
    let limits = sound.kept in
    let places = limits.freezes.places (names_no_other setup lawful) in
    record {
      limits = record {
        freezes = record { places = limits.freezes.places; a_place = limits.freezes.a_place; ledger = limits.freezes.ledger; numbered = limits.freezes.numbered; numbers = limits.freezes.numbers };
        ccbs = record { queues = limits.ccbs.queues; plain = limits.ccbs.plain; a_queue = limits.ccbs.a_queue; all = limits.ccbs.all; rising = limits.ccbs.rising; numbers = limits.ccbs.numbers };
        runs = record { queues = limits.runs.queues; controllers = limits.runs.controllers; programs = limits.runs.programs; all = limits.runs.all; rising = limits.runs.rising; numbers = limits.runs.numbers };
        answers = record { queues = limits.answers.queues; openings = limits.answers.openings; lengths = limits.answers.lengths; words = limits.answers.words; clock = limits.answers.clock };
      };
      ccbs = all_each ccb_key IsCarriedCcb 0 world.transport.live world.transport.greatest_ccb limits.ccbs.rising (all_rest setup xs world lawful run none);
      freezes = all_each freeze_key (IsCarriedFreeze setup) 0 world.transport.freezes world.transport.greatest_freeze limits.freezes.numbered (λ n freeze found. record {
        place = all_found freeze_key (λ (f : Freeze). is_unknown setup f.place ≡ false) n world.transport.freezes freeze places found;
        holder = held_otherwise freeze.holder (λ r its.
            let there : IsSome (run_of r world.runs.list) = sound.held.entries n r freeze found its in
            let gone : run_of r world.runs.list ≡ None = ap (run_of r) none in
            absurd (let bad : false ≡ true = subst (λ (o : Option LiveRun). IsSome o) gone there in cc));
      });
      no_run = none;
      none_ended = refl;
    }
