-- The queues of a configuration by their numbers, and what is known of each.
use Rattle.std.proofs.Common.{◌≡◌, ◌∙◌, ◌<◌, ◌≤◌, ◌^◌, ℕ, false, List, [], length, map, refl, ap, sym, subst, arith}
use Rattle.std.specs.Prelude.{All, slice_index_or}
use Rattle.std.specs.Global.{Global}
use Rattle.std.specs.declared.sync.Arc.{Arc}
use Rattle.bpf_accepted.specs.declared.accepted.Accepted.{Accepted}
use Rattle.std.proofs.lemmas.List.{get_or-map, length-map}
use Rattle.std.proofs.lemmas.List.Elements.{All-get_or, All-map, All-weaker}
use Rattle.helpers.specs.declared.limits.HelperLimits.{HelperLimits}
use Rattle.helpers.specs.declared.limits.HelperSet.{HelperSet}
use Rattle.helpers.specs.declared.limits.HelperSet.TheVariants.{Classes, Controllers, Queues}
use Rattle.helpers.specs.Table.{are_classed}
use Rattle.table_store.specs.Tables.{tables_with}
use Rattle.table_store.proofs.Firsts.{all_with, lengths_with, zeros_with}
use Rattle.bpf_semantics.specs.Reached.{Safe}
use Rattle.world.specs.Capacities.{most_controllers}
use Rattle.world.specs.World.{QueueSetup}
use Rattle.world.specs.Lawful.{AreUnder, IsLawfulQueue}
use Rattle.engine_config.specs.Configured.{AreWords, Given, HaveRoom, IsGivenUnder, KeepsConfig, IsKnown, alone_of, queue_of, under_of}

-- what holds of each image
All-unmap : {X Y : Type 0} (P : Y → Type 0) (f : X → Y) (xs : List X) → All P (map f xs) → All (λ x. P (f x)) xs
All-unmap P f xs h k d lt = subst P (get_or-map f xs k d (f d) lt) (h k (f d) (rw length-map lt))

-- a queue that is given so is lawful
lawful_queue : (limits : HelperLimits) (given : Given) → IsGivenUnder limits given × IsKnown given → IsLawfulQueue limits (queue_of given)
lawful_queue limits given h = record {
  openings = (h.0.0, h.1.0);
  program = h.1.1.is_program;
  safe = subst (λ (l : HelperLimits). Safe given.verdict.program l) h.0.1 h.1.1.safe;
  within = h.1.1.within;
  budget = h.1.1.few_instructions;
}

pub kept : (limits : HelperLimits) (controllers : ℕ) (firsts : List (List ℕ)) (given : List Given) → 1 ≤ length given → length given ≤ 64 → limits.queues ≡ length given
    → AreUnder limits.helpers controllers (map queue_of given)
    → All (λ queue. IsGivenUnder limits queue × IsKnown queue) given → (are_classed limits.helpers ≡ false → firsts ≡ []) → HaveRoom limits.table_lengths firsts → AreWords firsts → KeepsConfig limits controllers firsts given
kept limits controllers firsts given some few agreed under each plain room words =
    let count : length (map queue_of given) ≡ length given = simp length-map in
    record {
      lawful = record {
        queue_number = (omega arith, omega arith);
        agreed = agreed ∙ sym count;
        under = under;
        queues = All-map (IsLawfulQueue limits) queue_of given (All-weaker (λ given. IsGivenUnder limits given × IsKnown given) (λ given. IsLawfulQueue limits (queue_of given)) (lawful_queue limits) given each);
        tables = record {
          lengths = lengths_with limits.table_lengths firsts;
          words = all_with (λ word. word < 2 ^ 64) limits.table_lengths firsts (omega arith) words;
          zero = λ without. ap (tables_with limits.table_lengths) (plain without) ∙ zeros_with limits.table_lengths;
        };
      };
      room = room;
      queues = All-weaker (λ given. IsGivenUnder limits given × IsKnown given) (IsGivenUnder limits) (λ _ h. h.0) given each;
      known = All-weaker (λ given. IsGivenUnder limits given × IsKnown given) IsKnown (λ _ h. h.1) given each;
    }

-- whatever there is of controllers, each queue's is below the most
below_most : (helpers : HelperSet) (controllers : ℕ) (queues : List QueueSetup) → AreUnder helpers controllers queues
    → All (λ queue. queue.controller < most_controllers) queues
below_most Queues controllers queues h = All-weaker (λ queue. queue.controller ≡ 0) (λ queue. queue.controller < most_controllers) (λ queue is. omega arith) queues h.1
below_most Classes controllers queues h =
    All-weaker (λ queue. queue.controller < controllers) (λ queue. queue.controller < most_controllers) (λ queue less. let few = h.0.1 in omega arith) queues h.1
below_most Controllers controllers queues h =
    All-weaker (λ queue. queue.controller < controllers) (λ queue. queue.controller < most_controllers) (λ queue less. let few = h.0.1 in omega arith) queues h.1

-- and so is that of the queue of a number
pub below : (limits : HelperLimits) (controllers : ℕ) (firsts : List (List ℕ)) (given : List Given) (k : ℕ) (queue : Given) → k < length given → queue ≡ slice_index_or given k queue
    → KeepsConfig limits controllers firsts given → queue.controller < most_controllers
below limits controllers firsts given k queue inside is h =
    let each : All (λ queue. queue.controller < most_controllers) (map queue_of given) = below_most limits.helpers controllers (map queue_of given) h.lawful.under in
    let all : All (λ queue. queue.controller < most_controllers) given = All-unmap (λ queue. queue.controller < most_controllers) queue_of given each in
    subst (λ (q : Given). q.controller < most_controllers) (sym is) (All-get_or (λ queue. queue.controller < most_controllers) given k queue inside all)

-- queues without controllers, and with them
pub alone : (queues : List (ℕ × Arc Accepted Global)) → AreUnder Queues 0 (map queue_of (map alone_of queues))
alone queues = (refl, All-map (λ queue. queue.controller ≡ 0) queue_of (map alone_of queues) (All-map (λ queue. queue.controller ≡ 0) alone_of queues (λ _ _ _. refl)))

-- the same of those whose CCBs have a class
pub under_classes : (controllers : ℕ) (queues : List (ℕ × ℕ × Arc Accepted Global)) → (1 ≤ controllers) × (controllers ≤ most_controllers)
    → All (λ queue. (under_of queue).controller < controllers) queues → AreUnder Classes controllers (map queue_of (map under_of queues))
under_classes controllers queues number each =
    (number, All-map (λ queue. queue.controller < controllers) queue_of (map under_of queues) (All-map (λ queue. queue.controller < controllers) under_of queues each))

pub classes_there : (controllers : ℕ) (queues : List (ℕ × ℕ × Arc Accepted Global)) → AreUnder Classes controllers (map queue_of (map under_of queues))
    → ((1 ≤ controllers) × (controllers ≤ most_controllers)) × All (λ queue. (under_of queue).controller < controllers) queues
classes_there controllers queues h =
    (h.0, All-unmap (λ given. given.controller < controllers) under_of queues (All-unmap (λ queue. queue.controller < controllers) queue_of (map under_of queues) h.1))

pub under : (controllers : ℕ) (queues : List (ℕ × ℕ × Arc Accepted Global)) → (1 ≤ controllers) × (controllers ≤ most_controllers)
    → All (λ queue. (under_of queue).controller < controllers) queues → AreUnder Controllers controllers (map queue_of (map under_of queues))
under controllers queues number each =
    (number, All-map (λ queue. queue.controller < controllers) queue_of (map under_of queues) (All-map (λ queue. queue.controller < controllers) under_of queues each))

pub under_there : (controllers : ℕ) (queues : List (ℕ × ℕ × Arc Accepted Global)) → AreUnder Controllers controllers (map queue_of (map under_of queues))
    → ((1 ≤ controllers) × (controllers ≤ most_controllers)) × All (λ queue. (under_of queue).controller < controllers) queues
under_there controllers queues h =
    (h.0, All-unmap (λ given. given.controller < controllers) under_of queues (All-unmap (λ queue. queue.controller < controllers) queue_of (map under_of queues) h.1))
