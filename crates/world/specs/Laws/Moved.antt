-- The law that private instructions move: where a run executes them, among the events of others, nobody can tell.
use Rattle.std.specs.Prelude.{◌≡◌, ℕ, ◌==◌, ◌||◌, Bool, true, false, not, List, ◌∷◌, ◌++◌}
use Rattle.std.specs.List.{list_all}
use Rattle.world_calls.specs.declared.call_answer.CallAnswer.TheVariants as answers
use Rattle.world.specs.World.{Setup, World}
use Rattle.world.specs.Event.{private, Event, executes, Reply, replies}
use Rattle.world.specs.WorldRun.{Leads}
use Rattle.world.specs.Laws.Headline.{is_own_of}

-- the reply tells that this run starts
abbrev pub is_start_of : ℕ → Reply → Bool
is_start_of run (replies (answers.Started number freeze)) = number == run
is_start_of run reply = false

-- the event is none of this run's: neither its start, nor a step, a park or a resume of it
abbrev pub is_of_another : ℕ → Event × Reply → Bool
is_of_another run x = not (is_own_of run x.0 || is_start_of run x.1)

-- A private instruction of a run may be moved past any events that are none of this run's, forward and back, in any list
-- of events from any world: each event keeps its reply, and the last world is the same.
abbrev pub Moved : Type 0
Moved =
    (setup : Setup) (run : ℕ) (reply : Reply) (xs ys zs : List (Event × Reply)) (before after : World) →
    list_all (is_of_another run) ys ≡ true →
    (Leads setup before (xs ++ (executes run private, reply) ∷ (ys ++ zs)) after →
    Leads setup before (xs ++ (ys ++ (executes run private, reply) ∷ zs)) after)
    × (Leads setup before (xs ++ (ys ++ (executes run private, reply) ∷ zs)) after →
    Leads setup before (xs ++ (executes run private, reply) ∷ (ys ++ zs)) after)
