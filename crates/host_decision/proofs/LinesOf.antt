-- The lines of the openings, one after the other.
use Rattle.std.proofs.Common.{◌≡◌, ℕ, ◌+◌, ◌<◌, get_or, length, ap, sym, ◌∙◌, arith}
use Rattle.std.proofs.lemmas.List.{get_or-map, length-map}
use Rattle.world_calls.specs.declared.carried_line.CarriedLine.{CarriedLine}
use Rattle.world_calls.specs.declared.carried_line.CarriedLine.TheVariants as lines
use Rattle.world.specs.World.{QueueSetup, Setup, no_queue, queue_count, queue_setup}
use Rattle.engine_beginning.specs.Lines.{openings_from}
use Rattle.engine_carried.proofs.Adding.{openings_at, openings_length}
use Rattle.host_decision.specs.Asked.{openings_in}

pub openings_count : (config : Setup) → length (openings_from 0 (openings_in config)) ≡ queue_count config
openings_count config = openings_length 0 (openings_in config) ∙ length-map config.queues (λ (queue : QueueSetup). queue.openings)

pub openings_line : (config : Setup) (k value : ℕ) (d : CarriedLine) → k < queue_count config → value ≡ (queue_setup config k).openings
    → get_or (openings_from 0 (openings_in config)) k d ≡ lines.Openings k value
openings_line config k value d below is =
    openings_at 0 (openings_in config) k d (omega (arith, below, length-map config.queues (λ (queue : QueueSetup). queue.openings)))
    ∙ (ap (λ (o : ℕ). lines.Openings (0 + k) o) (get_or-map (λ (queue : QueueSetup). queue.openings) config.queues k no_queue 0 below ∙ sym is)
    ∙ ap (λ (q : ℕ). lines.Openings q value) (omega arith))
