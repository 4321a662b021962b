-- A program of the setup's queues, by its place.
use Rattle.std.proofs.Common.{◌≡◌, ℕ, ◌<◌, List, length, map, get_or, ap, sym, ◌∙◌, arith}
use Rattle.std.specs.Arc.{arc_value}
use Rattle.std.specs.Global.{Global}
use Rattle.std.specs.declared.sync.Arc.{Arc}
use Rattle.std.proofs.lemmas.List.{get_or-map, length-map}
use Rattle.bpf_accepted.specs.declared.accepted.Accepted.{Accepted}
use Rattle.world.specs.World.{QueueSetup, Setup, no_queue, queue_setup}
use Rattle.engine_config.specs.Configured.{AreProgramsOf}

-- two lists that are read off alike are so at each place
alike : {X Y Z : Type 0} (f : X → Z) (g : Y → Z) (xs : List X) (ys : List Y) (k : ℕ) (x : X) (d : Y) → map f xs ≡ map g ys → k < length xs → x ≡ get_or xs k x → f x ≡ g (get_or ys k d)
alike f g xs ys k x d same within is =
    let there : k < length ys = omega (arith, within, length-map xs f, ap length same, length-map ys g) in
    ap f is ∙ (sym (get_or-map f xs k x (g d) within) ∙ (ap (λ zs. get_or zs k (g d)) same ∙ get_or-map g ys k d (g d) there))

pub program_there : (setup : Setup) (programs : List (Arc Accepted Global)) (place : ℕ) (program : Arc Accepted Global) → AreProgramsOf setup programs → place < length programs → program ≡ get_or programs place program → (arc_value program).program ≡ (queue_setup setup place).program
program_there setup programs place program are within is =
    alike (λ (p : Arc Accepted Global). (arc_value p).program) (λ (q : QueueSetup). q.program) programs setup.queues place program no_queue are within is
