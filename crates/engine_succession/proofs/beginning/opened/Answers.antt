use Rattle.std.proofs.Common.{◌≡◌, ◌∙◌, ℕ, List, [], map, take, ap, subst, arith}
use Rattle.std.proofs.lemmas.List.{take_all}
use Rattle.world.specs.World.{QueueSetup}
use Rattle.engine_succession.proofs.beginning.opened.Goals as goal

-- at the end of the loop the openings of all queues are listed
pub returns-clause-transport : goal.returns-clause-transport
returns-clause-transport c =
    let queues : List QueueSetup = c.args.config.now.queues in
    let all : take c.loop-queue.queue queues ≡ queues = take_all c.loop-queue.queue queues (omega (arith, c.loop-queue-test.false, c.queues-queue-end.ensures.value)) in
    let listed : c.deref.result.now ≡ map (λ (queue : QueueSetup). queue.openings) queues = c.deref.ensures.value ∙ (c.loop-queue.invariant.0 ∙ ap (map (λ (queue : QueueSetup). queue.openings)) all) in
    subst (λ (openings : List ℕ). c.in_ok-transport.transport ≡ record { live = []; openings = openings; freezes = []; greatest_ccb = 0; greatest_freeze = 0; clock = 0 }) listed c.in_ok-transport.ensures
