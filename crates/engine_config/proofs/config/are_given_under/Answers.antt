use Rattle.std.proofs.Common.{◌<◌, ◌≤◌, length, refl, subst, rules}
use Rattle.std.proofs.lemmas.List.{take_all}
use Rattle.std.proofs.lemmas.List.Elements.{All-more}
use Rattle.engine_config.specs.Configured.{Given, IsGivenUnder, IsKnown, queue_seen, queues_of}
use Rattle.engine_config.proofs.config.are_given_under.Goals as goal

pub loop-number-preserved : goal.loop-number-preserved
loop-number-preserved c =
    let P : Given → Type 0 = λ queue. IsGivenUnder c.args.limits.now queue × IsKnown queue in
    let here : P (queue_seen c.queue-queue.result) = (c.is_given_under.ensures.given.0 c.if-not-is_given_under.false, c.is_given_under.ensures.known) in
    let inside : c.loop-number.number < length (queues_of c.args.queues.now) = search rules in
    All-more P (queues_of c.args.queues.now) c.loop-number.number (queue_seen c.queue-queue.result) inside c.loop-number.invariant (subst P c.queue-queue.ensures here)

pub returns-clause-given : goal.returns-clause-given
returns-clause-given c =
    let long : length (queues_of c.args.queues.now) ≤ c.loop-number.number = search rules in
    let each = rw take_all at c.loop-number.invariant in
    (λ _ k d lt. (each k d lt).0, λ _. refl)

pub returns-clause-known : goal.returns-clause-known
returns-clause-known c =
    let long : length (queues_of c.args.queues.now) ≤ c.loop-number.number = search rules in
    let each = rw take_all at c.loop-number.invariant in
    λ _ k d lt. (each k d lt).1
