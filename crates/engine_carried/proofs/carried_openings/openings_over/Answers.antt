use Rattle.std.proofs.Common.{◌≡◌, ◌∙◌, [], true, ap, sym, eqb, get_or}
use Rattle.std.proofs.lemmas.Bool.{cond-true, eq-eqb}
use Rattle.world.specs.declared.queue_info.QueueInfo.{QueueInfo}
use Rattle.world.specs.World.{World, queue_setup}
use Rattle.engine_carried.proofs.carried_openings.openings_over.Goals as goal

pub returns-then-openings-own : goal.returns-then-openings-own
returns-then-openings-own c =
    let world : World = record { transport = c.args.transport.now; runs = record { list = []; greatest = 0; tables = [] }; ended = [] } in
    let was = (queue_setup c.args.old.now c.args.queue).openings in
    let own = (queue_setup c.args.new.now c.args.queue).openings in
    let same : eqb was own ≡ true = eq-eqb was own (sym c.openings.ensures.value ∙ (c.if-openings-own.true ∙ c.openings-own.ensures.value)) in
    ap (λ (i : QueueInfo). i.openings) (c.queue_info.ensures world) ∙ sym (cond-true (eqb was own) (get_or c.args.transport.now.openings c.args.queue 0) own same)
