use Rattle.std.proofs.Common.{[], arith}
use Rattle.engine_transport.proofs.Opened.{kept_opened, openings_are}
use Rattle.engine_transport.proofs.transport.Transport.with_room.Goals as goal

pub invariant_of-result : goal.invariant_of-result
invariant_of-result c =
    kept_opened c.in_ok-with_room.field-0 c.in_ok-queues_of.field-0 c.in_ok-with_room-2.field-0 c.args.openings.now _ c.in_ok-with_room.ensures c.in_ok-queues_of.ensures c.in_ok-with_room-2.ensures (omega (arith, c.type_inv.openings, c.requires.few)) c.requires.few

pub returns : goal.returns
returns c = rw (c.in_ok-with_room.ensures, c.in_ok-queues_of.ensures, c.in_ok-with_room-2.ensures) (λ i. record { live = []; openings = openings_are c.args.openings.now i; freezes = []; greatest_ccb = 0; greatest_freeze = 0; clock = 0 })
