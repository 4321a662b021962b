-- Each pass that is made keeps the rule.
use Rattle.std.proofs.Common.{ap, arith}
use Rattle.inbox.specs.Seats.{known}
use Rattle.inbox.proofs.Making.{opens, makes, room_to_make}
use Rattle.inbox.proofs.inbox.deal.Goals as goal

pub another-requires-clause-rule : goal.another-requires-clause-rule
another-requires-clause-rule g c = opens _ _ _ (ap (λ v. v.role) c.requires.seat.1)

pub another-seat-requires-clause-rule : goal.another-seat-requires-clause-rule
another-seat-requires-clause-rule g c =
    let knows = c.loop.invariant.knows in
    let shape = c.requires.shape.0 in
    makes _ (known c.loop.maker) (ap (λ v. v.role) knows) (room_to_make (known c.loop.maker) _ _ knows (omega (arith, ap (λ s. s.puts) shape, ap (λ s. s.takes) shape)))

pub another-seat-requires-in-loop-2-clause-rule : goal.another-seat-requires-in-loop-2-clause-rule
another-seat-requires-in-loop-2-clause-rule g c =
    let knows = c.loop-2.invariant.knows in
    let shape = c.requires.shape.0 in
    makes _ (known c.loop-2.maker) (ap (λ v. v.role) knows) (room_to_make (known c.loop-2.maker) _ _ knows (omega (arith, ap (λ s. s.puts) shape, ap (λ s. s.takes) shape)))
