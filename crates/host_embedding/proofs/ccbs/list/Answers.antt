use Rattle.std.proofs.Common.{length, inr, ap, arith, refl, rules}
use Rattle.ccb.specs.declared.ccb.Ccb.{Ccb}
use Rattle.host_embedding.proofs.Listing.{added, listed_so, is_later, is_sooner, room_full, skipped}
use Rattle.host_embedding.proofs.ccbs.list.Goals as goal
use Rattle.host_embedding.proofs.ccbs.list.Goals.{then-from-number+else-count-room, else-from-number}

pub returns-then-count-room : goal.returns-then-count-room
returns-then-count-room c =
    listed_so c.args.transport.now.live c.args.from c.args.numbers.now c.args.states.now c.loop-place.numbers c.loop-place.states c.loop-place.place c.loop-place.count c.loop-place.invariant
    (inr (room_full c.loop-place.count (length c.args.numbers.now) (length c.args.states.now)
    (omega (arith, c.if-count-room.true, c.min-room.ensures, c.loop-place.invariant.numbers_size, c.loop-place.invariant.states_size))))

pub loop-place-preserved : goal.loop-place-preserved
loop-place-preserved c =
    let live = c.args.transport.now.live in
    let number = ap (λ (ccb : Ccb). ccb.number.0) c.ccb-number.ensures in
    elim c.if-from-number.branch [
      | then-from-number+else-count-room w ↦ rw (w.numbers-is, w.states-is, w.count-is) (
          added live c.args.from c.args.numbers.now c.args.states.now c.loop-place.numbers c.loop-place.states w.put_at.new.numbers w.put_at-then-from-number.new.numbers
          c.loop-place.place c.loop-place.count c.ccb-number.result.number.0 w.state_number.result c.in-Some.live c.loop-place.invariant (c.in-Some.ensures.there.0 refl) c.in-Some.ensures.value
          (is_later c.args.from c.ccb-number.result.number.0 c.in-Some.live number w.if-from-number.true) number (search rules)
          (let room = c.min-room.ensures in let not_full = w.if-count-room.false in let one = c.loop-place.invariant.numbers_fit in let other = c.loop-place.invariant.states_fit in omega (arith, room, not_full, one, other))
          (let room = c.min-room.ensures in let not_full = w.if-count-room.false in let one = c.loop-place.invariant.numbers_fit in let other = c.loop-place.invariant.states_fit in omega (arith, room, not_full, one, other))
          w.put_at.ensures.front w.put_at.ensures.rest w.put_at.ensures.size
          w.put_at-then-from-number.ensures.front w.put_at-then-from-number.ensures.rest w.put_at-then-from-number.ensures.size
          )
      | else-from-number w ↦ rw (w.numbers-is, w.states-is, w.count-is) (
          skipped live c.args.from c.args.numbers.now c.args.states.now c.loop-place.numbers c.loop-place.states c.loop-place.place c.loop-place.count c.in-Some.live c.loop-place.invariant
          (c.in-Some.ensures.there.0 refl) c.in-Some.ensures.value (is_sooner c.args.from c.ccb-number.result.number.0 c.in-Some.live number w.if-from-number.false)
          )
    ]
