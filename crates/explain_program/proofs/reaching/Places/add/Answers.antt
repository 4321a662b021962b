use Rattle.std.proofs.Common.{arith}
use Rattle.explain_program.proofs.Listed.{room, lists_more}
use Rattle.explain_program.proofs.reaching.Places.add.Goals as goal

pub offset_bounds-self-self : goal.offset_bounds-self-self
offset_bounds-self-self c = omega (arith, room c.args.self.now c.args.place c.requires c.if-place-lt-MAX_SLOTS.true c.if-not-self-place.true)

pub bounds-self-self : goal.bounds-self-self
bounds-self-self c = omega (arith, room c.args.self.now c.args.place c.requires c.if-place-lt-MAX_SLOTS.true c.if-not-self-place.true)

pub overflow_add-self : goal.overflow_add-self
overflow_add-self c = omega (arith, room c.args.self.now c.args.place c.requires c.if-place-lt-MAX_SLOTS.true c.if-not-self-place.true)

pub returns-then-not-self-place : goal.returns-then-not-self-place
returns-then-not-self-place c = lists_more c.args.self.now c.args.place c.requires c.if-place-lt-MAX_SLOTS.true c.if-not-self-place.true
