use Rattle.std.proofs.Common.{◌<◌, arith, take}
use Rattle.stack_domain.specs.declared.numbers.StackNumber.{StackNumber}
use Rattle.stack_domain.proofs.Standing.{all_stand, stands_closed}
use Rattle.stack_domain.proofs.slots.close.Goals as goal

pub returns-clause-closed : goal.returns-clause-closed
returns-clause-closed c = λ frames are.
    all_stand frames (take c.args.live frames) c.args.slots.now c.loop-slot.slots (λ (kept : StackNumber). kept.place.frame < c.args.live) c.loop-slot.invariant.count
    (λ j few. c.loop-slot.invariant.done j (omega (arith, few, c.loop-slot-test.false)))
    (λ kept live. stands_closed frames c.args.live kept.place kept.number live) are
