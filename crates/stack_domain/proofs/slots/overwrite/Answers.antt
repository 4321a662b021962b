use Rattle.std.proofs.Common.{arith}
use Rattle.stack_domain.specs.declared.numbers.StackNumber.{StackNumber}
use Rattle.stack_domain.specs.Numbers.{IsApart}
use Rattle.stack_domain.specs.Stores.{stored}
use Rattle.stack_domain.proofs.Standing.{all_stand, stands_apart}
use Rattle.stack_domain.proofs.slots.overwrite.Goals as goal

pub returns-clause-stored : goal.returns-clause-stored
returns-clause-stored c = λ frames offset bytes are inside above below.
    all_stand frames (stored frames c.args.frame offset bytes) c.args.slots.now c.loop-slot.slots (λ (kept : StackNumber). IsApart kept.place c.args.frame c.args.from c.args.end) c.loop-slot.invariant.count
    (λ j few. c.loop-slot.invariant.done j (omega (arith, few, c.loop-slot-test.false)))
    (λ kept apart. stands_apart frames c.args.frame offset c.args.from c.args.end bytes inside above below kept.place kept.number apart) are

pub returns-clause-fewer : goal.returns-clause-fewer
returns-clause-fewer c = λ frames are.
    all_stand frames frames c.args.slots.now c.loop-slot.slots (λ (kept : StackNumber). IsApart kept.place c.args.frame c.args.from c.args.end) c.loop-slot.invariant.count
    (λ j few. c.loop-slot.invariant.done j (omega (arith, few, c.loop-slot-test.false))) (λ kept apart stands. stands) are
