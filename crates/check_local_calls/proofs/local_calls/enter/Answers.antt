use Rattle.check_local_calls.proofs.LocalCalls.{enter_unstuck, entered_described, entered_known}
use Rattle.check_local_calls.proofs.local_calls.enter.Goals as goal

pub returns-clause-unstuck : goal.returns-clause-unstuck
returns-clause-unstuck c = enter_unstuck c.args.description.now c.requires.room

pub returns-clause-enters : goal.returns-clause-enters
returns-clause-enters c =
    entered_described c.args.description.now c.entered_registers-description.result c.opened-description.result c.pointer_to-pointer.result c.saved-saved.result c.requires.room
    c.entered_registers-description.ensures (rw c.depth.ensures.frames at c.pointer_to-pointer.ensures)
    (λ frames frame both. (c.opened-description.ensures.covers frames frame).1 both) c.saved-saved.ensures.saves

pub returns-clause-known : goal.returns-clause-known
returns-clause-known c =
    entered_known c.args.description.now c.entered_registers-description.result c.opened-description.result c.pointer_to-pointer.result c.saved-saved.result c.entered_registers-description.ensures
    (rw c.depth.ensures.frames at c.pointer_to-pointer.ensures) c.opened-description.ensures.depth
    (λ frames frame now. (c.opened-description.ensures.covers frames frame).0 now) c.saved-saved.ensures.kinds c.saved-saved.ensures.copies
