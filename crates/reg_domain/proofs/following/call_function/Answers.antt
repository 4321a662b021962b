use Rattle.std.proofs.Common.{rules}
use Rattle.std.specs.Int.{w32}
use Rattle.std.proofs.lemmas.Int.{to_z-of_z}
use Rattle.check_register_kinds.specs.declared.freeze_name.FreezeName.TheVariants as names
use Rattle.reg_domain.proofs.Ways.{call_follows, call_leaves, call_never_stuck}
use Rattle.reg_domain.proofs.following.call_function.Goals as goal

pub returns-clause-unstuck : goal.returns-clause-unstuck
returns-clause-unstuck c = rw c.in-Helper.is (call_never_stuck c.call.result c.args.limits.now c.args.callers.now c.args.description.now c.in-Helper.number (rw (to_z-of_z w32 c.in-Helper.number (search rules)) at c.call.ensures.unstuck))

pub returns-clause-follows : goal.returns-clause-follows
returns-clause-follows c = rw c.in-Helper.is (call_follows c.call.result c.args.callers.now c.args.description.now c.call.new.description c.in-Helper.number (rw (to_z-of_z w32 c.in-Helper.number (search rules)) at c.call.ensures.follows))

pub returns-clause-leaves : goal.returns-clause-leaves
returns-clause-leaves c = rw c.in-Helper.is (call_leaves c.call.result c.args.limits.now c.args.callers.now c.args.description.now c.call.new.description (names.Call c.args.place) c.in-Helper.number (rw (to_z-of_z w32 c.in-Helper.number (search rules)) at c.call.ensures.leaves))
