use Rattle.std.proofs.Common.{List, None, subst, sym}
use Rattle.bpf_semantics.specs.Step.{held_without}
use Rattle.check_register_kinds.specs.declared.held.HeldFreeze.{HeldFreeze}
use Rattle.check_description.specs.Description.{DescribesWith}
use Rattle.check_register_kinds.specs.Freezes.{renumbered}
use Rattle.check_description.proofs.Giving.{given_up_described}
use Rattle.check_description.proofs.description.Description.give_up.Goals as goal

pub returns-clause-kept : goal.returns-clause-kept
returns-clause-kept c = λ numbers callers number m is its has.
    let d = c.args.self.now in
    let registers = c.give_up_copies.new.registers in
    let spills = c.give_up.new.self in
    subst (λ (held : List HeldFreeze). DescribesWith (renumbered numbers c.args.name None) callers (record d { registers = registers; spills = spills; held = held }) (record m { held = held_without m.held number })) (sym c.without-self.ensures)
    (given_up_described numbers callers d registers spills m c.args.name number c.args.copies is its has c.give_up_copies.ensures c.give_up.ensures.each)
