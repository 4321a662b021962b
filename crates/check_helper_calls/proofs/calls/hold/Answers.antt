use Rattle.std.proofs.Common.{List, subst, sym, Some}
use Rattle.bpf_semantics.specs.Step.{held_with}
use Rattle.check_register_kinds.specs.declared.held.HeldFreeze.{HeldFreeze}
use Rattle.check_description.specs.Description.{DescribesWith}
use Rattle.check_register_kinds.specs.Freezes.{renumbered}
use Rattle.check_helper_calls.proofs.Freezes.{taken_described}
use Rattle.check_helper_calls.proofs.calls.hold.Goals as goal

pub returns-clause-kept : goal.returns-clause-kept
returns-clause-kept c = λ numbers callers number m unsaved is new.
    let d = c.args.description.now in
    subst (λ (held : List HeldFreeze). DescribesWith (renumbered numbers c.args.name (Some number)) callers (record d { held = held }) (record m { held = held_with m.held number })) (sym c.push.ensures)
    (taken_described numbers callers d m c.args.name number is c.requires.fresh unsaved new)
