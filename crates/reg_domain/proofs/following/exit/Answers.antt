use Rattle.std.proofs.Common.{◌≡◌, true, [], rules}
use Rattle.bpf_insn.specs.declared.reg.Reg.TheVariants.{R0}
use Rattle.check_description.specs.Description.{kind_at}
use Rattle.check_register_kinds.specs.Kinds.{IsNumber}
use Rattle.reg_domain.proofs.Ways.{exit_unstuck}
use Rattle.reg_domain.proofs.following.exit.Goals as goal

pub returns-then-is_number-clause-unstuck : goal.returns-then-is_number-clause-unstuck
returns-then-is_number-clause-unstuck c = λ limits.
    let d = c.args.description.now in
    let nothing : d.held ≡ [] = search rules in
    let disposed : d.disposed ≡ true = search rules in
    let number : IsNumber (kind_at d R0) = search rules in
    exit_unstuck limits d nothing disposed number
