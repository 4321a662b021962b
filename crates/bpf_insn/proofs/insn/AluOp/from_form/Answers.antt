-- What is found is the only operation of its row, and has it.
use Rattle.std.proofs.Common.{rules, ◌≡◌}
use Rattle.bpf_insn.specs.Operations.{alu_of_form}
use Rattle.bpf_insn.proofs.FoundRows.{found_op_of_form, only_op_of_form}
use Rattle.bpf_insn.proofs.insn.AluOp.from_form.Goals as goal

pub returns-clause-found : goal.returns-clause-found
returns-clause-found c =
    let is : c.first_of_form.result ≡ alu_of_form c.args.code c.args.offset = search rules in
    found_op_of_form c.args.code c.args.offset _ is

pub returns-clause-only : goal.returns-clause-only
returns-clause-only c =
    let is : c.first_of_form.result ≡ alu_of_form c.args.code c.args.offset = search rules in
    only_op_of_form c.args.code c.args.offset _ is
