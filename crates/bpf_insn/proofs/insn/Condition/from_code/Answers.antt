-- What is found is the only condition of its code, and has it.
use Rattle.bpf_insn.proofs.FoundRows.{found_condition_of_code, only_condition_of_code}
use Rattle.bpf_insn.proofs.insn.Condition.from_code.Goals as goal

pub returns-clause-found : goal.returns-clause-found
returns-clause-found c = found_condition_of_code c.args.code _ c.first_of_code.ensures

pub returns-clause-only : goal.returns-clause-only
returns-clause-only c = only_condition_of_code c.args.code _ c.first_of_code.ensures
