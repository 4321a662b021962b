-- What is found is the only condition of its name, and has it.
use Rattle.bpf_insn.proofs.FoundRows.{found_condition_of_name, only_condition_of_name}
use Rattle.bpf_insn.proofs.insn.Condition.from_name.Goals as goal

pub returns-clause-found : goal.returns-clause-found
returns-clause-found c = found_condition_of_name c.args.width c.args.word.now _ c.first_of_name.ensures

pub returns-clause-only : goal.returns-clause-only
returns-clause-only c = only_condition_of_name c.args.width c.args.word.now _ c.first_of_name.ensures
