use Rattle.bpf_machine.proofs.SecondOperands.{second_sum}
use Rattle.bpf_machine.proofs.registers.Registers.second.Goals as goal

pub returns : goal.returns
returns c =
    rw (← c.source_word.ensures.word, ← c.constant_word.ensures)
    (second_sum c.source_word.result c.constant_word.result c.args.row.now.src c.args.row.now.constant c.source_word.type_inv c.constant_word.type_inv c.constant_word.ensures c.source_word.ensures.none)
