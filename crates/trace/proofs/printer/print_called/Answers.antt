use Rattle.trace_lines.proofs.Putting.{front_behind, front_put}
use Rattle.trace.proofs.printer.print_called.Goals as goal

pub returns-clause-front : goal.returns-clause-front
returns-clause-front c =
    front_put c.print_answer.result _ c.args.text.now c.print_line.new.text c.print_answer.new.text c.in_ok-print_line.ensures.text
    (front_behind c.print_answer.result c.print_line.new.text _ c.put.new.self c.print_answer.new.text c.put.ensures c.print_answer.ensures.front)
