use Rattle.trace_lines.proofs.Putting.{front_behind}
use Rattle.trace_lines.proofs.lines.print_line.Goals as goal

pub returns-clause-front : goal.returns-clause-front
returns-clause-front c = front_behind c.print_fields.result c.args.text.now _ c.put.new.self c.print_fields.new.text c.put.ensures c.print_fields.ensures.front
