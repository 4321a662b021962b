use Rattle.std.proofs.lemmas.Result.{err_from_is_err_and}
use Rattle.trace_lines.specs.Lines.{fields_text, slot_text}
use Rattle.trace_lines.proofs.Putting.{front_past, front_put, puts_behind}
use Rattle.trace_lines.proofs.lines.print_fields.Goals as goal

pub returns-in_err-print_slot-3-clause-front : goal.returns-in_err-print_slot-3-clause-front
returns-in_err-print_slot-3-clause-front c =
    let p = err_from_is_err_and c.from_residual-in_err-print_slot-3.result c.from_residual-in_err-print_slot-3.ensures.1 in
    rw p.1 (front_past (slot_text c.args.fields.now.first c.args.held.now.first) c.args.text.now c.print_slot.new.text c.print_slot-3.new.text c.in_ok-print_slot.ensures.text
    (front_past (slot_text c.args.fields.now.second c.args.held.now.second) c.print_slot.new.text c.print_slot-2.new.text c.print_slot-3.new.text c.in_ok-print_slot-2.ensures.text
    c.in_err-print_slot-3.ensures.front))

pub returns-clause-text : goal.returns-clause-text
unfolding fields_text
returns-clause-text c =
    puts_behind c.print_slot-4.result (slot_text c.args.fields.now.first c.args.held.now.first) _ c.args.text.now c.print_slot.new.text c.print_slot-4.new.text c.in_ok-print_slot.ensures.text
    (puts_behind c.print_slot-4.result (slot_text c.args.fields.now.second c.args.held.now.second) _ c.print_slot.new.text c.print_slot-2.new.text c.print_slot-4.new.text c.in_ok-print_slot-2.ensures.text
    (puts_behind c.print_slot-4.result (slot_text c.args.fields.now.third c.args.held.now.third) (slot_text c.args.fields.now.fourth c.args.held.now.fourth) c.print_slot-2.new.text c.print_slot-3.new.text c.print_slot-4.new.text c.in_ok-print_slot-3.ensures.text
    c.print_slot-4.ensures.text))

pub returns-clause-front : goal.returns-clause-front
returns-clause-front c =
    front_put c.print_slot-4.result (slot_text c.args.fields.now.first c.args.held.now.first) c.args.text.now c.print_slot.new.text c.print_slot-4.new.text c.in_ok-print_slot.ensures.text
    (front_put c.print_slot-4.result (slot_text c.args.fields.now.second c.args.held.now.second) c.print_slot.new.text c.print_slot-2.new.text c.print_slot-4.new.text c.in_ok-print_slot-2.ensures.text
    (front_put c.print_slot-4.result (slot_text c.args.fields.now.third c.args.held.now.third) c.print_slot-2.new.text c.print_slot-3.new.text c.print_slot-4.new.text c.in_ok-print_slot-3.ensures.text
    c.print_slot-4.ensures.front))
