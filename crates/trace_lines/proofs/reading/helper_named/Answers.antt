use Rattle.std.proofs.Common.{Some}
use Rattle.trace_lines.specs.Texts.{number_text}
use Rattle.trace_lines.specs.Written.{Reads}
use Rattle.trace_lines.proofs.Stops.{narrowed, helper_of_small, reads_helper}
use Rattle.trace_lines.proofs.reading.helper_named.Goals as goal

pub returns : goal.returns
returns c =
    let same = narrowed c.try_from.result c.in_ok-number.field-0 c.in_ok-number-2.number c.try_from.ensures c.in_ok-number-2.ensures.value in
    let named : Reads number_text c.args.name.now (Some c.in_ok-number-2.number) = rw same.0 c.in_ok-number.ensures in
    reads_helper c.args.name.now c.in_ok-number-2.number c.with_number.result named (helper_of_small c.with_number.result c.from.result c.in_ok-number-2.number c.from.ensures same.1 c.with_number.ensures)
