use Rattle.trace_lines.proofs.HelperRows.{helper_rows_own}
use Rattle.trace_lines.proofs.Rows.{rows_own}
use Rattle.trace_lines.proofs.laws.rows_are_their_own.Goals as goal

pub returns : goal.returns
returns c = record { words = rows_own; helpers = helper_rows_own }
