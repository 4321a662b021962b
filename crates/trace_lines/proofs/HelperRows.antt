-- The row of a helper is its own.
use Rattle.std.proofs.Common.{◌≡◌, rules}
use Rattle.helpers.specs.Table.{row_of}
use Rattle.helpers.specs.declared.table.Helper.{Helper}

pub helper_rows_own : (name : Helper) → (row_of name).helper ≡ name
unfolding row_of
helper_rows_own name = search rules
