-- What a row says it is the row of: what of that is a law.
use Rattle.std.specs.Prelude.{◌≡◌}
use Rattle.helpers.specs.Table.{row_of as helper_row_of}
use Rattle.helpers.specs.declared.table.Helper.{Helper}
use Rattle.trace_lines.specs.Rows.{row_of}
use Rattle.trace_lines.specs.declared.word.Word.{Word}

abbrev pub EachWordHasItsRow : Type 0
EachWordHasItsRow = (word : Word) → (row_of word).word ≡ word

abbrev pub EachHelperHasItsRow : Type 0
EachHelperHasItsRow = (name : Helper) → (helper_row_of name).helper ≡ name
