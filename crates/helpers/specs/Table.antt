-- The table of the helper functions, by its rows: the number of each is its row's place, from 1.
use Rattle.std.specs.Prelude.{ℕ, ℤ, pos, ◌+◌, ◌==◌, nat_le, Bool, true, false, Option, Some, None, List, [], length, find, slice_index_or}
use Rattle.std.specs.Option.{option_map}
use Rattle.std.specs.Ordering.{int_eq}
use Rattle.helpers.specs.declared.table.Helper.{Helper}
use Rattle.helpers.specs.declared.table.Helper.TheVariants as helpers
use Rattle.helpers.specs.contracts.table.Helper as helper
use Rattle.helpers.specs.declared.columns.ArgKind.{ArgKind}
use Rattle.helpers.specs.declared.columns.Asks.{Asks}
use Rattle.helpers.specs.declared.columns.Needs.TheVariants as needs
use Rattle.helpers.specs.declared.columns.Gives.TheVariants.{Number}
use Rattle.helpers.specs.declared.columns.Change.TheVariants as changes
use Rattle.helpers.specs.declared.columns.Tells.TheVariants as tells
use Rattle.helpers.specs.declared.table.HelperEffect.TheVariants as effects
use Rattle.helpers.specs.declared.table.Row.{Row}
use Rattle.helpers.specs.declared.table.TheConstants.{CLASS_HELPERS, CONTROLLER_HELPERS, HELPERS, QUEUE_HELPERS}
use Rattle.helpers.specs.declared.limits.HelperLimits.{HelperLimits}
use Rattle.helpers.specs.declared.limits.HelperSet.{HelperSet}
use Rattle.helpers.specs.declared.limits.HelperSet.TheVariants.{Classes, Controllers, Queues}
use Rattle.helpers.specs.declared.request.Arguments.{Arguments}
use Rattle.helpers.specs.declared.request.Request.{Request}
use Rattle.helpers.specs.declared.request.Answer.{Answer}
use denote.Enum.Declared.{tag_of}

abbrev pub number_of : Helper → ℕ
number_of name = tag_of helper.the_type name + 1

-- the row of no helper
abbrev pub no_row : Row
no_row = record {
  helper = helpers.Now;
  asks = record { first = None; second = None; third = None };
  needs = needs.Nothing;
  gives = Number 0 0;
  machine = changes.Nothing;
  tells = tells.Name;
  effect = effects.Nothing;
}

-- the row of a helper
unfoldable pub row_of : Helper → Row
row_of name = slice_index_or HELPERS (tag_of helper.the_type name) no_row

abbrev pub asks : Helper → Asks
asks name = (row_of name).asks

abbrev pub counted : Option ArgKind → ℕ
counted (Some asked) = 1
counted None = 0

-- how many arguments a helper takes
abbrev pub arity : Helper → ℕ
arity name = counted (asks name).first + counted (asks name).second + counted (asks name).third

-- the helper of a number, if there is one
abbrev pub helper_of : ℤ → Option Helper
helper_of number = option_map (λ row. row.helper) (find (λ row. int_eq (pos (number_of row.helper)) number) HELPERS)

-- how many helpers there are: where what freezes is a queue, where it may be a controller, and where CCBs have a class and an advice, too
abbrev pub helper_count : HelperSet → ℕ
helper_count Queues = QUEUE_HELPERS
helper_count Controllers = CONTROLLER_HELPERS
helper_count Classes = CLASS_HELPERS

-- CCBs have a class and an advice
abbrev pub are_classed : HelperSet → Bool
are_classed Queues = false
are_classed Controllers = false
are_classed Classes = true

-- the helper is one of those
abbrev pub is_there : HelperSet → Helper → Bool
is_there set helper = nat_le (number_of helper) (helper_count set)

-- the limits of a transport with so many queues and tables of these lengths
abbrev pub of_queues : ℕ → List ℕ → HelperLimits
of_queues queues table_lengths = record { helpers = Queues; queues = queues; table_lengths = table_lengths }

-- both are one helper
abbrev pub is_helper : Helper → Helper → Bool
is_helper a b = number_of a == number_of b

-- a call with these arguments, of a helper that names no bytes
abbrev pub asking : Helper → ℕ → ℕ → ℕ → Request
asking name first second third = record { helper = name; arguments = record { first = first; second = second; third = third }; bytes = [] }

-- and one that names these bytes, from an address on
abbrev pub telling : Helper → ℕ → List ℕ → Request
telling name address bytes = record { helper = name; arguments = record { first = address; second = length bytes; third = 0 }; bytes = bytes }

-- an answer that is a number alone
abbrev pub answer_number : ℕ → Answer
answer_number r0 = record { r0 = r0; written = None }
