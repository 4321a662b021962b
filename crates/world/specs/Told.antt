-- What the history tells of a helper call: which helper is called, and, by what its row tells, no more, the bytes that the
-- call names, or the code in its first argument.
use Rattle.std.specs.Prelude.{ℕ, ◌==◌, ◌&&◌, Bool, false, List, bytes_eq}
use Rattle.helpers.specs.declared.table.Helper.{Helper}
use Rattle.helpers.specs.declared.columns.Tells.{Tells}
use Rattle.helpers.specs.declared.columns.Tells.TheVariants as tells
use Rattle.helpers.specs.declared.request.Request.{Request}
use Rattle.helpers.specs.Table.{row_of, is_helper}

pub data Told : Type 0 where
  -- a call of this helper, and no more
  plain : Helper → Told
  -- a call of this helper, which puts these bytes into the history
  traces : Helper → List ℕ → Told
  -- a call of this helper, which finishes the CCB with this code
  finishes : Helper → ℕ → Told

-- what is told of a call, by what its helper tells
abbrev pub told_by : Tells → Request → Told
told_by tells.Name request = plain request.helper
told_by tells.Bytes request = traces request.helper request.bytes
told_by tells.Code request = finishes request.helper request.arguments.first

abbrev pub told_of : Request → Told
told_of request = told_by (row_of request.helper).tells request

-- the helper that is called
abbrev pub helper_in : Told → Helper
helper_in (plain helper) = helper
helper_in (traces helper bytes) = helper
helper_in (finishes helper code) = helper

-- both tell the same
abbrev pub is_told : Told → Told → Bool
is_told (plain a) (plain b) = is_helper a b
is_told (plain a) (traces b those) = false
is_told (plain a) (finishes b that) = false
is_told (traces a these) (plain b) = false
is_told (traces a these) (traces b those) = is_helper a b && bytes_eq these those
is_told (traces a these) (finishes b that) = false
is_told (finishes a this) (plain b) = false
is_told (finishes a this) (traces b those) = false
is_told (finishes a this) (finishes b that) = is_helper a b && this == that
