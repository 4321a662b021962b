-- What the columns of a row say together, in each row of the table.
use Rattle.std.proofs.Common.{◌≡◌, ◌≤◌, ℕ, Some, refl, rules, arith}
use Rattle.helpers.specs.declared.table.Helper.{Helper}
use Rattle.helpers.specs.declared.columns.ArgKind.TheVariants.{HeldFreeze, Within, Room as RoomOf, Bytes as BytesAt}
use Rattle.helpers.specs.declared.columns.Needs.TheVariants as needs
use Rattle.helpers.specs.declared.columns.Gives.{Gives}
use Rattle.helpers.specs.declared.columns.Gives.TheVariants.{Number, NewFreeze}
use Rattle.helpers.specs.declared.columns.Change.{Change}
use Rattle.helpers.specs.declared.columns.Change.TheVariants as changes
use Rattle.helpers.specs.declared.columns.Tells.{Tells}
use Rattle.helpers.specs.declared.columns.Tells.TheVariants as tells
use Rattle.helpers.specs.declared.table.Row.{Row}
use Rattle.helpers.specs.Table.{row_of}

-- a number of some range is answered
abbrev pub IsRange : Gives → Type 0
IsRange (Number least most) = least ≤ most
IsRange NewFreeze = ⊥

-- What a change of the machine wants of the other columns: a freeze that is held is the one that is answered, and there is
-- room for it; one that is given up is one that the run holds; a CCB is disposed of once; and what is written has room.
abbrev pub Wants : Change → Row → Type 0
Wants changes.Nothing row = IsRange row.gives
Wants changes.Holds row = (row.gives ≡ NewFreeze) × (row.needs ≡ needs.Room)
Wants changes.GivesUp row = IsRange row.gives × (row.asks.first ≡ Some HeldFreeze)
Wants changes.Disposes row = IsRange row.gives × (row.needs ≡ needs.Undisposed)
Wants (changes.Writes bytes) row = IsRange row.gives × (row.asks.first ≡ Some (RoomOf bytes)) × (bytes ≡ 16)

pub wanted : (name : Helper) → Wants (row_of name).machine (row_of name)
unfolding row_of
wanted name = search rules

-- what is told wants arguments that say it: bytes that can be read, and a code of six bits
abbrev pub TellsOf : Tells → Row → Type 0
TellsOf tells.Name row = Unit {0}
TellsOf tells.Bytes row = (row.asks.first ≡ Some BytesAt) × (row.asks.second ≡ Some (Within 1 64))
TellsOf tells.Code row = row.asks.first ≡ Some (Within 0 63)

pub told : (name : Helper) → TellsOf (row_of name).tells (row_of name)
unfolding row_of
told name = search rules
