-- How long paths go on from a place, by how long they go on from where control goes on.
use Rattle.std.specs.Prelude.{ℕ, ◌+◌, max, List, slice_index}
use Rattle.call_shape.specs.declared.onward.Onward.{Onward}
use Rattle.call_shape.specs.declared.onward.Onward.TheVariants.{Leaves, Continues, Branches, Enters}

-- with the instruction itself
abbrev pub length_by : List ℕ → Onward → ℕ
length_by lengths Leaves = 1
length_by lengths (Continues next) = slice_index lengths next + 1
length_by lengths (Branches next other) = max (slice_index lengths next) (slice_index lengths other) + 1
length_by lengths (Enters callee next) = slice_index lengths callee + slice_index lengths next + 1
