-- How deep paths go from a place, by how deep they go from where control goes on.
use Rattle.std.specs.Prelude.{ℕ, ◌+◌, max, List, slice_index}
use Rattle.call_shape.specs.declared.onward.Onward.{Onward}
use Rattle.call_shape.specs.declared.onward.Onward.TheVariants.{Leaves, Continues, Branches, Enters}

abbrev pub depth_by : List ℕ → Onward → ℕ
depth_by depths Leaves = 1
depth_by depths (Continues next) = slice_index depths next
depth_by depths (Branches next other) = max (slice_index depths next) (slice_index depths other)
depth_by depths (Enters callee next) = max (slice_index depths next) (slice_index depths callee + 1)
