-- A set of the bytes of a stack frame: a truth value for each of the 512, in their order.
use Rattle.std.specs.Prelude.{◌≡◌, ℕ, ◌+◌, ◌≤◌, ◌<◌, Bool, true, false, List, ◌++◌, take, drop, replicate, slice_index_or}

-- no byte
unfoldable pub no_bytes : List Bool
no_bytes = replicate 512 false

-- the byte at that offset is in the set
abbrev pub Has : List Bool → ℕ → Type 0
Has set offset = slice_index_or set offset false ≡ true

-- so many bytes from an offset on are in the set
abbrev pub HasAll : List Bool → ℕ → ℕ → Type 0
HasAll set offset count = (k : ℕ) → offset ≤ k → k < offset + count → Has set k

-- the set with so many bytes from an offset on
unfoldable pub with_all : List Bool → ℕ → ℕ → List Bool
with_all set offset count = take offset set ++ replicate count true ++ drop (offset + count) set
