-- What a list in chunks keeps: each chunk before the last one is full, and a spare chunk has room for itself and its values.
use Rattle.std.specs.Prelude.{◌≡◌, ℕ, ◌+◌, ◌-◌, ◌*◌, ◌<◌, ◌≤◌, List, [], ◌++◌, drop, length, All, Option, Some, None, IfSome, vec_capacity}
use Rattle.std.specs.declared.vec.Vec.{Vec}
use Rattle.std.specs.declared.alloc.Global.{Global}
use Rattle.base_chunked_list.specs.declared.chunked_list.TheConstants.{CHUNK, MOST_FULL}
use Rattle.base_chunked_list.specs.ChunkedState.{ChunkedState}
use Rattle.base_chunked_list.specs.Chunks.{items_of}

module _ {T : Type 0} where
  abbrev pub AreFull : List (Vec T Global) → Type 0
  AreFull chunks = All (λ chunk. length chunk.items ≡ CHUNK) chunks

  -- a chunk without values, after these
  pub record IsSpare (full : Vec (Vec T Global) Global) (chunk : Vec T Global) : Type 0 where
    pub empty : chunk.items ≡ []
    pub room : CHUNK ≤ vec_capacity chunk
    pub place : length full.items < vec_capacity full
    pub few : length full.items < MOST_FULL

  abbrev pub spare_room : Option (Vec T Global) → ℕ
  spare_room None = 0
  spare_room (Some chunk) = CHUNK

  abbrev pub seen : List (Vec T Global) → List T → Option (Vec T Global) → ChunkedState T
  seen full last spare = record { items = items_of full ++ last; capacity = (length full + 1) * CHUNK + spare_room spare }

  -- without so many values at the front
  abbrev pub seen_from : ℕ → List (Vec T Global) → List T → Option (Vec T Global) → ChunkedState T
  seen_from gone full last spare = record { items = drop gone (seen full last spare).items; capacity = (seen full last spare).capacity - gone }

  pub record KeepsChunks (chunks : Vec (Vec T Global) Global) (newest : Vec T Global) (extra : Option (Vec T Global)) : Type 0 where
    pub full : AreFull chunks.items
    pub few : length chunks.items ≤ MOST_FULL
    pub within : length newest.items ≤ CHUNK
    pub room : CHUNK ≤ vec_capacity newest
    pub spare : IfSome extra (IsSpare chunks)

  -- the first so many values are forgotten, which are fewer than a chunk has
  pub record KeepsFrom (gone : ℕ) (whole : Vec (Vec T Global) Global) (newest : Vec T Global) (extra : Option (Vec T Global)) : Type 0 where
    pub chunks : KeepsChunks whole newest extra
    pub all : gone ≤ length (items_of whole.items ++ newest.items)
    pub first : gone < CHUNK
