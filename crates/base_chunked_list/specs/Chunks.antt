-- Chunks of values, one after the other.
use Rattle.std.specs.Prelude.{◌<◌, List, All, length}
use Rattle.std.specs.List.{flat_map}
use Rattle.std.specs.declared.vec.Vec.{Vec}
use Rattle.std.specs.declared.alloc.Global.{Global}

module _ {T : Type 0} where
  abbrev pub items_of : List (Vec T Global) → List T
  items_of chunks = flat_map (λ chunk. chunk.items) chunks

  abbrev pub AreNotEmpty : List (Vec T Global) → Type 0
  AreNotEmpty chunks = All (λ chunk. 0 < length chunk.items) chunks
