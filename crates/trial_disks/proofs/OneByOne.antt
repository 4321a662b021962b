-- Values that are read one after another.
use Rattle.std.proofs.Common.{◌≡◌, ℕ, ◌+◌, ◌<◌, List, [], ◌∷◌, ◌++◌, length, get_or, take, map}
use Rattle.std.specs.List.{AllZip}
use Rattle.std.proofs.lemmas.List.{take_more, map-append}
use Rattle.toml.specs.Data.{Data}
use Rattle.toml.specs.declared.value.Value.{Value}
use Rattle.toml.specs.View.{view}

zip_push : {X Y : Type 0} (R : X → Y → Type 0) (xs : List X) (ys : List Y) (x : X) (y : Y) → AllZip R xs ys → R x y → AllZip R (xs ++ x ∷ []) (ys ++ y ∷ [])
zip_push R [] [] x y h here = (here, h)
zip_push R [] (b ∷ ys) x y h here = absurd h
zip_push R (a ∷ xs) [] x y h here = absurd h
zip_push R (a ∷ xs) (b ∷ ys) x y h here = (h.0, zip_push R xs ys x y h.1 here)

-- one more is read
pub one_more : {Y : Type 0} (R : Data → Y → Type 0) (values : List Value) (place : ℕ) (value : Value) (read new : List Y) (y : Y)
    → place < length values → value ≡ get_or values place value → new ≡ read ++ y ∷ [] → R (view value) y
    → AllZip R (map view (take place values)) read → AllZip R (map view (take (place + 1) values)) new
one_more R values place value read new y within is longer here before =
    rw (longer, take_more values place value within, ← is, map-append) (zip_push R _ _ (view value) y before here)
