-- What stands in a list of no value, and of one.
use Rattle.std.proofs.Common.{◌≡◌, ◌∙◌, List, [], ◌∷◌, get_or, length, arith, zero, suc}
use Rattle.std.specs.List.{Contains}

pub none_there : {X : Type 0} (xs : List X) (x : X) → length xs ≡ 0 → Contains xs x → ⊥
none_there [] x none (k, lt, is) = omega (arith, lt)
none_there (y ∷ ys) x none there = omega (arith, none)

pub only_one : {X : Type 0} (xs : List X) (a x : X) → length xs ≡ 1 → a ≡ get_or xs 0 a → Contains xs x → a ≡ x
only_one [] a x one first there = absurd (omega (arith, one))
only_one (y ∷ []) a x one first (zero, lt, is) = first ∙ is
only_one (y ∷ []) a x one first (suc k, lt, is) = absurd (omega (arith, lt))
only_one (y ∷ z ∷ zs) a x one first there = absurd (omega (arith, one))
