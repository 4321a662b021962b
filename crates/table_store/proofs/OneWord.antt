-- One word changed in a list of rows that are seen through f as lists of words.
use Rattle.std.proofs.Common.{◌≡◌, ℕ, ◌<◌, List, [], length, map, get_or, arith, ap, refl, sym, ◌∙◌, subst}
use Rattle.std.proofs.Math.ListN.{set, length-set}
use Rattle.std.proofs.Math.Seq.{map-set_same}
use Rattle.std.proofs.lemmas.List.{map-set, get_or-map, length-map}

-- the row, as it is seen
seen_row : {A : Type 0} (f : A → List ℕ) (rows : List A) (i : ℕ) (row : A) → i < length (map f rows) → row ≡ get_or rows i row → get_or (map f rows) i [] ≡ f row
seen_row f rows i row there is =
    let within : i < length rows = omega (arith, length-map rows f) in
    get_or-map f rows i row [] within ∙ ap f (sym is)

-- the rows, as they are seen after the change
changed : {A : Type 0} (f : A → List ℕ) (rows : List A) (i index value : ℕ) (row new : A) → i < length (map f rows) → row ≡ get_or rows i row → f new ≡ set (f row) index value → map f (set rows i new) ≡ set (map f rows) i (set (get_or (map f rows) i []) index value)
changed f rows i index value row new there is made =
    rw (map-set, made, seen_row f rows i row there is) refl

pub one_word : {A : Type 0} (f : A → List ℕ) (rows : List A) (seen : List (List ℕ)) (i index value : ℕ) (row new : A) → map f rows ≡ seen → i < length seen → row ≡ get_or rows i row → f new ≡ set (f row) index value → map f (set rows i new) ≡ set seen i (set (get_or seen i []) index value)
one_word {A} f rows seen i index value row new view there is made =
    let P : List (List ℕ) → Type 0 = λ xs. i < length xs → map f (set rows i new) ≡ set xs i (set (get_or xs i []) index value) in
    subst P view (λ within. changed f rows i index value row new within is made) there

-- the change leaves each row as long as it was
pub same_lengths : (seen new : List (List ℕ)) (i index value : ℕ) → new ≡ set seen i (set (get_or seen i []) index value) → map (λ row. length row) new ≡ map (λ row. length row) seen
same_lengths seen new i index value is =
    rw is (map-set_same (λ row. length row) seen i (set (get_or seen i []) index value) [] (length-set (get_or seen i []) index value))
