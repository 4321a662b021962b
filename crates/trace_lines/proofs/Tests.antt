-- Tests that hold together, what a search finds, and texts that are there.
use Rattle.std.proofs.Common.{◌≡◌, ◌&&◌, ◌++◌, ℕ, Bool, true, false, cond, Option, Some, None, List, [], ◌∷◌, bytes_eq, refl, sym, ap, ◌∙◌, rules}
use Rattle.std.specs.Prelude.{find}
use Rattle.std.proofs.lemmas.Slice.Eq.{bytes_eq-Decides}
use Rattle.std.specs.Fmt.{option_append}
use Rattle.trace_lines.specs.Texts.{where_true}

pub both : (a b : Bool) → (a && b) ≡ true → (a ≡ true) × (b ≡ true)
both true b h = (refl, h)
both false b h = absurd cc

pub three : (a b c : Bool) → (a && b && c) ≡ true → (a ≡ true) × (b ≡ true) × (c ≡ true)
three true true c h = (refl, refl, h)
three true false c h = absurd cc
three false b c h = absurd cc

pub same_bytes : (xs ys : List ℕ) → bytes_eq xs ys ≡ true → xs ≡ ys
same_bytes xs ys e = search (rules, bytes_eq-Decides xs ys)

first_passes : {T : Type 0} (p : T → Bool) (first x : T) (others : Option T) (test : Bool) → p first ≡ test → cond test (Some first) others ≡ Some x → (others ≡ Some x → p x ≡ true) → p x ≡ true
first_passes p first x others true is e more = let same : first ≡ x = cc in ap p (sym same) ∙ is
first_passes p first x others false is e more = more e

-- what a search finds passed its test
pub found_passes : {T : Type 0} (p : T → Bool) (xs : List T) (x : T) → find p xs ≡ Some x → p x ≡ true
found_passes p [] x e = absurd cc
found_passes p (first ∷ xs) x e = first_passes p first x (find p xs) (p first) refl e (found_passes p xs x)

-- a text that there is passed the test
pub passed : (test : Bool) (text told : List ℕ) → where_true test text ≡ Some told → (test ≡ true) × (text ≡ told)
passed true text told e = (refl, cc)
passed false text told e = absurd cc

pub same_text : (a b : List ℕ) → Some a ≡ Some b → a ≡ b
same_text a b e = cc

-- a text of two parts has both, and both make it
pub parts_of : (a b : Option (List ℕ)) (text : List ℕ) → option_append a b ≡ Some text → (x : List ℕ) × (y : List ℕ) × (a ≡ Some x) × (b ≡ Some y) × (text ≡ x ++ y)
parts_of None b text e = absurd cc
parts_of (Some x) None text e = absurd cc
parts_of (Some x) (Some y) text e = (x, y, refl, refl, cc)

pub joined : (a b : Option (List ℕ)) (x y : List ℕ) → a ≡ Some x → b ≡ Some y → option_append a b ≡ Some (x ++ y)
joined a b x y e f = rw (e, f) refl
