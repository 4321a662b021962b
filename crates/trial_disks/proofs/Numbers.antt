-- What stands under a key, by whether something does.
use Rattle.std.proofs.Common.{◌≡◌, ℕ, ℤ, pos, inr, Option, Some, None, IfSome, false, is_some, unwrap_or, List, [], ◌∷◌, map, true≢false, refl, ap, sym, subst, ◌∙◌}
use Rattle.std.proofs.lemmas.Option.{none-some}
use Rattle.toml.specs.Data.{Data, get, as_integer}
use Rattle.toml.specs.declared.value.Value.{Value}
use Rattle.toml.specs.View.{view, items_view}
use Rattle.manifest_form.specs.Document.{elements, elements_of, elements_at, array_of, array_at, integer_of, integer_at}
use Rattle.trial_disks.specs.Said.{integer_or, AreEnds, IsGiven, IsNumber, IsNumberOr}

-- nothing is there
pub nothing : {X : Type 0} (there : Option X) → is_some there ≡ false → there ≡ None
nothing None none = refl
nothing (Some x) none = absurd (true≢false none)

by_value : (other : ℕ) (there : Option Data) (number : ℤ) → integer_of there ≡ Some number → integer_or other there ≡ Some number
by_value other None number is = absurd (none-some number is)
by_value other (Some value) number is = is

-- a number that is there is that one, or another
pub there_or : (key : List ℕ) (other : ℕ) (entry : Data) (number : ℕ) → IsNumber key entry number → IsNumberOr key other entry number
unfolding integer_at
there_or key other entry number is = by_value other (get key entry) (pos number) is

-- the other is meant where nothing is there
pub other_for : (key : List ℕ) (other : ℕ) (entry : Data) → get key entry ≡ None → IsNumberOr key other entry other
other_for key other entry none = ap (integer_or other) none

pub given_or : (key : List ℕ) (other : ℕ) (entry : Data) (given : Option ℕ) → IsGiven key entry given → IsNumberOr key other entry (unwrap_or given other)
given_or key other entry None none = other_for key other entry none
given_or key other entry (Some number) is = there_or key other entry number is

-- the two ends that an array says
pub two_ends : (key : List ℕ) (entry : Data) (values : List Data) (read : Option (ℤ × ℤ)) → values ≡ elements_at key entry
    → IfSome read (λ ends. map as_integer values ≡ Some ends.0 ∷ Some ends.1 ∷ []) → IfSome read (λ ends. AreEnds key entry ends.0 ends.1)
two_ends key entry values None same is = tt
two_ends key entry values (Some ends) same is = inr (ap (λ (those : List Data). map as_integer those) (sym same) ∙ is)

-- ends that are not negative
pub ends_of : (key : List ℕ) (entry : Data) (a b : ℤ) (least most : ℕ) → a ≡ pos least → b ≡ pos most → AreEnds key entry a b → AreEnds key entry (pos least) (pos most)
ends_of key entry a b least most first second are =
    subst (λ (end : ℤ). AreEnds key entry (pos least) end) second (subst (λ (end : ℤ). AreEnds key entry end b) first are)

-- the elements of an array are its values
elements_view : (values : List Value) → elements (items_view values) ≡ map view values
elements_view [] = refl
elements_view (value ∷ values) = ap (λ rest. view value ∷ rest) (elements_view values)

pub elements_are : (key : List ℕ) (entry : Data) (values : List Value) → Some (items_view values) ≡ array_at key entry → map view values ≡ elements_at key entry
elements_are key entry values is = sym (elements_view values) ∙ ap elements_of is

pub no_elements : (key : List ℕ) (entry : Data) → get key entry ≡ None → elements_at key entry ≡ []
unfolding array_at
no_elements key entry none = ap (λ (there : Option Data). elements_of (array_of there)) none
