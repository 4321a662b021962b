-- What is put on a page for each element of a list, and what goes out one after the other.
use Rattle.std.proofs.Common.{◌≡◌, ◌∙◌, ◌+◌, ◌<◌, ◌≤◌, ℕ, List, [], ◌∷◌, ◌++◌, Option, Some, None, append-nil, append_assoc, ap, get_or, length, refl, subst, sym, take}
use Rattle.std.specs.Io.KnownBytes.{Appends, Keeps}
use Rattle.std.specs.List.{flat_map}
use Rattle.std.proofs.lemmas.Grind.{flat_map-append}
use Rattle.std.proofs.lemmas.List.{take_all, take_more}
use Rattle.cli_text_page.specs.declared.page.Page.{Page}
use Rattle.cli_text_page.specs.Page.{Puts}
use Rattle.show_account.proofs.Putting.{puts_both}

flat_more : {X : Type 0} (f : X → List ℕ) (xs : List X) (k : ℕ) (d : X) → k < length xs → flat_map f (take (k + 1) xs) ≡ flat_map f (take k xs) ++ f (get_or xs k d)
flat_more {X} f xs k d below =
    ap (flat_map f) (take_more xs k d below)
    ∙ (flat_map-append f (take k xs) (get_or xs k d ∷ []) ∙ ap (λ (t : List ℕ). flat_map f (take k xs) ++ t) (append-nil (f (get_or xs k d))))

-- one element more
pub put_more : {X : Type 0} (f : X → List ℕ) (xs : List X) (k : ℕ) (d : X) (a b c : Page) → k < length xs → Puts a (flat_map f (take k xs)) b → Puts b (f (get_or xs k d)) c
    → Puts a (flat_map f (take (k + 1) xs)) c
put_more f xs k d a b c below so this =
    subst (λ (t : List ℕ). Puts a t c) (sym (flat_more f xs k d below)) (puts_both a b c (flat_map f (take k xs)) (f (get_or xs k d)) so this)

-- all of them
pub put_all : {X : Type 0} (f : X → List ℕ) (xs : List X) (k : ℕ) (a b : Page) → length xs ≤ k → Puts a (flat_map f (take k xs)) b → Puts a (flat_map f xs) b
put_all f xs k a b all so = subst (λ (t : List ℕ). Puts a t b) (ap (flat_map f) (take_all k xs all)) so

-- one text goes out after the other
pub appends_both : (a b c : Option (List ℕ)) (first second : List ℕ) → Appends a b first → Appends b c second → Appends a c (first ++ second)
appends_both None b c first second one two = tt
appends_both (Some xs) None c first second one two = absurd one
appends_both (Some xs) (Some ys) None first second one two = absurd two
appends_both (Some xs) (Some ys) (Some zs) first second one two = two ∙ (ap (λ (t : List ℕ). t ++ second) one ∙ append_assoc xs first second)

-- nothing goes out
pub keeps_same : (bytes : Option (List ℕ)) → Keeps bytes bytes
keeps_same None = tt
keeps_same (Some bytes) = refl

-- the text for one element more goes out
pub append_more : {X : Type 0} (f : X → List ℕ) (xs : List X) (k : ℕ) (d : X) (a b c : Option (List ℕ)) → k < length xs → Appends a b (flat_map f (take k xs)) → Appends b c (f (get_or xs k d))
    → Appends a c (flat_map f (take (k + 1) xs))
append_more f xs k d a b c below so this =
    subst (Appends a c) (sym (flat_more f xs k d below)) (appends_both a b c (flat_map f (take k xs)) (f (get_or xs k d)) so this)

-- those for all of them
pub append_all : {X : Type 0} (f : X → List ℕ) (xs : List X) (k : ℕ) (a b : Option (List ℕ)) → length xs ≤ k → Appends a b (flat_map f (take k xs)) → Appends a b (flat_map f xs)
append_all f xs k a b all so = subst (Appends a b) (ap (flat_map f) (take_all k xs all)) so

-- no text goes out
pub append_none : (bytes : Option (List ℕ)) → Appends bytes bytes []
append_none None = tt
append_none (Some bytes) = sym (append-nil bytes)
