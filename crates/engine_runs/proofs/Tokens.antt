-- The rights of a run to give freezes back: which is found by its freeze's number, and what is left without it.
use Rattle.std.proofs.Common.{◌≡◌, ℕ, suc, ◌<◌, List, [], ◌∷◌, length, get_or, Option, Some, None, IsSome, IfNone, IfSome, inl, inr, refl, ap, sym, subst, ◌∙◌, arith}
use Rattle.std.specs.List.{remove}
use Rattle.std.proofs.lemmas.Bool.{cases_eq}
use Rattle.std.proofs.lemmas.List.{get_or_default, length-map, get_or-map}
use Rattle.freeze_ledger.specs.declared.freeze.Freeze.{Freeze}
use Rattle.freeze_ledger.specs.Freezes.{entry_of, without}
use Rattle.world.proofs.Lists.Found.{at_head, at_tail}
use Rattle.world.proofs.Lists.Placed.{found_at, remove_is_leave}
use Rattle.world.proofs.Lists.Entries.{entry_bounds, freeze_key, FreezesRise}
use Rattle.engine_runs.specs.RunsState.{told, tokens_of}
use Rattle.engine_runs.specs.Tokens.{AreTokensWith}
use Rattle.cam_numbered_slots.proofs.Numbers.{map_remove}

-- a token of the freeze is among those of a list that has it
pub token_there : (n : ℕ) (gs : List Freeze) (f : Freeze) → entry_of n gs ≡ Some f → (k : ℕ) × (k < length (tokens_of gs)) × (get_or (tokens_of gs) k None ≡ Some f)
token_there n [] f entry = absurd (let bad : None ≡ Some f = entry in cc)
token_there n (g ∷ gs) f entry =
    elim (cases_eq g.number n) [
      | inl same ↦
          let both : Some g ≡ Some f = sym (at_head freeze_key n g gs same) ∙ entry in
          (0, omega arith, both)
      | inr apart ↦
          let rest = token_there n gs f (sym (at_tail freeze_key n g gs apart) ∙ entry) in
          (suc rest.0, omega (arith, rest.1), rest.2)
    ]

-- the token that bears the number is that of the freeze
pub token_at : (gs : List Freeze) (high k n : ℕ) (f : Freeze) → FreezesRise 0 gs high → k < length (tokens_of gs) → told (get_or (tokens_of gs) k None) ≡ n → entry_of n gs ≡ Some f → get_or (tokens_of gs) k None ≡ Some f
token_at gs high k n f rising l named entry =
    let within : k < length gs = omega (arith, l, length-map gs (λ (x : Freeze). Some x)) in
    let there : get_or (tokens_of gs) k None ≡ Some (get_or gs k f) = get_or-map (λ (x : Freeze). Some x) gs k f None within in
    there ∙ (sym (found_at freeze_key 0 gs high k n f within rising (sym (ap told there) ∙ named)) ∙ entry)

-- without it the tokens are those of the other freezes
pub token_removed : (gs : List Freeze) (high k n : ℕ) (f : Freeze) → FreezesRise 0 gs high → k < length (tokens_of gs) → get_or (tokens_of gs) k None ≡ Some f → f.number ≡ n → remove (tokens_of gs) k ≡ tokens_of (without n gs)
token_removed gs high k n f rising l is named =
    let within : k < length gs = omega (arith, l, length-map gs (λ (x : Freeze). Some x)) in
    let there : get_or (tokens_of gs) k None ≡ Some (get_or gs k f) = get_or-map (λ (x : Freeze). Some x) gs k f None within in
    let numbered : (get_or gs k f).number ≡ n = sym (ap told there) ∙ (ap told is ∙ named) in
    sym (map_remove (λ (x : Freeze). Some x) gs k within) ∙ ap tokens_of (remove_is_leave freeze_key 0 gs high k n f within rising numbered)

-- the number of the freeze that a token is of
named_so : (ts : List (Option Freeze)) (fs : List Freeze) (n : ℕ) (it : AreTokensWith ts fs n) → it.entry.number ≡ n
named_so ts fs n it = (entry_bounds 0 fs it.high n it.entry it.rising it.found).0

-- its token is found
pub token_found : (ts : List (Option Freeze)) (fs : List Freeze) (n : ℕ) (it : AreTokensWith ts fs n) (o : Option ℕ) (xs : List (Option Freeze)) → xs ≡ ts → IfNone o ((k : ℕ) → k < length xs → told (get_or xs k None) ≡ n → ⊥) → IsSome o
token_found ts fs n it None xs same none =
    let one = token_there n fs it.entry it.found in
    let all : xs ≡ tokens_of fs = same ∙ it.are in
    absurd (subst (λ (ys : List (Option Freeze)). (k : ℕ) → k < length ys → told (get_or ys k None) ≡ n → ⊥) all none one.0 one.1 (ap told one.2 ∙ named_so ts fs n it))
token_found ts fs n it (Some k) xs same none = refl

-- and is the right to give that freeze up; the others remain
pub token_taken : (ts : List (Option Freeze)) (fs : List Freeze) (n : ℕ) (it : AreTokensWith ts fs n) (o : Option ℕ) (xs : List (Option Freeze)) (k : ℕ) (token : Option Freeze) → xs ≡ ts → o ≡ Some k → IfSome o (λ p. p < length xs) → IfSome o (λ p. told (get_or xs p None) ≡ n) → token ≡ get_or ts k token → (token ≡ Some it.entry) × (remove ts k ≡ tokens_of (without n fs))
token_taken ts fs n it o xs k token same is within found left =
    let all : xs ≡ tokens_of fs = same ∙ it.are in
    let l : k < length (tokens_of fs) = subst (λ (ys : List (Option Freeze)). k < length ys) all (subst (λ (q : Option ℕ). IfSome q (λ p. p < length xs)) is within) in
    let named : told (get_or (tokens_of fs) k None) ≡ n = subst (λ (ys : List (Option Freeze)). told (get_or ys k None) ≡ n) all (subst (λ (q : Option ℕ). IfSome q (λ p. told (get_or xs p None) ≡ n)) is found) in
    let here : get_or (tokens_of fs) k None ≡ Some it.entry = token_at fs it.high k n it.entry it.rising l named it.found in (
      left ∙ (ap (λ (ys : List (Option Freeze)). get_or ys k token) it.are ∙ (get_or_default (tokens_of fs) k token None l ∙ here)),
      ap (λ (ys : List (Option Freeze)). remove ys k) it.are ∙ token_removed fs it.high k n it.entry it.rising l here (named_so ts fs n it),
    )
