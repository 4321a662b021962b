-- Fields are put one after the other.
use Rattle.std.proofs.Common.{◌≡◌, ◌<◌, ◌+◌, ◌++◌, ℕ, Option, Some, None, List, [], ◌∷◌, length, map, take, get_or, refl, sym, ap, ◌∙◌, codes, append_assoc, append-nil, add-one}
use Rattle.std.specs.Fmt.{option_append}
use Rattle.std.proofs.Math.Seq.{take-suc}
use Rattle.std.proofs.lemmas.List.{map-append}
use Rattle.trace_lines.specs.Texts.{number_text}
use Rattle.trace_lines.specs.Written.{IsPut}
use Rattle.trace_lines.proofs.Putting.{put_both, put_text}
use Rattle.carried_lines.specs.CarriedText.{after_blank, after_blanks}

append_three : (a b d : Option (List ℕ)) → option_append a (option_append b d) ≡ option_append (option_append a b) d
append_three None b d = refl
append_three (Some x) None d = refl
append_three (Some x) (Some y) None = refl
append_three (Some x) (Some y) (Some z) = ap Some (sym (append_assoc x y z))

nothing_before : (a : Option (List ℕ)) → option_append (Some []) a ≡ a
nothing_before None = refl
nothing_before (Some x) = refl

nothing_after : (a : Option (List ℕ)) → option_append a (Some []) ≡ a
nothing_after None = refl
nothing_after (Some x) = ap Some (append-nil x)

two_parts : (front back : List (Option (List ℕ))) → after_blanks (front ++ back) ≡ option_append (after_blanks front) (after_blanks back)
two_parts [] back = sym (nothing_before (after_blanks back))
two_parts (field ∷ front) back = ap (option_append (after_blank field)) (two_parts front back) ∙ append_three (after_blank field) (after_blanks front) (after_blanks back)

-- fields after fields
pub put_fields : (front back : List (Option (List ℕ))) (old mid new : List ℕ) → IsPut (after_blanks front) old mid → IsPut (after_blanks back) mid new → IsPut (after_blanks (front ++ back)) old new
put_fields front back old mid new first second = ap (option_append (Some old)) (two_parts front back) ∙ put_both (after_blanks front) (after_blanks back) old mid new first second

-- one field after its blank
pub put_one : (field : Option (List ℕ)) (old mid new : List ℕ) → mid ≡ old ++ 32 ∷ [] → IsPut field mid new → IsPut (after_blanks (field ∷ [])) old new
put_one field old mid new blank put =
    ap (option_append (Some old)) (nothing_after (after_blank field)) ∙ put_both (Some (codes " ")) field old mid new (put_text (codes " ") old mid blank) put

-- one number more
pub number_put : (numbers : List ℕ) (place : ℕ) (old so_far mid new : List ℕ) → place < length numbers → IsPut (after_blanks (map number_text (take place numbers))) old so_far
    → mid ≡ so_far ++ 32 ∷ [] → IsPut (number_text (get_or numbers place 0)) mid new → IsPut (after_blanks (map number_text (take (place + 1) numbers))) old new
number_put numbers place old so_far mid new within front blank put =
    let more : take (place + 1) numbers ≡ take place numbers ++ get_or numbers place 0 ∷ [] = rw add-one (take-suc numbers place 0 within) in
    let fields : map number_text (take (place + 1) numbers) ≡ map number_text (take place numbers) ++ number_text (get_or numbers place 0) ∷ [] =
    ap (map number_text) more ∙ map-append number_text (take place numbers) (get_or numbers place 0 ∷ []) in
    ap (λ (f : List (Option (List ℕ))). option_append (Some old) (after_blanks f)) fields
    ∙ put_fields (map number_text (take place numbers)) (number_text (get_or numbers place 0) ∷ []) old so_far new front (put_one (number_text (get_or numbers place 0)) so_far mid new blank put)
