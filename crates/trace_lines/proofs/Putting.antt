-- Texts are put one after the other, and bytes as pairs of digits.
use Rattle.std.proofs.Common.{◌≡◌, ◌<◌, ◌≤◌, ◌+◌, ◌==◌, ℕ, suc, Bool, true, false, Option, Some, None, Result, Ok, Err, List, [], ◌∷◌, ◌++◌, length, take, get_or, refl, sym, ap, ◌∙◌, arith, append-nil, append_assoc, length-append, nat_lt, nat_le, add-one, Fits, w8}
use Rattle.std.proofs.lemmas.Bool.Decides.{nat_tests}
use Rattle.std.specs.Prelude.{flat_map}
use Rattle.std.specs.List.{list_all}
use Rattle.std.specs.Fmt.{option_append}
use Rattle.std.proofs.Math.Seq.{take-suc}
use Rattle.std.proofs.lemmas.List.{take-take, take_at}
use Rattle.std.proofs.lemmas.Grind.{flat_map-append}
use Rattle.std.proofs.lemmas.List.Concat.{flat_map-cons}
use Rattle.trace_lines.specs.Texts.{where_true, is_byte, byte_text, pair_text, bytes_text}
use Rattle.trace_lines.specs.Written.{IsPut, KeepsFront, Puts}
use Rattle.trace_lines.proofs.Tests.{same_text}

-- ---- one text after the other

-- what stood there, and the text
pub put_text : (text old new : List ℕ) → new ≡ old ++ text → IsPut (Some text) old new
put_text text old new e = ap Some (sym e)

pub put_both : (a b : Option (List ℕ)) (old mid new : List ℕ) → IsPut a old mid → IsPut b mid new → IsPut (option_append a b) old new
put_both None b old mid new first second = absurd cc
put_both (Some x) None old mid new first second = absurd cc
put_both (Some x) (Some y) old mid new first second =
    ap Some (sym (append_assoc old x y) ∙ ap (λ (t : List ℕ). t ++ y) (same_text (old ++ x) mid first)) ∙ second

-- after any text
none_behind : (a : Option (List ℕ)) → option_append a None ≡ None
none_behind None = refl
none_behind (Some x) = refl

-- the first has none
pub none_first : (a b : Option (List ℕ)) → a ≡ None → option_append a b ≡ None
none_first a b e = ap (λ (t : Option (List ℕ)). option_append t b) e

-- and the second has none
pub none_second : (a b : Option (List ℕ)) → b ≡ None → option_append a b ≡ None
none_second a b e = ap (option_append a) e ∙ none_behind a

-- after a text that was put another is, if there is one
pub puts_behind : {T E : Type 0} (r : Result T E) (a b : Option (List ℕ)) (old mid new : List ℕ) → IsPut a old mid → Puts b mid r new → Puts (option_append a b) old r new
puts_behind (Ok done) a b old mid new first second = put_both a b old mid new first second
puts_behind (Err none) a b old mid new first second = none_second a b second

-- ---- what stood there

-- it is in front of what follows that in front of which it stands
front_more : (old more mid new : List ℕ) → mid ≡ old ++ more → take (length mid) new ≡ mid → take (length old) new ≡ old
front_more old more mid new is front =
    let longer : length mid ≡ length old + length more = ap (λ (t : List ℕ). length t) is ∙ length-append old more in
    sym (take-take (length old) (length mid) new (omega (arith, longer)))
    ∙ ap (λ (t : List ℕ). take (length old) t) (front ∙ is)
    ∙ take_at old more (length old) refl

pub front_past : (text : Option (List ℕ)) (old mid new : List ℕ) → IsPut text old mid → take (length mid) new ≡ mid → take (length old) new ≡ old
front_past None old mid new put front = absurd cc
front_past (Some more) old mid new put front = front_more old more mid new (sym (same_text (old ++ more) mid put)) front

-- also where what comes last may have no text
pub front_behind : {T E : Type 0} (r : Result T E) (old more mid new : List ℕ) → mid ≡ old ++ more → KeepsFront mid r new → KeepsFront old r new
front_behind (Ok done) old more mid new is front = tt
front_behind (Err none) old more mid new is front = front_more old more mid new is front

pub front_put : {T E : Type 0} (r : Result T E) (text : Option (List ℕ)) (old mid new : List ℕ) → IsPut text old mid → KeepsFront mid r new → KeepsFront old r new
front_put (Ok done) text old mid new put front = tt
front_put (Err none) text old mid new put front = front_past text old mid new put front

-- ---- bytes

pair_of : (test : Bool) (text old new : List ℕ) → IsPut (where_true test text) old new → new ≡ old ++ text
pair_of true text old new put = sym (same_text (old ++ text) new put)
pair_of false text old new put = absurd cc

put_pair : (byte : ℕ) (old new : List ℕ) → IsPut (byte_text byte) old new → new ≡ old ++ pair_text byte
put_pair byte old new put = pair_of (is_byte byte) (pair_text byte) old new put

-- one byte more
pub one_more : (bytes : List ℕ) (place byte : ℕ) (old mid new : List ℕ) → place < length bytes → byte ≡ get_or bytes place 0
    → mid ≡ old ++ flat_map pair_text (take place bytes) → IsPut (byte_text byte) mid new → new ≡ old ++ flat_map pair_text (take (place + 1) bytes)
one_more bytes place byte old mid new within is so_far put =
    let single : flat_map pair_text (byte ∷ []) ≡ pair_text byte = flat_map-cons pair_text byte [] ∙ append-nil (pair_text byte) in
    let more : take (place + 1) bytes ≡ take place bytes ++ byte ∷ [] = rw (add-one, is) (take-suc bytes place 0 within) in
    let spelled : flat_map pair_text (take (place + 1) bytes) ≡ flat_map pair_text (take place bytes) ++ pair_text byte =
    ap (flat_map pair_text) more ∙ flat_map-append pair_text (take place bytes) (byte ∷ []) ∙ ap (λ (t : List ℕ). flat_map pair_text (take place bytes) ++ t) single in
    put_pair byte mid new put
    ∙ ap (λ (t : List ℕ). t ++ pair_text byte) so_far
    ∙ append_assoc old (flat_map pair_text (take place bytes)) (pair_text byte)
    ∙ ap (λ (t : List ℕ). old ++ t) (sym spelled)

all_bytes : (bytes : List ℕ) → ((i : ℕ) → Fits w8 (get_or bytes i 0)) → list_all is_byte bytes ≡ true
all_bytes [] fit = refl
all_bytes (b ∷ bytes) fit =
    let one : Fits w8 b = fit 0 in
    let test : nat_lt b 256 ≡ true = grind arith in
    rw (test, all_bytes bytes (λ i. fit (suc i))) refl

-- all of them are put
pub all_put : (bytes old new : List ℕ) → (length bytes == 0) ≡ false → length bytes ≤ 64 → ((i : ℕ) → Fits w8 (get_or bytes i 0))
    → new ≡ old ++ flat_map pair_text bytes → IsPut (bytes_text bytes) old new
all_put bytes old new some few fit put =
    let alike = all_bytes bytes fit in
    let positive : 0 < length bytes = grind (arith, nat_tests) in
    let first : nat_lt 0 (length bytes) ≡ true = grind arith in
    let last : nat_le (length bytes) 64 ≡ true = grind arith in
    rw (first, last, alike) (ap Some (sym put))
