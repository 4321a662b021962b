-- What is shown for a text from outside has no character that is not shown as it is.
use Rattle.std.proofs.Common.{◌≡◌, ℕ, zero, suc, ◌+◌, ◌<◌, ◌/◌, ◌%◌, true, false, List, [], ◌∷◌, ◌++◌, ◌&&◌, flat_map, All, chars, codes, refl, sym, ap, subst, ◌∙◌, arith, nat_lt, encode_utf8, ◌==◌}
use Rattle.std.specs.Str.{IsUtf8, all_scalars, encode_utf8_all}
use Rattle.std.specs.Fmt.{digit_glyph, digits, digits_onto}
use Rattle.std.proofs.lemmas.Bool.{and_parts, cond_both}
use Rattle.std.proofs.lemmas.List.{append-nil}
use Rattle.std.proofs.lemmas.List.Elements.{All-nil, All-cons, All-append, All-weaker, recursion_from_All}
use Rattle.std.proofs.lemmas.Str.{chars-nil, chars-append, chars_from_encodes, scalars-chars, IsUtf8-nil, IsUtf8-append, IsUtf8-encode, IsUtf8-from_ascii, encodes-IsAscii, encodes-chars}
use Rattle.std.specs.List.{list_all, AllByRecursion}
use borrow.Author.Tests.{tests}
use Rattle.std.proofs.lemmas.Str.Ascii.{IsAscii-from_all}
use Rattle.ucd_category.specs.GeneralCategory.{general_category}
use Rattle.ucd_category.specs.GeneralCategoryRows.{general_category_rows}
use Rattle.ucd_table.specs.Rows.{value_in}
use Rattle.cli_text_page.specs.Escaping.{is_shown, escape_of, shown_as, escaped}

-- a character that is shown as it is
abbrev pub IsShown : ℕ → Type 0
IsShown c = is_shown c ≡ true

-- a text of which each character is
pub record Harmless (text : List ℕ) : Type 0 where
  pub utf8 : IsUtf8 text
  pub all : All IsShown (chars text)

-- a character of ASCII that is shown as it is
pub record IsPlain (c : ℕ) : Type 0 where
  pub ascii : c < 128
  pub shown : is_shown c ≡ true

plain_digit : (d : ℕ) → d < 16 → is_shown (digit_glyph false d) ≡ true
unfolding is_shown general_category general_category_rows value_in
plain_digit zero _ = refl
plain_digit (suc zero) _ = refl
plain_digit (suc (suc zero)) _ = refl
plain_digit (suc (suc (suc zero))) _ = refl
plain_digit (suc (suc (suc (suc zero)))) _ = refl
plain_digit (suc (suc (suc (suc (suc zero))))) _ = refl
plain_digit (suc (suc (suc (suc (suc (suc zero)))))) _ = refl
plain_digit (suc (suc (suc (suc (suc (suc (suc zero))))))) _ = refl
plain_digit (suc (suc (suc (suc (suc (suc (suc (suc zero)))))))) _ = refl
plain_digit (suc (suc (suc (suc (suc (suc (suc (suc (suc zero))))))))) _ = refl
plain_digit (suc (suc (suc (suc (suc (suc (suc (suc (suc (suc zero)))))))))) _ = refl
plain_digit (suc (suc (suc (suc (suc (suc (suc (suc (suc (suc (suc zero))))))))))) _ = refl
plain_digit (suc (suc (suc (suc (suc (suc (suc (suc (suc (suc (suc (suc zero)))))))))))) _ = refl
plain_digit (suc (suc (suc (suc (suc (suc (suc (suc (suc (suc (suc (suc (suc zero))))))))))))) _ = refl
plain_digit (suc (suc (suc (suc (suc (suc (suc (suc (suc (suc (suc (suc (suc (suc zero)))))))))))))) _ = refl
plain_digit (suc (suc (suc (suc (suc (suc (suc (suc (suc (suc (suc (suc (suc (suc (suc zero))))))))))))))) _ = refl
plain_digit (suc (suc (suc (suc (suc (suc (suc (suc (suc (suc (suc (suc (suc (suc (suc (suc d)))))))))))))))) h = absurd (omega arith)

pub harmless_from_plain : (text : List ℕ) → All IsPlain text → Harmless text
harmless_from_plain text all =
    let ascii = IsAscii-from_all text (All-weaker IsPlain (λ b. b < 128) (λ b p. p.ascii) text all) in
    let utf8 = IsUtf8-from_ascii text ascii in
    record {
      utf8 = utf8;
      all = subst (All IsShown) (chars_from_encodes text text utf8 (encodes-IsAscii text ascii))
          (All-weaker IsPlain IsShown (λ c p. p.shown) text all);
    }

pub Harmless-append : (a b : List ℕ) → Harmless a → Harmless b → Harmless (a ++ b)
Harmless-append a b h k = record {
  utf8 = IsUtf8-append a b h.utf8 k.utf8;
  all = subst (All IsShown) (sym (chars-append a b h.utf8)) (All-append IsShown (chars a) (chars b) h.all k.all);
}

harmless_itself : (c : ℕ) → all_scalars (c ∷ []) ≡ true → is_shown c ≡ true → Harmless (encode_utf8 c)
harmless_itself c scalar shown =
    let utf8 = IsUtf8-encode c (and_parts _ _ scalar).0 in
    record {
      utf8 = utf8;
      all = subst (All IsShown) (chars_from_encodes (c ∷ []) (encode_utf8 c) utf8 (append-nil (encode_utf8 c)))
          (All-cons IsShown c [] shown (All-nil IsShown));
    }

plain_glyph : (n : ℕ) → n < 16 → IsPlain (digit_glyph false n)
plain_glyph n h = record { ascii = cond_both (nat_lt n 10) (48 + n) (87 + n) (λ x. x < 128) (λ _. omega arith) (λ _. omega arith); shown = plain_digit n h }

plain_digits : (k n : ℕ) (after : List ℕ) → All IsPlain after → All IsPlain (digits_onto k 16 false n after)
plain_digits zero n after h = h
plain_digits (suc k) n after h =
    let glyph = plain_glyph (n % 16) (omega arith) in
    let more = All-cons IsPlain (digit_glyph false (n % 16)) after glyph h in
    cond_both (n / 16 == 0) (digit_glyph false (n % 16) ∷ after) (digits_onto k 16 false (n / 16) (digit_glyph false (n % 16) ∷ after)) (All IsPlain)
    (λ _. more) (λ _. plain_digits k (n / 16) (digit_glyph false (n % 16) ∷ after) more)

-- what stands in an escape beside digits
plain_mark : (c : ℕ) → (is_shown c && nat_lt c 128) ≡ true → IsPlain c
plain_mark c h = let parts = and_parts _ _ h in record { ascii = search (tests, parts.1); shown = parts.0 }

plain_marks : (text : List ℕ) → list_all (λ c. is_shown c && nat_lt c 128) text ≡ true → All IsPlain text
plain_marks [] _ = All-nil IsPlain
plain_marks (c ∷ cs) h = let parts = and_parts _ _ h in All-cons IsPlain c cs (plain_mark c parts.0) (plain_marks cs parts.1)

line_feed : All IsPlain (codes "\\n")
unfolding is_shown general_category general_category_rows value_in
line_feed = plain_marks (codes "\\n") refl

carriage_return : All IsPlain (codes "\\r")
unfolding is_shown general_category general_category_rows value_in
carriage_return = plain_marks (codes "\\r") refl

tab : All IsPlain (codes "\\t")
unfolding is_shown general_category general_category_rows value_in
tab = plain_marks (codes "\\t") refl

before_two : All IsPlain (codes "\\x")
unfolding is_shown general_category general_category_rows value_in
before_two = plain_marks (codes "\\x") refl

before_code : All IsPlain (codes "\\u{")
unfolding is_shown general_category general_category_rows value_in
before_code = plain_marks (codes "\\u{") refl

after_code : All IsPlain (codes "}")
unfolding is_shown general_category general_category_rows value_in
after_code = plain_marks (codes "}") refl

plain_two : (c : ℕ) → c < 128 → All IsPlain (codes "\\x" ++ (digit_glyph false (c / 16) ∷ digit_glyph false (c % 16) ∷ []))
plain_two c h =
    let high = digit_glyph false (c / 16) in
    let low = digit_glyph false (c % 16) in
    All-append IsPlain (codes "\\x") (high ∷ low ∷ []) before_two
    (All-cons IsPlain high (low ∷ []) (plain_glyph (c / 16) (omega arith)) (All-cons IsPlain low [] (plain_glyph (c % 16) (omega arith)) (All-nil IsPlain)))

plain_code : (c : ℕ) → All IsPlain (codes "\\u{" ++ digits 16 false c ++ codes "}")
unfolding digits
plain_code c =
    All-append IsPlain (codes "\\u{" ++ digits 16 false c) (codes "}")
    (All-append IsPlain (codes "\\u{") (digits 16 false c) before_code (plain_digits 64 c [] (All-nil IsPlain))) after_code

plain_escape : (c : ℕ) → All IsPlain (escape_of c)
plain_escape c =
    cond_both (c == 10) _ _ (All IsPlain) (λ _. line_feed)
    (λ _. cond_both (c == 13) _ _ (All IsPlain) (λ _. carriage_return)
    (λ _. cond_both (c == 9) _ _ (All IsPlain) (λ _. tab)
    (λ _. cond_both (nat_lt c 128) _ _ (All IsPlain) (λ h. plain_two c (search (tests, h))) (λ _. plain_code c))))

pub harmless_shown : (c : ℕ) → all_scalars (c ∷ []) ≡ true → Harmless (shown_as c)
harmless_shown c scalar =
    cond_both (is_shown c) (encode_utf8 c) (escape_of c) Harmless (harmless_itself c scalar) (λ _. harmless_from_plain (escape_of c) (plain_escape c))

harmless_all : (cs : List ℕ) → all_scalars cs ≡ true → Harmless (flat_map shown_as cs)
harmless_all [] _ = record { utf8 = IsUtf8-nil; all = subst (All IsShown) (sym chars-nil) (All-nil IsShown) }
harmless_all (c ∷ cs) scalars =
    let parts = and_parts _ _ scalars in
    Harmless-append (shown_as c) (flat_map shown_as cs) (harmless_shown c (ap (λ t. t && true) parts.0)) (harmless_all cs parts.1)

-- what is shown for a text is such a text
pub harmless : (text : List ℕ) → IsUtf8 text → Harmless (escaped text)
harmless text utf8 = harmless_all (chars text) (scalars-chars text utf8)

shown_itself : (c : ℕ) → is_shown c ≡ true → shown_as c ≡ encode_utf8 c
shown_itself c h = rw h refl

shown_all : (cs : List ℕ) → AllByRecursion IsShown cs → flat_map shown_as cs ≡ encode_utf8_all cs
shown_all [] _ = refl
shown_all (c ∷ cs) h = ap (λ t. t ++ flat_map shown_as cs) (shown_itself c h.0) ∙ ap (λ t. encode_utf8 c ++ t) (shown_all cs h.1)

-- a text of which each character is shown as it is stays as it is
pub escaped_same : (text : List ℕ) → IsUtf8 text → All IsShown (chars text) → escaped text ≡ text
escaped_same text utf8 all = shown_all (chars text) (recursion_from_All IsShown (chars text) all) ∙ encodes-chars text utf8
