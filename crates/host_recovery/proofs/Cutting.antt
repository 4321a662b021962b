-- Where a text has its first line feed, and what begins with no line.
use Rattle.std.proofs.Common.{◌≡◌, ◌≢◌, ◌<◌, ◌≤◌, ℕ, Bool, true, false, Option, Some, None, List, [], ◌∷◌, ◌++◌, length, length-append, refl, sym, ap, ◌∙◌, append_assoc, arith, codes, nat_le}
use Rattle.std.specs.List.{list_all}
use Rattle.std.specs.Fmt.{option_append, with_newline}
use Rattle.std.specs.Io.KnownBytes.{Consumes, IsAtEnd}
use Rattle.std.proofs.lemmas.Bool.Decides.{nat_tests}
use Rattle.std.proofs.lemmas.List.Folds.{list_all-append}
use Rattle.world_calls.specs.declared.trace.Version.{Version}
use Rattle.world_calls.specs.declared.trace.Version.TheVariants.{One, Three, Two}
use Rattle.host_recovery.specs.Carries.{first_text}
use Rattle.host_recovery.specs.declared.first_line.First.{First}
use Rattle.host_recovery.specs.declared.first_line.First.TheVariants.{Plain, Continued}
use Rattle.trace_lines.proofs.Tests.{both}
use Rattle.trace.specs.Reading.{HasNoLine}
use Rattle.trace.specs.ShortLines.{IsShort, is_shown}
use Rattle.trace.specs.TraceText.{entry_text, sums_text}
use Rattle.trace.specs.declared.laws.TheConstants.{LONGEST_LINE}
use Rattle.trace.proofs.Cuts.{HasNoFeed, IsOneLine, first_of, is_in_line}
use Rattle.trace.proofs.Shown.{lines_are_short}
use Rattle.trace.proofs.SoFar.{cut_line}
use Rattle.host_recovery.specs.Sources.{IsAll}

-- ---- line feeds

clash : {A : Type 0} (b : Bool) → b ≡ false → b ≡ true → A
clash b is other = absurd (let bad : false ≡ true = sym is ∙ other in cc)

pub no_feed_in : (text xs ys : List ℕ) → IsOneLine text → text ≡ xs ++ 10 ∷ ys → ⊥
no_feed_in text xs ys one is =
    let parts = both (list_all is_in_line xs) (list_all is_in_line (10 ∷ ys)) (sym (list_all-append is_in_line xs (10 ∷ ys)) ∙ (ap (list_all is_in_line) (sym is) ∙ one)) in
    clash (list_all is_in_line (10 ∷ ys)) refl parts.1

pub one_line_has_none : (text : List ℕ) → IsOneLine text → HasNoFeed text
one_line_has_none text one = λ xs ys other is. no_feed_in text xs ys one is

-- no line feed comes as early
pub long_line : (line tail xs ys : List ℕ) → IsOneLine line → length xs < length line → line ++ tail ≡ xs ++ 10 ∷ ys → ⊥
long_line [] tail xs ys one less e = omega (arith, less)
long_line (b ∷ line) tail [] ys one less e =
    let head : b ≡ 10 = cc in
    clash (is_in_line 10) refl (ap is_in_line (sym head) ∙ (both (is_in_line b) (list_all is_in_line line) one).0)
long_line (b ∷ line) tail (x ∷ xs) ys one less e =
    let tails : line ++ tail ≡ xs ++ 10 ∷ ys = cc in
    long_line line tail xs ys (both (is_in_line b) (list_all is_in_line line) one).1 (omega (arith, less)) tails

-- what is shown is no line feed
shown_in_line : (byte : ℕ) → is_shown byte ≡ true → is_in_line byte ≡ true
shown_in_line byte h = grind (arith, nat_tests)

pub shown_line : (text : List ℕ) → list_all is_shown text ≡ true → IsOneLine text
shown_line [] h = refl
shown_line (b ∷ text) h =
    let parts = both (is_shown b) (list_all is_shown text) h in
    rw (shown_in_line b parts.0, shown_line text parts.1) refl

pub front_nothing : (a b : List ℕ) → a ++ b ≡ [] → a ≡ []
front_nothing [] b e = refl
front_nothing (x ∷ a) b e = absurd (let bad : x ∷ (a ++ b) ≡ [] = e in cc)

pub feed_is_not_short : (line rest : List ℕ) → IsShort (line ++ 10 ∷ rest) → ⊥
feed_is_not_short line rest short = no_feed_in (line ++ 10 ∷ rest) line rest (shown_line (line ++ 10 ∷ rest) short.shown) refl

-- ---- the first line

unfoldable pub body : First → List ℕ
body (Plain One) = codes "camr-trace 1"
body (Plain Two) = codes "camr-trace 2"
body (Plain Three) = codes "camr-trace 3"
body (Continued One) = codes "camr-trace 1 continued"
body (Continued Two) = codes "camr-trace 2 continued"
body (Continued Three) = codes "camr-trace 3 continued"

first_is : (first : First) → first_text first ≡ body first ++ 10 ∷ []
unfolding body
first_is (Plain One) = refl
first_is (Plain Two) = refl
first_is (Plain Three) = refl
first_is (Continued One) = refl
first_is (Continued Two) = refl
first_is (Continued Three) = refl

body_is_line : (first : First) → IsOneLine (body first)
unfolding body
body_is_line (Plain One) = refl
body_is_line (Plain Two) = refl
body_is_line (Plain Three) = refl
body_is_line (Continued One) = refl
body_is_line (Continued Two) = refl
body_is_line (Continued Three) = refl

body_is_short : (first : First) → nat_le (length (body first)) 22 ≡ true
unfolding body
body_is_short (Plain One) = refl
body_is_short (Plain Two) = refl
body_is_short (Plain Three) = refl
body_is_short (Continued One) = refl
body_is_short (Continued Two) = refl
body_is_short (Continued Three) = refl

at_most_22 : (n : ℕ) → nat_le n 22 ≡ true → n ≤ 22
at_most_22 n h = grind (arith, nat_tests)

first_in_front : (text : List ℕ) (first : First) (rest : List ℕ) → text ≡ first_text first ++ rest → text ≡ body first ++ 10 ∷ rest
first_in_front text first rest e = e ∙ (ap (λ (t : List ℕ). t ++ rest) (first_is first) ∙ append_assoc (body first) (10 ∷ []) rest)

-- no first line
pub other_line : (line rest : List ℕ) → IsOneLine line → ((first : First) → line ++ 10 ∷ [] ≢ first_text first) → (first : First) (more : List ℕ) → line ++ 10 ∷ rest ≢ first_text first ++ more
other_line line rest one none first more = λ e.
    let found = (first_of (line ++ 10 ∷ rest) line rest one refl).once (body first) more (body_is_line first) (first_in_front (line ++ 10 ∷ rest) first more e) in
    none first (ap (λ (t : List ℕ). t ++ 10 ∷ []) found.0 ∙ sym (first_is first))

pub no_line : (text : List ℕ) → IsOneLine text → (first : First) (more : List ℕ) → text ≢ first_text first ++ more
no_line text one first more = λ e. no_feed_in text (body first) more one (first_in_front text first more e)

pub too_long : (line rest : List ℕ) → IsOneLine line → LONGEST_LINE < length line → (first : First) (more : List ℕ) → line ++ rest ≢ first_text first ++ more
too_long line rest one long first more = λ e.
    long_line line rest (body first) more one (omega (arith, long, at_most_22 (length (body first)) (body_is_short first))) (first_in_front (line ++ rest) first more e)

pub same_line : (line : List ℕ) (first : First) → IsOneLine line → line ++ 10 ∷ [] ≡ first_text first → line ≡ body first
same_line line first one e = ((first_of (line ++ 10 ∷ []) line [] one refl).once (body first) [] (body_is_line first) (e ∙ first_is first)).0

pub no_first_line : (line : List ℕ) → IsOneLine line → (line ≡ body (Plain One) → ⊥) → (line ≡ body (Plain Two) → ⊥) → (line ≡ body (Plain Three) → ⊥) → (line ≡ body (Continued One) → ⊥) → (line ≡ body (Continued Two) → ⊥) → (line ≡ body (Continued Three) → ⊥) → (first : First) → line ++ 10 ∷ [] ≢ first_text first
no_first_line line one a b c d f g (Plain One) = λ e. a (same_line line (Plain One) one e)
no_first_line line one a b c d f g (Plain Two) = λ e. b (same_line line (Plain Two) one e)
no_first_line line one a b c d f g (Plain Three) = λ e. c (same_line line (Plain Three) one e)
no_first_line line one a b c d f g (Continued One) = λ e. d (same_line line (Continued One) one e)
no_first_line line one a b c d f g (Continued Two) = λ e. f (same_line line (Continued Two) one e)
no_first_line line one a b c d f g (Continued Three) = λ e. g (same_line line (Continued Three) one e)

-- ---- more without a line feed than a line has

no_front_of : (line rest : List ℕ) → IsOneLine line → LONGEST_LINE < length line → (told more : Option (List ℕ)) → ((l : List ℕ) → told ≡ Some l → IsShort l) → option_append (with_newline told) more ≡ Some (line ++ rest) → ⊥
no_front_of line rest one long told more short e =
    let c = cut_line told more (line ++ rest) e in
    long_line line rest c.0 c.1 one (omega (arith, long, (short c.0 c.2).few)) c.4

pub long_has_no_line : (version : Version) (line rest : List ℕ) → IsOneLine line → LONGEST_LINE < length line → HasNoLine version (line ++ rest)
long_has_no_line version line rest one long = record {
  no_record = λ entry more e. no_front_of line rest one long (entry_text version entry) (Some more) (lines_are_short.0 version entry) e;
  no_end = λ totals more e. no_front_of line rest one long (sums_text totals) (Some more) (lines_are_short.1 totals) e;
}

pub long_is_not_short : (line rest : List ℕ) → LONGEST_LINE < length line → IsShort (line ++ rest) → ⊥
long_is_not_short line rest long short = omega (arith, long, short.few, length-append line rest)

-- ---- all that a source was to give

pub rest_of : Option (List ℕ) → List ℕ
rest_of None = []
rest_of (Some bytes) = bytes

pub all_of : (from now : Option (List ℕ)) (bytes : List ℕ) → Consumes from now bytes → IsAll from (bytes ++ rest_of now)
unfolding rest_of
all_of None now bytes consumed = tt
all_of (Some xs) None bytes consumed = absurd consumed
all_of (Some xs) (Some ys) bytes consumed = sym consumed

pub none_left : (now : Option (List ℕ)) → IsAtEnd now → rest_of now ≡ []
unfolding rest_of
none_left None at_end = refl
none_left (Some ys) at_end = at_end
