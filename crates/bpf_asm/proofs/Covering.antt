-- The tokens of a text stand in it in their order, and between them only blanks, comments and line feeds.
use Rattle.std.proofs.Common.{◌≡◌, ◌<◌, ◌≤◌, ◌+◌, ◌-◌, ℕ, zero, suc, Bool, true, false, ◌||◌, List, [], ◌∷◌, ◌++◌, length, take, drop, Result, Ok, Err, refl, sym, ap, ◌∙◌, subst, inl, inr, arith, add-zero, append_assoc, length-take, length-drop, take-append-drop}
use Rattle.std.specs.Prelude.{flat_map}
use Rattle.std.specs.List.{list_all, prefix_len}
use Rattle.std.proofs.lemmas.List.Folds.{list_all-append, length-prefix_len}
use Rattle.std.proofs.lemmas.Grind.{common_steps}
use Rattle.bpf_asm.specs.declared.fault.AsmFault.{AsmFault}
use Rattle.bpf_asm.specs.declared.token.Token.{Token}
use Rattle.bpf_asm.specs.Bytes.{is_word, is_blank, is_hash, is_line_feed}
use Rattle.bpf_asm.specs.Lexemes.{lines, lexemes, spans}
use Rattle.bpf_asm.specs.Scanner.{line_len, word_len}
use Rattle.bpf_asm.specs.Numbers.{is_token}
use Rattle.bpf_asm.specs.Reading.{unless_faulty}
use Rattle.bpf_asm.specs.Tokens.{tokens_in, tokens_of, is_gap, TokensCover}
use Rattle.bpf_asm.proofs.Scanning.{tested, first_line_is, first_word_is, first_word_span, no_lexeme, Cut, alone}
use Rattle.bpf_asm.proofs.Words.{both}
use Rattle.bpf_asm.proofs.Printed.{is_clean}

-- one byte more in the first gap
gap_step : (before after : Bool) (place b : ℕ) (bytes : List ℕ) (tokens : List Token) (words : List (List ℕ)) → ((more : List ℕ) → is_gap before (b ∷ more) ≡ is_gap after more) → TokensCover after (suc place) bytes tokens words → TokensCover before place (b ∷ bytes) tokens words
gap_step before after place b bytes [] [] e h = e bytes ∙ h
gap_step before after place b bytes [] (word ∷ words) e h = h
gap_step before after place b bytes (token ∷ tokens) [] e h = h
gap_step before after place b bytes (token ∷ tokens) (word ∷ words) e h =
    (b ∷ h.0, h.1, ap (λ (text : List ℕ). b ∷ text) h.2, e h.0 ∙ h.3, omega (arith, h.4), h.5, h.6)

in_comment : (b : ℕ) (more : List ℕ) → is_clean b ≡ true → is_gap true (b ∷ more) ≡ is_gap true more
unfolding is_gap
in_comment b more h = ap (λ v. is_gap v more) h

begins_comment : (b : ℕ) (more : List ℕ) → is_hash b ≡ true → is_gap false (b ∷ more) ≡ is_gap true more
unfolding is_gap
begins_comment b more h = rw h refl

is_blank_gap : (b : ℕ) (more : List ℕ) → is_hash b ≡ false → is_blank b ≡ true → is_gap false (b ∷ more) ≡ is_gap false more
unfolding is_gap
is_blank_gap b more hash blank = rw (hash, blank) refl

feed_is_no_hash : (b : ℕ) → is_line_feed b ≡ true → is_hash b ≡ false
feed_is_no_hash b h = grind (arith, common_steps)

or_true : (a : Bool) → (a || true) ≡ true
or_true true = refl
or_true false = refl

is_feed_gap : (comment : Bool) (b : ℕ) (more : List ℕ) → is_line_feed b ≡ true → is_gap comment (b ∷ more) ≡ is_gap false more
unfolding is_gap
is_feed_gap true b more feed = rw feed refl
is_feed_gap false b more feed = rw (feed_is_no_hash b feed, feed, or_true (is_blank b)) refl

-- what follows a line is covered, whether the line ends in a comment or not
abbrev Behind : ℕ → List ℕ → List Token → List (List ℕ) → Type 0
Behind place bytes tokens words = (comment : Bool) → TokensCover comment place bytes tokens words

moved : (a b : ℕ) (bytes : List ℕ) (tokens : List Token) (words : List (List ℕ)) → a ≡ b → Behind a bytes tokens words → Behind b bytes tokens words
moved a b bytes tokens words e h = subst (λ (place : ℕ). Behind place bytes tokens words) e h

rest_of_comment : (place : ℕ) (line behind : List ℕ) (tokens : List Token) (words : List (List ℕ)) → list_all is_clean line ≡ true → Behind (place + length line) behind tokens words → TokensCover true place (line ++ behind) tokens words
rest_of_comment place [] behind tokens words clean h = moved (place + 0) place behind tokens words (add-zero place) h true
rest_of_comment place (b ∷ line) behind tokens words clean h =
    let parts = both (is_clean b) (list_all is_clean line) clean in
    gap_step true true place b (line ++ behind) tokens words (λ more. in_comment b more parts.0)
    (rest_of_comment (suc place) line behind tokens words parts.1 (moved _ _ behind tokens words (omega arith) h))

abbrev span : ℕ → ℕ → Token
span start end = record { start = start; end = end }

-- a line's first lexeme at its place, and what is after it
word_covers : (place len : ℕ) (line behind : List ℕ) (tokens : List Token) (words : List (List ℕ)) → len ≤ length line → TokensCover false (place + len) (drop len line ++ behind) tokens words → TokensCover false place (line ++ behind) (span place (place + len) ∷ tokens) (take len line ∷ words)
unfolding is_gap
word_covers place len line behind tokens words within h =
    let whole : line ++ behind ≡ take len line ++ (drop len line ++ behind) = sym (ap (λ (text : List ℕ). text ++ behind) (take-append-drop len line)) ∙ append_assoc (take len line) (drop len line) behind in
    let long : length (take len line) ≡ len = omega (arith, length-take len line, within) in
    ([], drop len line ++ behind, whole, refl, sym (add-zero place), omega (arith, long), h)

clean_rest : (len : ℕ) (line : List ℕ) → list_all is_clean line ≡ true → list_all is_clean (drop len line) ≡ true
clean_rest len line h =
    let parts = both (list_all is_clean (take len line)) (list_all is_clean (drop len line)) (sym (list_all-append is_clean (take len line) (drop len line)) ∙ ap (list_all is_clean) (take-append-drop len line) ∙ h) in
    parts.1

-- the first lexeme of a line that begins with no hash and no blank
cut_of : (b : ℕ) (line : List ℕ) → is_hash b ≡ false → is_blank b ≡ false → (len : ℕ) × Cut (b ∷ line) len × (0 < len) × (len ≤ length (b ∷ line))
cut_of b line hash blank =
    let within : word_len (b ∷ line) ≤ length (b ∷ line) = omega (arith, length-prefix_len is_word (b ∷ line), length-take (word_len (b ∷ line)) (b ∷ line)) in
    elim (tested (is_word b)) [
      | inl word ↦
          let more : word_len (b ∷ line) ≡ 1 + prefix_len is_word line = rw word refl in
          (word_len (b ∷ line), record { words = first_word_is b line word; places = λ place. first_word_span place b line word }, omega (arith, more), within)
      | inr word ↦ (1, alone b line hash blank word, omega arith, omega arith)
    ]

skips_blank : (place b : ℕ) (line : List ℕ) → is_hash b ≡ false → is_blank b ≡ true → (lexemes (b ∷ line) ≡ lexemes line) × (spans place (b ∷ line) ≡ spans (suc place) line)
unfolding lexemes spans
skips_blank place b line hash blank = (rw (hash, blank) refl, rw (hash, blank) refl)

line_covers : (fuel place : ℕ) (line behind : List ℕ) (tokens : List Token) (words : List (List ℕ)) → length line ≤ fuel → list_all is_clean line ≡ true → Behind (place + length line) behind tokens words → TokensCover false place (line ++ behind) (spans place line ++ tokens) (lexemes line ++ words)
unfolding lexemes spans
line_covers fuel place [] behind tokens words short clean h = moved (place + 0) place behind tokens words (add-zero place) h false
line_covers zero place (b ∷ line) behind tokens words short clean h = absurd (omega (arith, short))
line_covers (suc fuel) place (b ∷ line) behind tokens words short clean h =
    let parts = both (is_clean b) (list_all is_clean line) clean in
    let further : Behind (suc place + length line) behind tokens words = moved _ _ behind tokens words (omega arith) h in
    elim (tested (is_hash b)) [
      | inl hash ↦
          let none = no_lexeme b line hash in
          rw (none.0, none.1 place) (gap_step false true place b (line ++ behind) tokens words (λ more. begins_comment b more hash) (rest_of_comment (suc place) line behind tokens words parts.1 further))
      | inr hash ↦ elim (tested (is_blank b)) [
        | inl blank ↦
            let skips = skips_blank place b line hash blank in
            rw (skips.0, skips.1) (gap_step false false place b (line ++ behind) (spans (suc place) line ++ tokens) (lexemes line ++ words) (λ more. is_blank_gap b more hash blank) (line_covers fuel (suc place) line behind tokens words (omega (arith, short)) parts.1 further))
        | inr blank ↦
            let cut = cut_of b line hash blank in
            let len = cut.0 in
            let rest = drop cut.0 (b ∷ line) in
            let left : length rest ≡ length (b ∷ line) - len = length-drop len (b ∷ line) in
            rw (cut.1.words, cut.1.places place) (word_covers place len (b ∷ line) behind (spans (place + len) rest ++ tokens) (lexemes rest ++ words) cut.3
            (line_covers fuel (place + len) rest behind tokens words (omega (arith, left, cut.2, short)) (clean_rest len (b ∷ line) clean) (moved _ _ behind tokens words (omega (arith, left, cut.3)) h)))
      ]
    ]

-- ---- lines

abbrev pub spans_in : ℕ → List (List ℕ) → List Token
spans_in place [] = []
spans_in place (text ∷ texts) = spans place text ++ spans_in (place + suc (length text)) texts

front_is_clean : (text : List ℕ) → list_all is_clean (take (line_len text) text) ≡ true
front_is_clean [] = refl
front_is_clean (b ∷ text) =
    elim (tested (is_line_feed b)) [
      | inl e ↦ let none : line_len (b ∷ text) ≡ 0 = rw e refl in rw none refl
      | inr e ↦ let more : line_len (b ∷ text) ≡ suc (line_len text) = rw e (omega arith) in rw (more, e) (front_is_clean text)
    ]

-- where the first line ends
abbrev Ends : List ℕ → Type 0
Ends [] = Unit {0}
Ends (b ∷ text) = is_line_feed b ≡ true

first_line_ends : (text : List ℕ) → Ends (drop (line_len text) text)
first_line_ends [] = tt
first_line_ends (b ∷ text) =
    elim (tested (is_line_feed b)) [
      | inl e ↦ let none : line_len (b ∷ text) ≡ 0 = rw e refl in rw none e
      | inr e ↦ let more : line_len (b ∷ text) ≡ suc (line_len text) = rw e (omega arith) in rw more (first_line_ends text)
    ]

abbrev lines_cover : ℕ → List ℕ → Type 0
lines_cover place text = TokensCover false place text (spans_in place (lines text)) (flat_map lexemes (lines text))

behind_line : (place : ℕ) (rest : List ℕ) → Ends rest → lines_cover (suc place) (drop 1 rest) → Behind place rest (spans_in (suc place) (lines (drop 1 rest))) (flat_map lexemes (lines (drop 1 rest)))
unfolding lines is_gap
behind_line place [] ends h true = refl
behind_line place [] ends h false = refl
behind_line place (b ∷ rest) ends h comment = gap_step comment false place b rest _ _ (λ more. is_feed_gap comment b more ends) h

nothing_covered : (place : ℕ) → lines_cover place []
unfolding lines is_gap
nothing_covered place = refl

first_covers : (place : ℕ) (line rest : List ℕ) → list_all is_clean line ≡ true → Ends rest → lines_cover (suc (place + length line)) (drop 1 rest) → TokensCover false place (line ++ rest) (spans place line ++ spans_in (place + suc (length line)) (lines (drop 1 rest))) (lexemes line ++ flat_map lexemes (lines (drop 1 rest)))
first_covers place line rest clean ends h =
    let next : place + suc (length line) ≡ suc (place + length line) = omega arith in
    rw next (line_covers (length line) place line rest (spans_in (suc (place + length line)) (lines (drop 1 rest))) (flat_map lexemes (lines (drop 1 rest))) (omega arith) clean (behind_line (place + length line) rest ends h))

text_covers : (fuel place : ℕ) (text : List ℕ) → length text ≤ fuel → lines_cover place text
text_covers fuel place [] short = nothing_covered place
text_covers zero place (b ∷ text) short = absurd (omega (arith, short))
text_covers (suc fuel) place (b ∷ text) short =
    let line = take (line_len (b ∷ text)) (b ∷ text) in
    let rest = drop (line_len (b ∷ text)) (b ∷ text) in
    let left : length (drop 1 rest) ≤ fuel = omega (arith, length-drop 1 rest, length-drop (line_len (b ∷ text)) (b ∷ text), short) in
    let first = first_covers place line rest (front_is_clean (b ∷ text)) (first_line_ends (b ∷ text)) (text_covers fuel (suc (place + length line)) (drop 1 rest) left) in
    rw (first_line_is b text) (subst (λ (bytes : List ℕ). TokensCover false place bytes (spans place line ++ spans_in (place + suc (length line)) (lines (drop 1 rest))) (lexemes line ++ flat_map lexemes (lines (drop 1 rest)))) (take-append-drop (line_len (b ∷ text)) (b ∷ text)) first)

-- ---- the tokens of a text

given : (read : Result (List Token) AsmFault) (front tokens : List Token) → unless_faulty read (λ more. Ok (front ++ more)) ≡ Ok tokens → (more : List Token) × (read ≡ Ok more) × (tokens ≡ front ++ more)
given (Ok more) front tokens e = (more, refl, cc)
given (Err fault) front tokens e = absurd cc

tokens_are : (line place : ℕ) (texts : List (List ℕ)) (tokens : List Token) → tokens_in line place texts ≡ Ok tokens → (tokens ≡ spans_in place texts) × (list_all is_token (flat_map lexemes texts) ≡ true)
unfolding tokens_in
tokens_are line place [] tokens e = (cc, refl)
tokens_are line place (text ∷ texts) tokens e =
    elim (tested (list_all is_token (lexemes text))) [
      | inl all ↦
          let read = given (tokens_in (suc line) (place + suc (length text)) texts) (spans place text) tokens (rw all at e) in
          let later = tokens_are (suc line) (place + suc (length text)) texts read.0 read.1 in
          (read.2 ∙ ap (λ more. spans place text ++ more) later.0, list_all-append is_token (lexemes text) (flat_map lexemes texts) ∙ rw (all, later.1) refl)
      | inr none ↦ let wrong = rw none at e in absurd cc
    ]

pub tokens_cover : (text : List ℕ) (tokens : List Token) → tokens_of text ≡ Ok tokens → TokensCover false 0 text tokens (flat_map lexemes (lines text)) × (list_all is_token (flat_map lexemes (lines text)) ≡ true)
unfolding tokens_of
tokens_cover text tokens e =
    let are = tokens_are 1 0 (lines text) tokens e in
    (rw are.0 (text_covers (length text) 0 text (omega arith)), are.1)
