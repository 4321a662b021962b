-- A line's lexemes, and a text's lines, from the front: what a scanner finds is what the definitions say, which go from the end.
use Rattle.std.proofs.Common.{◌≡◌, ◌<◌, ◌≤◌, ◌+◌, ◌-◌, ℕ, suc, Bool, true, false, cond, ◌⊎◌, inl, inr, List, [], ◌∷◌, length, take, drop, refl, sym, ap, ◌∙◌, arith, add-zero, length-take, length-drop}
use Rattle.std.specs.List.{prefix_len}
use Rattle.std.proofs.lemmas.Grind.{common_steps}
use Rattle.std.proofs.lemmas.List.Folds.{length-prefix_len}
use Rattle.bpf_asm.specs.declared.token.Token.{Token}
use Rattle.bpf_asm.specs.Bytes.{is_word, is_blank, is_hash, is_line_feed}
use Rattle.bpf_asm.specs.Lexemes.{lines, lexemes, spans, in_front, begins_word, widened}
use Rattle.bpf_asm.specs.Scanner.{line_len, blanks_len, word_len, behind_blanks, lexeme_len, IsFirstSpan}

pub tested : (b : Bool) → (b ≡ true) ⊎ (b ≡ false)
tested true = inl refl
tested false = inr refl

blank_is_no_hash : (b : ℕ) → is_blank b ≡ true → is_hash b ≡ false
unfolding is_blank
blank_is_no_hash b h = grind (arith, common_steps)

word_is_no_hash : (b : ℕ) → is_word b ≡ true → is_hash b ≡ false
unfolding is_word
word_is_no_hash b h = grind (arith, common_steps)

word_is_no_blank : (b : ℕ) → is_word b ≡ true → is_blank b ≡ false
unfolding is_word is_blank
word_is_no_blank b h = grind (arith, common_steps)

one_more : (n : ℕ) → 1 + n ≡ suc n
one_more n = omega arith

-- ---- lines

pub first_line_is : (b : ℕ) (bytes : List ℕ) → lines (b ∷ bytes) ≡ take (line_len (b ∷ bytes)) (b ∷ bytes) ∷ lines (drop 1 (drop (line_len (b ∷ bytes)) (b ∷ bytes)))
unfolding lines
first_line_is b [] = elim (tested (is_line_feed b)) [ inl e ↦ rw e refl | inr e ↦ rw e refl ]
first_line_is b (c ∷ cs) =
    let ih = first_line_is c cs in
    elim (tested (is_line_feed b)) [ inl e ↦ rw e refl | inr e ↦ rw (e, one_more (line_len (c ∷ cs)), ih) refl ]

-- ---- blanks

pub lexemes_behind_blanks : (line : List ℕ) → lexemes (behind_blanks line) ≡ lexemes line
unfolding lexemes
lexemes_behind_blanks [] = refl
lexemes_behind_blanks (b ∷ bytes) =
    let ih = lexemes_behind_blanks bytes in
    elim (tested (is_blank b)) [
      | inl e ↦ rw (e, one_more (blanks_len bytes), blank_is_no_hash b e) ih
      | inr e ↦ let none : blanks_len (b ∷ bytes) ≡ 0 = rw e refl in rw none refl
    ]

pub spans_behind_blanks : (place : ℕ) (line : List ℕ) → spans (place + blanks_len line) (behind_blanks line) ≡ spans place line
unfolding spans
spans_behind_blanks place [] = refl
spans_behind_blanks place (b ∷ bytes) =
    let ih = spans_behind_blanks (suc place) bytes in
    elim (tested (is_blank b)) [
      | inl e ↦ rw (e, one_more (blanks_len bytes), blank_is_no_hash b e) (let moved : place + suc (blanks_len bytes) ≡ suc place + blanks_len bytes = omega arith in rw moved ih)
      | inr e ↦ let none : blanks_len (b ∷ bytes) ≡ 0 = rw e refl in rw (none, add-zero) refl
    ]

-- ---- words

pub word_step : (b : ℕ) (bytes : List ℕ) → is_word b ≡ true → lexemes (b ∷ bytes) ≡ cond (begins_word bytes) (in_front b (lexemes bytes)) ((b ∷ []) ∷ lexemes bytes)
unfolding lexemes
word_step b bytes e = rw (word_is_no_hash b e, word_is_no_blank b e, e) refl

-- a word is the longest run in front
pub first_word_is : (b : ℕ) (bytes : List ℕ) → is_word b ≡ true → lexemes (b ∷ bytes) ≡ take (word_len (b ∷ bytes)) (b ∷ bytes) ∷ lexemes (drop (word_len (b ∷ bytes)) (b ∷ bytes))
first_word_is b [] e = word_step b [] e ∙ rw e refl
first_word_is b (c ∷ cs) e =
    word_step b (c ∷ cs) e ∙ elim (tested (is_word c)) [
      | inl w ↦
          let ih = first_word_is c cs w in
          let both : word_len (b ∷ c ∷ cs) ≡ suc (word_len (c ∷ cs)) = rw (e, one_more (word_len (c ∷ cs))) refl in
          ap (λ v. cond v (in_front b (lexemes (c ∷ cs))) ((b ∷ []) ∷ lexemes (c ∷ cs))) w ∙ ap (in_front b) ih ∙ rw both refl
      | inr w ↦
          let one : word_len (b ∷ c ∷ cs) ≡ 1 = rw (e, w) refl in
          let begins : begins_word (c ∷ cs) ≡ false = w in
          rw (one, begins) refl
    ]

abbrev span : ℕ → ℕ → Token
span start end = record { start = start; end = end }

span_step : (place b : ℕ) (bytes : List ℕ) → is_word b ≡ true → spans place (b ∷ bytes) ≡ cond (begins_word bytes) (widened place (spans (suc place) bytes)) (span place (suc place) ∷ spans (suc place) bytes)
unfolding spans
span_step place b bytes e = rw (word_is_no_hash b e, word_is_no_blank b e, e) refl

pub first_word_span : (place b : ℕ) (bytes : List ℕ) → is_word b ≡ true → spans place (b ∷ bytes) ≡ span place (place + word_len (b ∷ bytes)) ∷ spans (place + word_len (b ∷ bytes)) (drop (word_len (b ∷ bytes)) (b ∷ bytes))
first_word_span place b [] e =
    let one : word_len (b ∷ []) ≡ 1 = rw e refl in
    let next : place + 1 ≡ suc place = omega arith in
    span_step place b [] e ∙ rw (one, next) refl
first_word_span place b (c ∷ cs) e =
    span_step place b (c ∷ cs) e ∙ elim (tested (is_word c)) [
      | inl w ↦
          let ih = first_word_span (suc place) c cs w in
          let both : word_len (b ∷ c ∷ cs) ≡ suc (word_len (c ∷ cs)) = rw (e, one_more (word_len (c ∷ cs))) refl in
          let moved : place + suc (word_len (c ∷ cs)) ≡ suc place + word_len (c ∷ cs) = omega arith in
          ap (λ v. cond v (widened place (spans (suc place) (c ∷ cs))) (span place (suc place) ∷ spans (suc place) (c ∷ cs))) w ∙ ap (widened place) ih ∙ rw (both, moved) refl
      | inr w ↦
          let one : word_len (b ∷ c ∷ cs) ≡ 1 = rw (e, w) refl in
          let next : place + 1 ≡ suc place = omega arith in
          let begins : begins_word (c ∷ cs) ≡ false = w in
          rw (one, begins, next) refl
    ]

-- ---- the first lexeme of bytes that begin with no blank

-- the lexemes of bytes whose first one has this length
pub record Cut (bytes : List ℕ) (len : ℕ) : Type 0 where
  pub words : lexemes bytes ≡ take len bytes ∷ lexemes (drop len bytes)
  pub places : (place : ℕ) → spans place bytes ≡ span place (place + len) ∷ spans (place + len) (drop len bytes)

-- a byte of no word, blank or hash stands alone
pub alone : (b : ℕ) (bytes : List ℕ) → is_hash b ≡ false → is_blank b ≡ false → is_word b ≡ false → Cut (b ∷ bytes) 1
unfolding lexemes spans
alone b bytes hash blank word =
    record {
      words = rw (hash, blank, word) refl;
      places = λ place. let next : place + 1 ≡ suc place = omega arith in rw (hash, blank, word, next) refl;
    }

pub no_lexeme : (b : ℕ) (bytes : List ℕ) → is_hash b ≡ true → (lexemes (b ∷ bytes) ≡ []) × ((place : ℕ) → spans place (b ∷ bytes) ≡ [])
unfolding lexemes spans
no_lexeme b bytes hash = (rw hash refl, λ place. rw hash refl)

abbrev begins_blank : List ℕ → Bool
begins_blank [] = false
begins_blank (b ∷ bytes) = is_blank b

-- what follows the blanks begins with none
pub no_blank_behind : (line : List ℕ) → begins_blank (behind_blanks line) ≡ false
no_blank_behind [] = refl
no_blank_behind (b ∷ bytes) =
    elim (tested (is_blank b)) [
      | inl e ↦ rw (e, one_more (blanks_len bytes)) (no_blank_behind bytes)
      | inr e ↦ let none : blanks_len (b ∷ bytes) ≡ 0 = rw e refl in rw none e
    ]

pub is_cut : (bytes : List ℕ) → begins_blank bytes ≡ false → 0 < lexeme_len bytes → Cut bytes (lexeme_len bytes)
unfolding lexeme_len
is_cut [] blank h = absurd (omega (arith, h))
is_cut (b ∷ bytes) blank h =
    elim (tested (is_hash b)) [
      | inl hash ↦ let none : lexeme_len (b ∷ bytes) ≡ 0 = rw hash refl in absurd (omega (arith, h, none))
      | inr hash ↦ elim (tested (is_word b)) [
        | inl word ↦ let len : lexeme_len (b ∷ bytes) ≡ word_len (b ∷ bytes) = rw (hash, word) refl in rw len (record { words = first_word_is b bytes word; places = λ place. first_word_span place b bytes word })
        | inr word ↦ let len : lexeme_len (b ∷ bytes) ≡ 1 = rw (hash, word) refl in rw len (alone b bytes hash blank word)
      ]
    ]

-- where no lexeme begins there is none
pub is_end : (bytes : List ℕ) → begins_blank bytes ≡ false → lexeme_len bytes ≡ 0 → (lexemes bytes ≡ []) × ((place : ℕ) → spans place bytes ≡ [])
unfolding lexeme_len lexemes spans
is_end [] blank h = (refl, λ place. refl)
is_end (b ∷ bytes) blank h =
    elim (tested (is_hash b)) [
      | inl hash ↦ no_lexeme b bytes hash
      | inr hash ↦ elim (tested (is_word b)) [
        | inl word ↦ let len : lexeme_len (b ∷ bytes) ≡ suc (prefix_len is_word bytes) = rw (hash, word, one_more (prefix_len is_word bytes)) refl in absurd (let no : suc (prefix_len is_word bytes) ≡ 0 = sym len ∙ h in omega (arith, no))
        | inr word ↦ let len : lexeme_len (b ∷ bytes) ≡ 1 = rw (hash, word) refl in absurd (let no : 1 ≡ 0 = sym len ∙ h in omega (arith, no))
      ]
    ]

-- ---- the first lexeme of a line

-- a line's lexemes begin with this one, at this place, and the others are in rest
pub record First (line word rest : List ℕ) : Type 0 where
  pub words : lexemes line ≡ word ∷ lexemes rest
  pub places : IsFirstSpan line word rest

pub first_is : (line : List ℕ) → 0 < lexeme_len (behind_blanks line) → lexeme_len (behind_blanks line) ≤ length (behind_blanks line) → First line (take (lexeme_len (behind_blanks line)) (behind_blanks line)) (drop (lexeme_len (behind_blanks line)) (behind_blanks line))
first_is line more within =
    let bare = behind_blanks line in
    let len = lexeme_len (behind_blanks line) in
    let cut = is_cut bare (no_blank_behind line) more in
    let blanks : blanks_len line ≤ length line = omega (arith, length-prefix_len is_blank line, length-take (blanks_len line) line) in
    let bare_len : length bare ≡ length line - blanks_len line = length-drop (blanks_len line) line in
    let word_is : length (take len bare) ≡ len = omega (arith, within, length-take len bare) in
    let rest_is : length (drop len bare) ≡ length bare - len = length-drop len bare in
    record {
      words = sym (lexemes_behind_blanks line) ∙ cut.words;
      places = record {
        not_empty = omega (arith, word_is, more);
        shorter = omega (arith, word_is, rest_is, bare_len, within);
        first = λ place.
            let end : place + (length line - length (drop len bare)) ≡ place + blanks_len line + len = omega (arith, rest_is, bare_len, within, blanks) in
            let start : place + (length line - length (drop len bare)) - length (take len bare) ≡ place + blanks_len line = omega (arith, rest_is, bare_len, within, blanks, word_is) in
            sym (spans_behind_blanks place line) ∙ cut.places (place + blanks_len line) ∙ rw (start, end) refl;
      };
    }

pub none_is : (line : List ℕ) → lexeme_len (behind_blanks line) ≡ 0 → (lexemes line ≡ []) × ((place : ℕ) → spans place line ≡ [])
none_is line h =
    let none = is_end (behind_blanks line) (no_blank_behind line) h in
    (sym (lexemes_behind_blanks line) ∙ none.0, λ place. sym (spans_behind_blanks place line) ∙ none.1 (place + blanks_len line))
