-- A text's lines, and the lexemes of a line. A lexeme is its bytes: a longest run of letters, digits and `_`, or one other
-- byte that is no blank. Whether it is a token (a name, a number or a mark) is asked apart.
use Rattle.std.specs.Prelude.{ℕ, suc, Bool, false, ◌&&◌, List, [], ◌∷◌, if◌then◌else◌}
use Rattle.bpf_asm.specs.Bytes.{is_word, is_blank, is_hash, is_line_feed}
use Rattle.bpf_asm.specs.declared.token.Token.{Token}

-- the byte in front of the first of these runs
abbrev pub in_front : ℕ → List (List ℕ) → List (List ℕ)
in_front byte [] = (byte ∷ []) ∷ []
in_front byte (run ∷ runs) = (byte ∷ run) ∷ runs

-- a line ends at a line feed or at the text's end
unfoldable pub lines : List ℕ → List (List ℕ)
lines [] = []
lines (byte ∷ bytes) = if is_line_feed byte then [] ∷ lines bytes else in_front byte (lines bytes)

abbrev pub begins_word : List ℕ → Bool
begins_word [] = false
begins_word (byte ∷ bytes) = is_word byte

-- The lexemes of a line, from its end: a byte of a word continues the run after it, or begins one.
unfoldable pub lexemes : List ℕ → List (List ℕ)
lexemes [] = []
lexemes (byte ∷ bytes) =
    if is_hash byte then []
    else (if is_blank byte then lexemes bytes
    else (if is_word byte && begins_word bytes then in_front byte (lexemes bytes)
    else (byte ∷ []) ∷ lexemes bytes))

-- the first of these places begins one byte before
abbrev pub widened : ℕ → List Token → List Token
widened place [] = []
widened place (token ∷ tokens) = record { start = place; end = token.end } ∷ tokens

-- the places of the lexemes of a line whose first byte has this place
unfoldable pub spans : ℕ → List ℕ → List Token
spans place [] = []
spans place (byte ∷ bytes) =
    if is_hash byte then []
    else (if is_blank byte then spans (suc place) bytes
    else (if is_word byte && begins_word bytes then widened place (spans (suc place) bytes)
    else record { start = place; end = suc place } ∷ spans (suc place) bytes))
