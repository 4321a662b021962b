-- The tokens of a text with their places, and what stands between them.
use Rattle.std.specs.Prelude.{◌≡◌, ℕ, suc, ◌+◌, Bool, true, false, not, ◌&&◌, ◌||◌, List, [], ◌∷◌, ◌++◌, length, Result, Ok, Err, if◌then◌else◌}
use Rattle.std.specs.List.{list_all}
use Rattle.bpf_asm.specs.declared.fault.LineFault.TheVariants.{NoToken}
use Rattle.bpf_asm.specs.declared.fault.AsmFault.{AsmFault}
use Rattle.bpf_asm.specs.declared.fault.AsmFault.TheVariants.{At}
use Rattle.bpf_asm.specs.declared.token.Token.{Token}
use Rattle.bpf_asm.specs.Bytes.{is_blank, is_hash, is_line_feed}
use Rattle.bpf_asm.specs.Lexemes.{lines, lexemes, spans}
use Rattle.bpf_asm.specs.Numbers.{is_token}
use Rattle.bpf_asm.specs.Reading.{unless_faulty}

-- The tokens of lines, the first of which has this number and place, or the first line that holds anything else.
unfoldable pub tokens_in : ℕ → ℕ → List (List ℕ) → Result (List Token) AsmFault
tokens_in line place [] = Ok []
tokens_in line place (text ∷ texts) =
    if list_all is_token (lexemes text)
    then unless_faulty (tokens_in (suc line) (place + suc (length text)) texts) (λ tokens. Ok (spans place text ++ tokens))
    else Err (At line NoToken)

unfoldable pub tokens_of : List ℕ → Result (List Token) AsmFault
tokens_of text = tokens_in 1 0 (lines text)

-- What may stand between tokens: blanks, line feeds, and comments up to their line feed. Whether it begins inside a comment.
unfoldable pub is_gap : Bool → List ℕ → Bool
is_gap comment [] = true
is_gap true (byte ∷ bytes) = is_gap (not (is_line_feed byte)) bytes
is_gap false (byte ∷ bytes) = if is_hash byte then is_gap true bytes else (is_blank byte || is_line_feed byte) && is_gap false bytes

-- Bytes from a place on are a gap, the first of these words at its token's place, a gap, the next one, and so on, and a gap at the end.
abbrev pub TokensCover : Bool → ℕ → List ℕ → List Token → List (List ℕ) → Type 0
TokensCover comment place bytes [] [] = is_gap comment bytes ≡ true
TokensCover comment place bytes [] (word ∷ words) = ⊥
TokensCover comment place bytes (token ∷ tokens) [] = ⊥
TokensCover comment place bytes (token ∷ tokens) (word ∷ words) =
    (gap rest : List ℕ) × (bytes ≡ gap ++ (word ++ rest)) × (is_gap comment gap ≡ true)
    × (token.start ≡ place + length gap) × (token.end ≡ token.start + length word) × TokensCover false token.end rest tokens words
