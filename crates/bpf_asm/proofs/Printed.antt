-- What is printed of an instruction has these lexemes, each of them a token, and stands on one line.
use Rattle.std.proofs.Common.{◌≡◌, ◌<◌, ◌^◌, ℕ, suc, ℤ, pos, negsuc, Bool, true, false, cond, not, List, [], ◌∷◌, ◌++◌, codes, refl, sym, ap, ◌∙◌, subst, arith, append_assoc}
use Rattle.std.specs.Prelude.{decimal, FitsSigned}
use Rattle.std.specs.List.{list_all}
use Rattle.std.specs.Int.{w32}
use Rattle.std.specs.Fmt.{signed_decimal}
use Rattle.std.proofs.lemmas.Grind.{common_steps}
use Rattle.std.proofs.lemmas.List.Folds.{list_all-append}
use Rattle.bpf_insn.specs.declared.reg.Reg.{Reg}
use Rattle.bpf_insn.specs.declared.insn.Operand.{Operand}
use Rattle.bpf_insn.specs.declared.insn.Operand.TheVariants.{Immediate, Register}
use Rattle.bpf_asm.specs.Bytes.{is_letter, is_digit, is_word, is_blank, is_mark, is_hash, is_line_feed}
use Rattle.bpf_asm.specs.Lexemes.{lexemes, in_front, begins_word}
use Rattle.bpf_asm.specs.Numbers.{is_token, number_of}
use Rattle.bpf_asm.specs.Canon.{register_text, operand_text, signed_text, address_text, HasOperand}
use Rattle.bpf_asm.proofs.Scanning.{word_step}
use Rattle.bpf_asm.proofs.Words.{IsWord, both, is_register, decimal_word, decimal_token}

abbrev pub is_clean : ℕ → Bool
is_clean byte = not (is_line_feed byte)

-- A text has these lexemes, whatever follows it that continues no word.
pub record Prints (text : List ℕ) (words : List (List ℕ)) : Type 0 where
  pub lexed : (rest : List ℕ) → begins_word rest ≡ false → lexemes (text ++ rest) ≡ words ++ lexemes rest
  pub tokens : list_all is_token words ≡ true
  pub clean : list_all is_clean text ≡ true

pub prints_nothing : Prints [] []
prints_nothing = record { lexed = λ rest h. refl; tokens = refl; clean = refl }

word_is_clean : (b : ℕ) → is_word b ≡ true → is_clean b ≡ true
unfolding is_word
word_is_clean b h = grind (arith, common_steps)

words_are_clean : (word : List ℕ) → list_all is_word word ≡ true → list_all is_clean word ≡ true
words_are_clean [] h = refl
words_are_clean (b ∷ bytes) h =
    let parts = both (is_word b) (list_all is_word bytes) h in
    rw (word_is_clean b parts.0, words_are_clean bytes parts.1) refl

lexed_word : (b : ℕ) (bytes rest : List ℕ) → list_all is_word (b ∷ bytes) ≡ true → begins_word rest ≡ false → lexemes ((b ∷ bytes) ++ rest) ≡ (b ∷ bytes) ∷ lexemes rest
lexed_word b [] rest h apart =
    let parts = both (is_word b) true h in
    word_step b rest parts.0 ∙ ap (λ v. cond v (in_front b (lexemes rest)) ((b ∷ []) ∷ lexemes rest)) apart
lexed_word b (c ∷ cs) rest h apart =
    let parts = both (is_word b) (list_all is_word (c ∷ cs)) h in
    let next = both (is_word c) (list_all is_word cs) parts.1 in
    word_step b ((c ∷ cs) ++ rest) parts.0
    ∙ ap (λ v. cond v (in_front b (lexemes ((c ∷ cs) ++ rest))) ((b ∷ []) ∷ lexemes ((c ∷ cs) ++ rest))) next.0
    ∙ ap (in_front b) (lexed_word c cs rest parts.1 apart)

pub prints_word : (word : List ℕ) → IsWord word → is_token word ≡ true → Prints word (word ∷ [])
prints_word [] w token = absurd (omega (arith, w.long))
prints_word (b ∷ bytes) w token = record {
  lexed = λ rest apart. lexed_word b bytes rest w.alone apart;
  tokens = rw token refl;
  clean = words_are_clean (b ∷ bytes) w.alone;
}

begins_apart : (text rest : List ℕ) → begins_word text ≡ false → begins_word rest ≡ false → begins_word (text ++ rest) ≡ false
begins_apart [] rest h apart = apart
begins_apart (b ∷ bytes) rest h apart = h

-- one text after the other
pub prints_both : (a b : List ℕ) (ws vs : List (List ℕ)) → Prints a ws → Prints b vs → begins_word b ≡ false → Prints (a ++ b) (ws ++ vs)
prints_both a b ws vs p q h = record {
  lexed = λ rest apart.
      ap lexemes (append_assoc a b rest) ∙ p.lexed (b ++ rest) (begins_apart b rest h apart) ∙ ap (λ xs. ws ++ xs) (q.lexed rest apart) ∙ sym (append_assoc ws vs (lexemes rest));
  tokens = list_all-append is_token ws vs ∙ rw (p.tokens, q.tokens) refl;
  clean = list_all-append is_clean a b ∙ rw (p.clean, q.clean) refl;
}

-- a mark stands alone
pub record IsMark (mark : ℕ) : Type 0 where
  pub no_hash : is_hash mark ≡ false
  pub no_blank : is_blank mark ≡ false
  pub no_word : is_word mark ≡ false
  pub token : is_token (mark ∷ []) ≡ true
  pub clean : is_clean mark ≡ true

pub prints_mark : (mark : ℕ) (text : List ℕ) (words : List (List ℕ)) → IsMark mark → Prints text words → Prints (mark ∷ text) ((mark ∷ []) ∷ words)
unfolding lexemes
prints_mark mark text words m p = record {
  lexed = λ rest apart. rw (m.no_hash, m.no_blank, m.no_word) (ap (λ xs. (mark ∷ []) ∷ xs) (p.lexed rest apart));
  tokens = rw m.token p.tokens;
  clean = rw m.clean p.clean;
}

pub prints_blank : (text : List ℕ) (words : List (List ℕ)) → Prints text words → Prints (32 ∷ text) words
unfolding lexemes is_blank
prints_blank text words p = record { lexed = λ rest apart. p.lexed rest apart; tokens = p.tokens; clean = p.clean }

module _ where
  pub comma : IsMark 44
  unfolding is_blank is_word is_token number_of is_letter is_digit is_mark
  comma = record { no_hash = refl; no_blank = refl; no_word = refl; token = refl; clean = refl }

  pub open_bracket : IsMark 91
  unfolding is_blank is_word is_token number_of is_letter is_digit is_mark
  open_bracket = record { no_hash = refl; no_blank = refl; no_word = refl; token = refl; clean = refl }

  pub close_bracket : IsMark 93
  unfolding is_blank is_word is_token number_of is_letter is_digit is_mark
  close_bracket = record { no_hash = refl; no_blank = refl; no_word = refl; token = refl; clean = refl }

  pub plus : IsMark 43
  unfolding is_blank is_word is_token number_of is_letter is_digit is_mark
  plus = record { no_hash = refl; no_blank = refl; no_word = refl; token = refl; clean = refl }

  pub minus : IsMark 45
  unfolding is_blank is_word is_token number_of is_letter is_digit is_mark
  minus = record { no_hash = refl; no_blank = refl; no_word = refl; token = refl; clean = refl }

-- ---- the parts of an instruction

pub prints_register : (reg : Reg) → Prints (register_text reg) (register_text reg ∷ [])
prints_register reg = prints_word (register_text reg) (is_register reg).word (is_register reg).token

prints_decimal : (n : ℕ) → n < 2 ^ 64 → Prints (decimal n) (decimal n ∷ [])
prints_decimal n fits = prints_word (decimal n) (decimal_word n fits) (decimal_token n fits)

abbrev pub number_words : ℤ → List (List ℕ)
number_words (pos n) = decimal n ∷ []
number_words (negsuc n) = (45 ∷ []) ∷ decimal (suc n) ∷ []

abbrev pub signed_words : ℤ → List (List ℕ)
signed_words (pos n) = (43 ∷ []) ∷ decimal n ∷ []
signed_words (negsuc n) = (45 ∷ []) ∷ decimal (suc n) ∷ []

abbrev pub operand_words : Operand → List (List ℕ)
operand_words (Immediate value) = number_words value
operand_words (Register reg) = register_text reg ∷ []

pub prints_number : (z : ℤ) → FitsSigned w32 z → Prints (signed_decimal z) (number_words z)
prints_number (pos n) h = prints_decimal n (omega (arith, h.sfits))
prints_number (negsuc n) h = prints_mark 45 (decimal (suc n)) (decimal (suc n) ∷ []) minus (prints_decimal (suc n) (omega (arith, h.sfits)))

pub prints_signed : (z : ℤ) → FitsSigned w32 z → Prints (signed_text z) (signed_words z)
prints_signed (pos n) h = prints_mark 43 (decimal n) (decimal n ∷ []) plus (prints_decimal n (omega (arith, h.sfits)))
prints_signed (negsuc n) h = prints_mark 45 (decimal (suc n)) (decimal (suc n) ∷ []) minus (prints_decimal (suc n) (omega (arith, h.sfits)))

pub signed_apart : (z : ℤ) → begins_word (signed_text z) ≡ false
unfolding is_word
signed_apart (pos n) = refl
signed_apart (negsuc n) = refl

pub prints_operand : (operand : Operand) → HasOperand operand → Prints (operand_text operand) (operand_words operand)
prints_operand (Immediate value) h = prints_number value h
prints_operand (Register reg) h = prints_register reg

abbrev pub address_words : Reg → ℤ → List (List ℕ)
address_words base offset = ((91 ∷ []) ∷ register_text base ∷ []) ++ signed_words offset ++ ((93 ∷ []) ∷ [])

pub prints_address : (base : Reg) (offset : ℤ) → FitsSigned w32 offset → Prints (address_text base offset) (address_words base offset)
unfolding address_text
prints_address base offset h =
    let front = prints_mark 91 (register_text base) (register_text base ∷ []) open_bracket (prints_register base) in
    let inside = prints_both (codes "[" ++ register_text base) (signed_text offset) _ _ front (prints_signed offset h) (signed_apart offset) in
    prints_both _ (codes "]") _ _ inside (prints_mark 93 [] [] close_bracket prints_nothing) close_bracket.no_word

-- ` a, b`
pub prints_pair : (a b : List ℕ) (ws vs : List (List ℕ)) → Prints a ws → Prints b vs → Prints (codes " " ++ a ++ codes ", " ++ b) (ws ++ ((44 ∷ []) ∷ vs))
prints_pair a b ws vs p q =
    let second = prints_mark 44 (32 ∷ b) vs comma (prints_blank b vs q) in
    let whole = prints_blank (a ++ (44 ∷ 32 ∷ b)) (ws ++ ((44 ∷ []) ∷ vs)) (prints_both a (44 ∷ 32 ∷ b) ws ((44 ∷ []) ∷ vs) p second comma.no_word) in
    subst (λ (text : List ℕ). Prints text (ws ++ ((44 ∷ []) ∷ vs))) (sym (append_assoc (32 ∷ a) (44 ∷ 32 ∷ []) b)) whole

-- after that, one part more
pub prints_third : (a b : List ℕ) (ws vs : List (List ℕ)) → Prints a ws → Prints b vs → Prints (a ++ codes ", " ++ b) (ws ++ ((44 ∷ []) ∷ vs))
prints_third a b ws vs p q =
    let second = prints_mark 44 (32 ∷ b) vs comma (prints_blank b vs q) in
    subst (λ (text : List ℕ). Prints text (ws ++ ((44 ∷ []) ∷ vs))) (sym (append_assoc a (44 ∷ 32 ∷ []) b)) (prints_both a (44 ∷ 32 ∷ b) ws ((44 ∷ []) ∷ vs) p second comma.no_word)
