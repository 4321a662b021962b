use Rattle.std.proofs.Common.{◌≡◌, ◌≢◌, ◌≤◌, ℕ, List, ◌∙◌, length, take, drop, ap, arith, sym}
use Rattle.bpf_asm.specs.Scanner.{behind_blanks, lexeme_len}
use Rattle.bpf_asm.specs.Reading.{first_in}
use Rattle.bpf_asm.proofs.Scanning.{First, first_is, none_is}
use Rattle.bpf_asm.proofs.lexeme.first_lexeme.Goals as goal

-- the same of what the calls gave
first_of : (line bare word rest : List ℕ) (len : ℕ) → bare ≡ behind_blanks line → len ≡ lexeme_len bare → len ≤ length bare → len ≢ 0 → word ≡ take len bare → rest ≡ drop len bare → First line word rest
first_of line bare word rest len b l within more w r =
    let len_is : len ≡ lexeme_len (behind_blanks line) = l ∙ ap lexeme_len b in
    let word_is : word ≡ take (lexeme_len (behind_blanks line)) (behind_blanks line) = w ∙ (λ i. take (len_is i) (b i)) in
    let rest_is : rest ≡ drop (lexeme_len (behind_blanks line)) (behind_blanks line) = r ∙ (λ i. drop (len_is i) (b i)) in
    rw (word_is, rest_is) (first_is line (omega (arith, more, len_is)) (omega (arith, within, len_is, ap length b)))

pub returns-then-len-eq0-clause-lexeme : goal.returns-then-len-eq0-clause-lexeme
returns-then-len-eq0-clause-lexeme c =
    ap first_in (none_is c.args.line.now (sym (ap lexeme_len c.behind_blanks-line.ensures) ∙ sym c.lexeme_len-len.ensures.len ∙ c.if-len-eq0.true)).0

pub returns-then-len-eq0-clause-none : goal.returns-then-len-eq0-clause-none
returns-then-len-eq0-clause-none c =
    (none_is c.args.line.now (sym (ap lexeme_len c.behind_blanks-line.ensures) ∙ sym c.lexeme_len-len.ensures.len ∙ c.if-len-eq0.true)).1

pub returns-clause-lexeme : goal.returns-clause-lexeme
returns-clause-lexeme c =
    let len = c.lexeme_len-len.ensures in
    let parts = c.split_at.ensures in
    ap first_in (first_of c.args.line.now _ _ _ _ c.behind_blanks-line.ensures len.len len.within c.if-len-eq0.false parts.front parts.back).words

pub returns-clause-some : goal.returns-clause-some
returns-clause-some c =
    let len = c.lexeme_len-len.ensures in
    let parts = c.split_at.ensures in
    (first_of c.args.line.now _ _ _ _ c.behind_blanks-line.ensures len.len len.within c.if-len-eq0.false parts.front parts.back).places
