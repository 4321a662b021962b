use Rattle.std.proofs.Common.{◌≡◌, ◌<◌, ◌-◌, ℕ, List, [], ◌∷◌, ◌∙◌, length, take, drop, ap, arith, refl}
use Rattle.std.proofs.lemmas.Grind.{common_steps}
use Rattle.bpf_asm.specs.Lexemes.{lines}
use Rattle.bpf_asm.specs.Scanner.{line_len}
use Rattle.bpf_asm.proofs.Scanning.{first_line_is}
use Rattle.bpf_asm.proofs.lexeme.first_line.Goals as goal

-- the first line of a text that is not empty, and what follows it
parted : (text line rest behind : List ℕ) → 0 < length text → line ≡ take (line_len text) text → rest ≡ drop (line_len text) text → behind ≡ drop 1 rest → lines text ≡ line ∷ lines behind
parted [] line rest behind h front back e = absurd (omega (arith, h))
parted (b ∷ bytes) line rest behind h front back e = rw (front, e, back) (first_line_is b bytes)

emptied : (rest : List ℕ) → length rest < 1 → rest ≡ drop 1 rest
emptied [] h = refl
emptied (b ∷ bytes) h = absurd (omega (arith, h))

tail_of : (rest : List ℕ) → take (length rest - 1) (drop 1 rest) ≡ drop 1 rest
tail_of [] = refl
tail_of (b ∷ bytes) = grind (arith, common_steps)

pub returns-in-empty-clause-lines : goal.returns-in-empty-clause-lines
returns-in-empty-clause-lines c =
    let len = c.line_len.ensures.len in
    let parts = c.split_at.ensures in
    parted _ _ _ _ c.requires (parts.front ∙ ap (λ n. take n c.args.text.now) len) (parts.back ∙ ap (λ n. drop n c.args.text.now) len) (emptied _ c.in-empty.len_below)

pub returns-in-len1-up-clause-lines : goal.returns-in-len1-up-clause-lines
returns-in-len1-up-clause-lines c =
    let len = c.line_len.ensures.len in
    let parts = c.split_at.ensures in
    parted _ _ c.split_at.result.1.now _ c.requires (parts.front ∙ ap (λ n. take n c.args.text.now) len) (parts.back ∙ ap (λ n. drop n c.args.text.now) len) (tail_of _)
