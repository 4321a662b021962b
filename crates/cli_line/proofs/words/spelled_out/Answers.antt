use Rattle.std.proofs.Common.{◌≡◌, ℕ, ◌<◌, ◌++◌, ◌∷◌, [], List, Bor, String, Global, length, map, string_bytes, take, ap, sym, ◌∙◌, arith}
use Rattle.std.proofs.lemmas.Grind.{take_at_read}
use Rattle.std.proofs.lemmas.List.{map-append, take_all}
use Rattle.clap.specs.Words.{Text}
use Rattle.cli_line.specs.RunLine.{spelled_out}
use Rattle.cli_line.proofs.words.spelled_out.Goals as goal

abbrev texts : List (Bor (List ℕ)) → List Text
texts = map (λ (word : Bor (List ℕ)). word.now)

abbrev spelled_all : List (String Global) → List Text
spelled_all words = map spelled_out (map string_bytes words)

more : (words : List (String Global)) (word : String Global) → spelled_all (words ++ word ∷ []) ≡ spelled_all words ++ spelled_out (string_bytes word) ∷ []
more words word = ap (map spelled_out) (map-append string_bytes words (word ∷ [])) ∙ map-append spelled_out (map string_bytes words) (string_bytes word ∷ [])

pub loop-word-init : goal.loop-word-init
loop-word-init c = ap texts c.in_ok-spelled.ensures.items

pub loop-word-preserved : goal.loop-word-preserved
loop-word-preserved c =
    let words = c.args.words.now in
    let lt : c.loop-word.word-index < length words = c.loop-word-test.true in
    let at = take_at_read words c.loop-word.word-index c.word-item.result lt in
    let same : c.spelled_word.result.now ≡ spelled_out (string_bytes c.word-item.result) = c.spelled_word.ensures ∙ ap spelled_out c.as_str.ensures.value in
    ap texts c.in_ok-push.ensures.items
    ∙ (map-append (λ (word : Bor (List ℕ)). word.now) c.loop-word.spelled.items (c.spelled_word.result ∷ [])
    ∙ ((λ i. c.loop-word.invariant i ++ same i ∷ [])
    ∙ sym (ap spelled_all (at.1 ∙ ap (λ (x : String Global). take c.loop-word.word-index words ++ x ∷ []) (sym c.word-item.is)) ∙ more (take c.loop-word.word-index words) c.word-item.result)))

pub returns : goal.returns
returns c =
    let words = c.args.words.now in
    let all : c.loop-word.word-index ≡ length words = omega (arith, c.loop-word-test.false, c.loop-word.auto.word-index-end) in
    c.loop-word.invariant ∙ ap spelled_all (ap (λ (n : ℕ). take n words) all ∙ take_all (length words) words (omega arith))
