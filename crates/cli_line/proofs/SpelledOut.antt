-- Words that are spelled out already.
use Rattle.std.proofs.Common.{◌≡◌, List, [], ◌∷◌, ◌++◌, codes, map, refl}
use Rattle.clap.specs.Words.{Text}
use Rattle.cli_line.specs.RunLine.{IsPlain, RunLine, spelled_out}
use Rattle.cli_line.specs.RunLine.RunLine.{unnumbered, before, between, behind, joined_before, joined_between, joined_behind}

pub plain_out : (word : Text) → IsPlain word → spelled_out word ≡ word
plain_out [] plain = refl
plain_out (x ∷ rest) plain = rw plain refl

pub run_out : (words : List Text) (n m s : Text) → RunLine words n m s → IsPlain n → IsPlain m → IsPlain s → map spelled_out words ≡ words
run_out _ _ _ _ (unnumbered m s) pn pm ps = λ i. codes "run" ∷ plain_out m pm i ∷ plain_out s ps i ∷ []
run_out _ _ _ _ (before n m s) pn pm ps = λ i. codes "run" ∷ codes "--workers" ∷ plain_out n pn i ∷ plain_out m pm i ∷ plain_out s ps i ∷ []
run_out _ _ _ _ (between n m s) pn pm ps = λ i. codes "run" ∷ plain_out m pm i ∷ codes "--workers" ∷ plain_out n pn i ∷ plain_out s ps i ∷ []
run_out _ _ _ _ (behind n m s) pn pm ps = λ i. codes "run" ∷ plain_out m pm i ∷ plain_out s ps i ∷ codes "--workers" ∷ plain_out n pn i ∷ []
run_out _ _ _ _ (joined_before n m s) pn pm ps = λ i. codes "run" ∷ (codes "--workers=" ++ n) ∷ plain_out m pm i ∷ plain_out s ps i ∷ []
run_out _ _ _ _ (joined_between n m s) pn pm ps = λ i. codes "run" ∷ plain_out m pm i ∷ (codes "--workers=" ++ n) ∷ plain_out s ps i ∷ []
run_out _ _ _ _ (joined_behind n m s) pn pm ps = λ i. codes "run" ∷ plain_out m pm i ∷ plain_out s ps i ∷ (codes "--workers=" ++ n) ∷ []
