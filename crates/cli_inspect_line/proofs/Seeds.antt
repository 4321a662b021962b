-- The seed that is given after `try`.
use Rattle.std.proofs.Common.{◌≡◌, ◌∙◌, ℕ, List, Option, None, Some, ap, codes, subst, sym}
use Rattle.std.specs.Prelude.{unwrap_or}
use Rattle.clap.specs.Words.{Row, Text, first_of}
use Rattle.trace_lines.specs.Texts.{long_number_text}
use Rattle.trace_lines.specs.Written.{Reads}
use Rattle.cli_inspect_line.specs.Deciding.{IsSpelled}
use Rattle.cli_inspect_line.specs.Trying.{HasSeed, LacksSeed}

-- a word that is read as a number is the seed
pub seed_is : (rows : List Row) (word : Text) (read : Option ℕ) (seed : ℕ) → first_of (codes "seed") rows ≡ Some word → Reads long_number_text word read → read ≡ Some seed
    → HasSeed rows (Some seed)
seed_is rows word (Some n) seed given reads is = (word, given, ap long_number_text (ap (λ (o : Option ℕ). unwrap_or o n) (sym is)) ∙ reads.said)
seed_is rows word None seed given reads is = absurd cc

-- a word that is no number is no seed
pub no_seed : (rows : List Row) (word : Text) (read : Option ℕ) → first_of (codes "seed") rows ≡ Some word → Reads long_number_text word read → read ≡ None → LacksSeed rows
no_seed rows word read given reads none None has = let bad : Some word ≡ None = sym given ∙ has in cc
no_seed rows word read given reads none (Some seed) has =
    let same : has.0 ≡ word = ap (λ (o : Option Text). unwrap_or o word) (sym has.1 ∙ given) in
    let bad : None ≡ Some seed = sym none ∙ reads.back seed (has.2 ∙ ap (λ (t : Text). Some t) same) in
    cc
