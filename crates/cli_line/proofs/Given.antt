-- What the getters of `clap`'s matches give, by their rows.
use Rattle.std.proofs.Common.{◌≡◌, ◌∙◌, ℕ, Bool, true, false, List, Option, Some, None, MatchOption, codes, refl, sym, subst, ap}
use Rattle.std.specs.Prelude.{MatchBool, option_map, unwrap_or}
use Rattle.std.specs.Borrow.{Bor}
use Rattle.clap.specs.Words.{Row, Text, first_of, first_value, rows_of}
use Rattle.clap.specs.declared.parser.matches.Found.{Found}
use Rattle.clap.proofs.WalkLemmas.{first_value-rows}
use Rattle.cli_line.specs.FoundPlan.{IsGiven, ReadsVersion, ReadsWatch, ReadsWorkers}
use Rattle.cli_line.specs.RunLine.{IsLawfulNumber, Spells, SpellsNoLawfulNumber, version_word, watch_word}
use Rattle.cli_line.specs.declared.plans.LaterVersion.{LaterVersion}
use Rattle.cli_line.specs.declared.plans.Watch.{Watch}

-- the text that `get_str` gives
pub text_given : (f : Found) (id : Text) (o : Option (Bor (List ℕ))) (t : Bor (List ℕ)) → option_map (λ s. s.now) o ≡ first_value f id → o ≡ Some t
    → first_of id (rows_of f) ≡ Some t.now
text_given f id o t given is = sym (first_value-rows f id) ∙ (sym given ∙ ap (option_map (λ s. s.now)) is)

pub none_given : (f : Found) (id : Text) (o : Option (Bor (List ℕ))) → option_map (λ s. s.now) o ≡ first_value f id → first_of id (rows_of f) ≡ None → o ≡ None
none_given f id o given none = go o (given ∙ (first_value-rows f id ∙ none))
  where
    go : (o : Option (Bor (List ℕ))) → option_map (λ (s : Bor (List ℕ)). s.now) o ≡ None → o ≡ None
    go None is = refl
    go (Some t) is = let bad : Some t.now ≡ None = is in cc

pub no_text : (f : Found) (id : Text) (o : Option (Bor (List ℕ))) (t : Text) → option_map (λ s. s.now) o ≡ first_value f id → o ≡ None
    → first_of id (rows_of f) ≡ Some t → ⊥
no_text f id o t given is found =
    let none : first_of id (rows_of f) ≡ None = sym (first_value-rows f id) ∙ (sym given ∙ ap (option_map (λ s. s.now)) is) in
    cc

-- what is read in the word that was given is the number of workers
pub workers_read : (rows : List Row) (word : Text) (o : Option ℕ) → first_of (codes "workers") rows ≡ Some word
    → MatchOption o (SpellsNoLawfulNumber word) (λ n. Spells word n × IsLawfulNumber n) → ReadsWorkers rows o
workers_read rows word (Some n) is read = (read.1, (word, is, read.0))
workers_read rows word None is none = λ other is_other.
    subst SpellsNoLawfulNumber (ap (λ (x : Option Text). unwrap_or x word) (sym is ∙ is_other)) none

-- what is read in the word that was given is when sums are told
pub watch_read : (rows : List Row) (word : Text) (o : Option Watch) → first_of (codes "watch") rows ≡ Some word
    → MatchOption o ((watch : Watch) → word ≡ watch_word watch → ⊥) (λ watch. word ≡ watch_word watch) → ReadsWatch rows o
watch_read rows word (Some watch) is read = is ∙ ap Some read
watch_read rows word None is none = λ watch found. none watch (ap (λ (x : Option Text). unwrap_or x word) (sym is ∙ found))

-- what is read in the word that was given is the version
pub version_read : (rows : List Row) (word : Text) (o : Option LaterVersion) → first_of (codes "to") rows ≡ Some word
    → MatchOption o ((to : LaterVersion) → word ≡ version_word to → ⊥) (λ to. word ≡ version_word to) → ReadsVersion rows o
version_read rows word (Some to) is read = is ∙ ap Some read
version_read rows word None is none = λ to found. none to (ap (λ (x : Option Text). unwrap_or x word) (sym is ∙ found))

-- nothing that `get_str` gives
pub nothing_given : (f : Found) (id : Text) (o : Option (Bor (List ℕ))) → option_map (λ s. s.now) o ≡ first_value f id → o ≡ None → first_of id (rows_of f) ≡ None
nothing_given f id o given is = sym (first_value-rows f id) ∙ (sym given ∙ ap (option_map (λ s. s.now)) is)

-- a flag is given where its word is `true`
pub flag_told : (rows : List Row) (name word : Text) (b : Bool) → first_of name rows ≡ Some word
    → MatchBool b (word ≡ codes "true") (word ≡ codes "true" → ⊥) → MatchBool b (IsGiven name rows) (IsGiven name rows → ⊥)
flag_told rows name word true is same = is ∙ ap Some same
flag_told rows name word false is differs = λ asked. differs (ap (λ (x : Option Text). unwrap_or x word) (sym is ∙ asked))
