-- The words of tables that texts say, one after the other.
use Rattle.std.proofs.Common.{◌≡◌, ◌∙◌, ◌<◌, ℕ, zero, suc, ◌+◌, List, [], ◌∷◌, ◌++◌, Option, None, Some, ap, arith, codes, get_or, length, map, refl, subst, sym, take}
use Rattle.std.specs.Borrow.{Bor}
use Rattle.std.specs.Prelude.{option_map, unwrap_or}
use Rattle.std.proofs.lemmas.List.{length-map, take_more}
use Rattle.clap.proofs.WalkLemmas.{raw_values-rows}
use Rattle.clap.specs.Matches.{matched_of, raw_values}
use Rattle.clap.specs.Words.{Text, rows_of}
use Rattle.clap.specs.declared.parser.matches.Found.{Found}
use Rattle.show_question.specs.declared.TableWord.{TableWord}
use Rattle.cli_inspect_line.specs.Deciding.{AreWords, IsWordText, texts_given}

pushed : (texts : List Text) (words : List TableWord) (text : Text) (word : TableWord) → AreWords texts words → IsWordText text word → AreWords (texts ++ text ∷ []) (words ++ word ∷ [])
pushed [] [] text word are is = (is, tt)
pushed [] (it ∷ more) text word are is = absurd are
pushed (t ∷ ts) [] text word are is = absurd are
pushed (t ∷ ts) (it ∷ more) text word are is = (are.0, pushed ts more text word are.1 is)

-- one word more
pub words_more : (texts : List Text) (k : ℕ) (words : List TableWord) (text : Text) (word : TableWord) → AreWords (take k texts) words → k < length texts → get_or texts k text ≡ text → IsWordText text word
    → AreWords (take (k + 1) texts) (words ++ word ∷ [])
words_more texts k words text word are below at is =
    subst (λ (ts : List Text). AreWords ts (words ++ word ∷ [])) (sym (take_more texts k text below))
    (subst (λ (t : Text). AreWords (take k texts ++ t ∷ []) (words ++ word ∷ [])) (sym at) (pushed (take k texts) words text word are is))

-- no words, where one text says none
pub no_words : (texts : List Text) (k : ℕ) (text : Text) (words : List TableWord) → k < length texts → get_or texts k text ≡ text → ((word : TableWord) → IsWordText text word → ⊥) → AreWords texts words → ⊥
no_words [] k text words below at none are = omega (arith, below)
no_words (t ∷ ts) k text [] below at none are = are
no_words (t ∷ ts) zero text (it ∷ more) below at none are = none it (subst (λ (x : Text). IsWordText x it) at are.0)
no_words (t ∷ ts) (suc k) text (it ∷ more) below at none are = no_words ts k text more (omega (arith, below)) at none are.1

abbrev texts_of : Bor (List (Bor (List ℕ))) → List Text
texts_of texts = map (λ (text : Bor (List ℕ)). text.now) texts.now

-- the texts that `get_strs` gives are those that `clap` found
pub texts_found : (f : Found) (o : Option (Bor (List (Bor (List ℕ))))) (texts : Bor (List (Bor (List ℕ)))) → option_map texts_of o ≡ option_map raw_values (matched_of f (codes "word")) → o ≡ Some texts
    → texts_given (rows_of f) ≡ texts_of texts
texts_found f o texts given is =
    ap (λ (o : Option (List Text)). unwrap_or o []) (sym (raw_values-rows f (codes "word")) ∙ (sym given ∙ ap (option_map texts_of) is))

pub no_texts_found : (f : Found) (o : Option (Bor (List (Bor (List ℕ))))) → option_map texts_of o ≡ option_map raw_values (matched_of f (codes "word")) → o ≡ None → texts_given (rows_of f) ≡ []
no_texts_found f o given is = ap (λ (o : Option (List Text)). unwrap_or o []) (sym (raw_values-rows f (codes "word")) ∙ (sym given ∙ ap (option_map texts_of) is))

at_text : (texts : List (Bor (List ℕ))) (k : ℕ) (d : Bor (List ℕ)) (text : Text) → k < length texts → get_or (map (λ (it : Bor (List ℕ)). it.now) texts) k text ≡ (get_or texts k d).now
at_text [] k d text below = absurd (omega (arith, below))
at_text (first ∷ texts) zero d text below = refl
at_text (first ∷ texts) (suc k) d text below = at_text texts k d text (omega (arith, below))

within : (texts : List (Bor (List ℕ))) (k : ℕ) → k < length texts → k < length (map (λ (it : Bor (List ℕ)). it.now) texts)
within texts k below = omega (arith, below, length-map texts (λ (it : Bor (List ℕ)). it.now))

-- the same of texts that are lent
pub lent_more : (texts : List (Bor (List ℕ))) (k : ℕ) (d : Bor (List ℕ)) (words new : List TableWord) (word : TableWord) → AreWords (take k (map (λ (it : Bor (List ℕ)). it.now) texts)) words → k < length texts
    → IsWordText (get_or texts k d).now word → new ≡ words ++ word ∷ [] → AreWords (take (k + 1) (map (λ (it : Bor (List ℕ)). it.now) texts)) new
lent_more texts k d words new word are below is pushed =
    subst (AreWords (take (k + 1) (map (λ (it : Bor (List ℕ)). it.now) texts))) (sym pushed)
    (words_more (map (λ (it : Bor (List ℕ)). it.now) texts) k words (get_or texts k d).now word are (within texts k below) (at_text texts k d (get_or texts k d).now below) is)

pub no_lent_words : (texts : List (Bor (List ℕ))) (k : ℕ) (d : Bor (List ℕ)) (words : List TableWord) → k < length texts → ((word : TableWord) → IsWordText (get_or texts k d).now word → ⊥)
    → AreWords (map (λ (it : Bor (List ℕ)). it.now) texts) words → ⊥
no_lent_words texts k d words below none =
    no_words (map (λ (it : Bor (List ℕ)). it.now) texts) k (get_or texts k d).now words (within texts k below) (at_text texts k d (get_or texts k d).now below) none
