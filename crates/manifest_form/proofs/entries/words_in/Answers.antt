use Rattle.std.proofs.Common.{◌≡◌, Bool, List, ℕ, Option, Some, None, map, ap, sym, ◌∙◌}
use Rattle.std.specs.List.{list_all}
use Rattle.std.specs.Prelude.{if◌then◌else◌}
use Rattle.toml.specs.Data.{Data}
use Rattle.toml.specs.declared.value.Value.{Value}
use Rattle.toml.specs.View.{view}
use Rattle.manifest_form.specs.Entries.{is_word, word_at, words_in}
use Rattle.manifest_form.proofs.Lists.{list_all-map}
use Rattle.manifest_form.proofs.entries.words_in.Goals as goal

-- what is read, by whether each is a word
by : (values : List Value) (all : Bool) → all ≡ list_all (λ value. is_word (view value)) values
    → (if all then Some (map word_at (map view values)) else None) ≡ words_in (map view values)
by values all is =
    ap (λ (b : Bool). if b then Some (map word_at (map view values)) else None) (is ∙ sym (list_all-map is_word view values))

pub returns-then-not-are_words : goal.returns-then-not-are_words
returns-then-not-are_words c =
    ap (λ (b : Bool). if b then Some (map word_at (map view c.args.values.now)) else None) (sym c.if-not-are_words.true) ∙ by c.args.values.now c.are_words.result c.are_words.ensures

pub returns : goal.returns
returns c =
    ap (λ (words : List ℕ). Some words) c.in_ok-all_words.ensures
    ∙ (ap (λ (b : Bool). if b then Some (map word_at (map view c.args.values.now)) else None) (sym c.if-not-are_words.false) ∙ by c.args.values.now c.are_words.result c.are_words.ensures)
