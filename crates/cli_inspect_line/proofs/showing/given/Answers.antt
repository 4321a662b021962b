use Rattle.std.proofs.Common.{◌≡◌, ◌≤◌, ◌∙◌, ℕ, List, None, Option, Some, ap, subst, sym}
use Rattle.std.specs.Prelude.{unwrap_or}
use Rattle.clap.specs.Words.{Row, Text, first_of, found_of}
use Rattle.cli_line.specs.RunLine.{Spells}
use Rattle.cli_line.proofs.Given.{nothing_given, text_given}
use Rattle.cli_inspect_line.specs.FoundPlan.{FindsNumber, IsUpTo}
use Rattle.cli_inspect_line.proofs.showing.given.Goals as goal

pub returns-in-None-clause-found : goal.returns-in-None-clause-found
returns-in-None-clause-found c = nothing_given (found_of c.args.show.now) c.args.name.now c.get_str.result c.get_str.ensures c.in-None.is

pub returns-in-Some-number_in-clause-found : goal.returns-in-Some-number_in-clause-found
returns-in-Some-number_in-clause-found c = (
  c.in-Some.word.now,
  text_given (found_of c.args.show.now) c.args.name.now c.get_str.result _ c.get_str.ensures c.in-Some.is,
  c.in-Some-number_in.ensures.0,
)

-- the word that was found spells no number up to the greatest
no_number : (name word : Text) (rows : List Row) (greatest : ℕ) (number : Option ℕ) → first_of name rows ≡ Some word
    → ((n : ℕ) → Spells word n → n ≤ greatest → ⊥) → IsUpTo greatest number → FindsNumber name rows number → ⊥
no_number name word rows greatest None is none few found = let bad : Some word ≡ None = sym is ∙ found in cc
no_number name word rows greatest (Some n) is none few found =
    let same : found.0 ≡ word = ap (λ (o : Option Text). unwrap_or o word) (sym found.1 ∙ is) in
    none n (subst (λ (w : Text). Spells w n) same found.2) few

pub returns-in-None-number_in-clause-found : goal.returns-in-None-number_in-clause-found
returns-in-None-number_in-clause-found c = λ number few found.
    no_number c.args.name.now c.in-Some.word.now _ c.args.greatest number
    (text_given (found_of c.args.show.now) c.args.name.now c.get_str.result _ c.get_str.ensures c.in-Some.is) c.in-None-number_in.ensures few found
