use Rattle.std.proofs.Common.{◌∙◌, List, Global, MatchOption, Option, Some, Vec, ap, codes, refl, subst, sym}
use Rattle.clap.specs.Words.{Text, found_of, rows_of}
use Rattle.cli_line.proofs.Given.{no_text, text_given}
use Rattle.show_question.specs.declared.TableWord.{TableWord}
use Rattle.cli_inspect_line.specs.Deciding.{AreWords, texts_given}
use Rattle.cli_inspect_line.proofs.deciding.decide_plan.Goals as goal

pub returns-in_default : goal.returns-in_default
returns-in_default c = λ makes. no_text (found_of c.args.decide.now) (codes "MANIFEST") c.get_str.result makes.0.0.0 c.get_str.ensures c.in_default.is makes.0.0.1

pub returns-in_default-failure_given : goal.returns-in_default-failure_given
returns-in_default-failure_given c = λ makes. c.in_default-failure_given.ensures makes.1.0.failure makes.1.1.failure

pub returns : goal.returns
returns c =
    let f = found_of c.args.decide.now in
    let texts = texts_given (rows_of f) in
    let manifest = text_given f (codes "MANIFEST") c.get_str.result _ c.get_str.ensures c.in-Some.is ∙ ap (λ (t : Text). Some t) (sym c.in_ok-manifest.ensures.ok) in
    let words : AreWords texts c.in-Some-2.words.items =
    subst (λ (read : Option (Vec TableWord Global)). MatchOption read ((words : List TableWord) → AreWords texts words → ⊥) (λ words. AreWords texts words.items)) c.in-Some-2.is c.in_ok-words.ensures in
    (refl, manifest, record { failure = c.in-Some-failure_given.ensures; words = words }, c.extent_asked.ensures)
