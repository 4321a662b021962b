use Rattle.std.proofs.Common.{List, [], Vec, Global, MatchOption, Option, subst, sym}
use Rattle.std.specs.Prelude.{IfOk}
use Rattle.clap.specs.Words.{Text, found_of, rows_of}
use Rattle.show_question.specs.declared.TableWord.{TableWord}
use Rattle.cli_inspect_line.specs.Deciding.{AreWords, texts_given}
use Rattle.cli_inspect_line.proofs.WordsOf.{no_texts_found, texts_found}
use Rattle.cli_inspect_line.proofs.deciding.words_given.Goals as goal

pub returns-in-Some : goal.returns-in-Some
returns-in-Some c =
    subst (λ (texts : List Text). IfOk c.words_in.result (λ (read : Option (Vec TableWord Global)). MatchOption read ((words : List TableWord) → AreWords texts words → ⊥) (λ words. AreWords texts words.items)))
    (sym (texts_found (found_of c.args.decide.now) c.get_strs.result c.in-Some.texts c.get_strs.ensures c.in-Some.is)) c.words_in.ensures

pub returns-in-None : goal.returns-in-None
returns-in-None c =
    subst (λ (words : List TableWord). AreWords (texts_given (rows_of (found_of c.args.decide.now))) words) (sym c.new.ensures.items)
    (subst (λ (texts : List Text). AreWords texts []) (sym (no_texts_found (found_of c.args.decide.now) c.get_strs.result c.get_strs.ensures c.in-None.is)) tt)
