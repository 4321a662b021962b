use Rattle.std.proofs.Common.{◌∙◌, get_or}
use Rattle.show_question.specs.declared.TableWord.{TableWord}
use Rattle.host_decision.proofs.Written.{has_word, placed, written_more}
use Rattle.host_decision.proofs.opening_words.tables_of.Goals as goal

pub put-requires : goal.put-requires
put-requires c =
    let none : TableWord = record { table = 0; index = 0; word = 0 } in
    let words = c.args.words.now in
    has_word c.args.config.now c.loop-word.tables (get_or words c.loop-word.word-index none) c.loop-word.invariant.lengths
    (placed c.args.config.now words c.loop-word.word-index none c.requires c.loop-word-test.true)

pub loop-word-preserved : goal.loop-word-preserved
loop-word-preserved c =
    let none : TableWord = record { table = 0; index = 0; word = 0 } in
    record {
      so = written_more c.args.config.now.tables c.args.words.now c.loop-word.word-index none _ _ c.loop-word.invariant.so c.put.ensures.tables c.loop-word-test.true;
      lengths = c.put.ensures.lengths ∙ c.loop-word.invariant.lengths;
    }
