use Rattle.cli_inspect_line.proofs.WordsOf.{lent_more, no_lent_words}
use Rattle.cli_inspect_line.proofs.deciding.words_in.Goals as goal

pub returns-in-None : goal.returns-in-None
returns-in-None c = λ words. no_lent_words c.args.texts.now c.loop-text.text-index _ words c.loop-text-test.true c.in-None.ensures

pub loop-text-preserved : goal.loop-text-preserved
loop-text-preserved c =
    lent_more c.args.texts.now c.loop-text.text-index _ c.loop-text.words.items c.add.new.words.items c.in-Some.word c.loop-text.invariant c.loop-text-test.true c.in-Some.ensures c.in_ok-add-in-Some.ensures
