use Rattle.std.proofs.Common.{sym, ◌∙◌, arith}
use Rattle.engine_carried.specs.TakenOver.{first_words}
use Rattle.engine_carried.proofs.Alike.{not_same}
use Rattle.engine_carried.proofs.carried_words.begins_alike.Goals as goal

pub returns-then-first_word : goal.returns-then-first_word
returns-then-first_word c =
    sym (not_same c.args.words c.loop-index.index (first_words c.args.old.now c.args.table) (first_words c.args.new.now c.args.table) (omega (arith, c.loop-index-test.true, c.from-index-end.ensures))
    (λ same. c.if-first_word.true (c.first_word.ensures ∙ (same ∙ sym c.first_word-in-loop-index.ensures))))
