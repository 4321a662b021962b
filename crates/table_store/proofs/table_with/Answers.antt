use Rattle.std.proofs.Common.{ℕ, ap, ◌∙◌, arith}
use Rattle.table_store.specs.Tables.{table_with}
use Rattle.table_store.proofs.Firsts.{more_words, whole_table}
use Rattle.table_store.proofs.table_with.Goals as goal

pub loop-index-preserved : goal.loop-index-preserved
loop-index-preserved c =
    more_words c.from-length.result c.args.words.now c.loop-index.index c.loop-index.table.items c.push.new.self.items c.word_of.result (omega (arith, c.loop-index-test.true)) c.word_of.ensures c.in_ok-push.ensures.items c.loop-index.invariant

pub returns : goal.returns
returns c =
    whole_table c.from-length.result c.args.words.now c.loop-index.index c.loop-index.table.items (omega (arith, c.loop-index-test.false)) c.loop-index.invariant
    ∙ ap (λ (n : ℕ). table_with n c.args.words.now) c.from-length.ensures
