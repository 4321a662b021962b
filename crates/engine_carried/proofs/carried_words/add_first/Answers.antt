use Rattle.std.proofs.Common.{◌<◌, ◌≤◌, ◌∙◌, ◌++◌, ℕ, List, length, ap, arith}
use Rattle.std.proofs.lemmas.List.{take_all}
use Rattle.engine_beginning.specs.Lines.{words_from}
use Rattle.engine_carried.specs.TakenOver.{first_words}
use Rattle.engine_carried.proofs.Adding.{words_more}
use Rattle.engine_carried.proofs.carried_words.add_first.Goals as goal

pub loop-index-preserved : goal.loop-index-preserved
loop-index-preserved c =
    let words : List ℕ = first_words c.args.new.now c.args.table in
    let below : c.loop-index.index < length words = omega (arith, c.loop-index-test.true, c.requires) in
    words_more c.args.table c.loop-index.index _ words _ _ _ c.loop-index.invariant c.in_ok-add_word.ensures below c.first_word-word.ensures

pub returns : goal.returns
returns c =
    let words : List ℕ = first_words c.args.new.now c.args.table in
    let all : length words ≤ c.loop-index.index = omega (arith, c.loop-index-test.false, c.requires) in
    c.loop-index.invariant ∙ ap (λ (ws : List ℕ). c.args.lines.now.items ++ words_from c.args.table 0 ws) (take_all c.loop-index.index words all)
