use Rattle.std.proofs.Common.{◌<◌, ◌≤◌, ◌∙◌, ◌++◌, ℕ, List, [], length, get_or, ap, arith}
use Rattle.std.proofs.lemmas.List.{take_all}
use Rattle.engine_beginning.specs.Lines.{words_from}
use Rattle.engine_carried.proofs.Adding.{word_there, words_more}
use Rattle.host_decision.proofs.opening_words.add_table.Goals as goal

pub get-word-requires : goal.get-word-requires
get-word-requires c =
    let below : c.loop-index.index < length (get_or c.args.tables.now c.args.table []) = omega (arith, c.loop-index-test.true, c.requires) in
    word_there c.args.tables.now c.args.table c.loop-index.index below

pub loop-index-preserved : goal.loop-index-preserved
loop-index-preserved c =
    let words : List ℕ = get_or c.args.tables.now c.args.table [] in
    let below : c.loop-index.index < length words = omega (arith, c.loop-index-test.true, c.requires) in
    words_more c.args.table c.loop-index.index _ words _ _ _ c.loop-index.invariant c.in_ok-add_word.ensures below c.get-word.ensures

pub returns : goal.returns
returns c =
    let words : List ℕ = get_or c.args.tables.now c.args.table [] in
    let all : length words ≤ c.loop-index.index = omega (arith, c.loop-index-test.false, c.requires) in
    c.loop-index.invariant ∙ ap (λ (ws : List ℕ). c.args.lines.now.items ++ words_from c.args.table 0 ws) (take_all c.loop-index.index words all)
