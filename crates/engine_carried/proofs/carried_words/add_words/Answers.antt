use Rattle.std.proofs.Common.{◌≡◌, ◌<◌, ◌≤◌, ◌∙◌, ◌++◌, ℕ, List, length, map, ap, arith}
use Rattle.std.proofs.lemmas.List.{take_all}
use Rattle.std.proofs.lemmas.List.FromFn.{length-map-range_with_len}
use Rattle.std.specs.List.{range_with_len}
use Rattle.engine_beginning.specs.Lines.{tables_from}
use Rattle.engine_carried.specs.TakenOver.{words_over}
use Rattle.engine_carried.proofs.Adding.{tables_more}
use Rattle.engine_carried.proofs.carried_words.add_words.Goals as goal

pub loop-table-preserved : goal.loop-table-preserved
loop-table-preserved c =
    let f : ℕ → List ℕ = words_over c.args.old.now c.args.new.now c.args.runs.now.runs.tables in
    let n : ℕ = length c.args.new.now.limits.table_lengths in
    let same : length c.table_lengths-table-end.result.now ≡ n = ap (λ (xs : List ℕ). length xs) c.table_lengths-table-end.ensures in
    let below : c.loop-table.table < n = omega (arith, c.loop-table-test.true, same) in
    tables_more f n c.loop-table.table _ _ _ _ c.loop-table.invariant c.in_ok-add_table.ensures c.in_ok-number.ensures below

pub returns : goal.returns
returns c =
    let f : ℕ → List ℕ = words_over c.args.old.now c.args.new.now c.args.runs.now.runs.tables in
    let n : ℕ = length c.args.new.now.limits.table_lengths in
    let full = map f (range_with_len 0 n) in
    let same : length c.table_lengths-table-end.result.now ≡ n = ap (λ (xs : List ℕ). length xs) c.table_lengths-table-end.ensures in
    let all : length full ≤ c.loop-table.table = omega (arith, c.loop-table-test.false, same, length-map-range_with_len f 0 n) in
    c.loop-table.invariant ∙ ap (λ (ts : List (List ℕ)). c.args.lines.now.items ++ tables_from 0 ts) (take_all c.loop-table.table full all)
