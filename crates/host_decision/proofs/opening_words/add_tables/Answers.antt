use Rattle.std.proofs.Common.{◌≡◌, ◌<◌, ◌∙◌, ℕ, List, length, ap, sym, arith}
use Rattle.std.proofs.lemmas.List.{length-map}
use Rattle.host_decision.proofs.Written.{tables_more}
use Rattle.host_decision.proofs.opening_words.add_tables.Goals as goal

pub loop-table-preserved : goal.loop-table-preserved
loop-table-preserved c =
    let tables = c.args.tables.now in
    let same : length c.table_lengths-lengths.result.now ≡ length tables =
    ap (λ (xs : List ℕ). length xs) (c.table_lengths-lengths.ensures ∙ sym c.requires) ∙ length-map tables (λ (table : List ℕ). length table) in
    let below : c.loop-table.table < length tables = omega (arith, c.loop-table-test.true, same) in
    tables_more tables c.loop-table.table c.in_ok-number.number _ _ _ c.loop-table.invariant c.in_ok-add_table.ensures c.in_ok-number.ensures below
