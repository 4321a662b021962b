use Rattle.std.proofs.Common.{ℕ, map, ap, ◌∙◌, arith}
use Rattle.std.specs.Global.{Global}
use Rattle.std.specs.declared.vec.Vec.{Vec}
use Rattle.std.proofs.lemmas.List.{map_push}
use Rattle.table_store.specs.Tables.{table_with}
use Rattle.table_store.proofs.Firsts.{more_tables, whole_tables}
use Rattle.table_store.proofs.TableStore.with_words.Goals as goal

pub loop-number-preserved : goal.loop-number-preserved
loop-number-preserved c =
    more_tables c.args.lengths.now (map (λ (words : Vec ℕ Global). words.items) c.args.firsts.now) c.loop-number.number (map (λ (table : Vec ℕ Global). table.items) c.loop-number.tables.items) (map (λ (table : Vec ℕ Global). table.items) c.push.new.self.items) c.in_ok-table.table.items
    (omega (arith, c.loop-number-test.true)) (c.in_ok-table.ensures ∙ ap (table_with _) c.firsts_at.ensures)
    (ap (map (λ (table : Vec ℕ Global). table.items)) c.in_ok-push.ensures.items ∙ map_push (λ (table : Vec ℕ Global). table.items) c.loop-number.tables.items c.in_ok-table.table) c.loop-number.invariant

pub returns : goal.returns
returns c =
    whole_tables c.args.lengths.now (map (λ (words : Vec ℕ Global). words.items) c.args.firsts.now) c.loop-number.number (map (λ (table : Vec ℕ Global). table.items) c.loop-number.tables.items) (omega (arith, c.loop-number-test.false)) c.loop-number.invariant
