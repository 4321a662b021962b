use Rattle.std.proofs.Common.{◌≡◌, ◌∙◌, ◌++◌, ℕ, List, [], true, false, get_or, sym, subst}
use Rattle.std.specs.Prelude.{OnOk}
use Rattle.std.proofs.lemmas.Bool.{cond-true, cond-false}
use Rattle.engine_beginning.specs.Lines.{words_from}
use Rattle.engine_carried.specs.TakenOver.{first_words, keeps_words}
use Rattle.engine_carried.proofs.Beginning.{present_length, same_length}
use Rattle.engine_carried.proofs.carried_words.add_table.Goals as goal

pub add_kept-requires : goal.add_kept-requires
add_kept-requires c =
    present_length c.args.old.now c.args.runs.now.runs.tables c.args.table c.requires.present
    ∙ (same_length c.args.old.now c.args.new.now c.args.table (sym c.keeps_words.ensures ∙ c.if-keeps_words.true) ∙ sym c.table_length-words.ensures)

pub add_first-requires : goal.add_first-requires
add_first-requires c = present_length c.args.new.now c.args.new.now.tables c.args.table c.requires.first ∙ sym c.table_length-words.ensures

pub returns-then-keeps_words : goal.returns-then-keeps_words
returns-then-keeps_words c =
    let keeps : keeps_words c.args.old.now c.args.new.now c.args.table ≡ true = sym c.keeps_words.ensures ∙ c.if-keeps_words.true in
    subst (λ (ws : List ℕ). OnOk c.add_kept.result (c.add_kept.new.lines.items ≡ c.args.lines.now.items ++ words_from c.args.table 0 ws))
    (sym (cond-true (keeps_words c.args.old.now c.args.new.now c.args.table) (get_or c.args.runs.now.runs.tables c.args.table []) (first_words c.args.new.now c.args.table) keeps)) c.add_kept.ensures

pub returns-else-keeps_words : goal.returns-else-keeps_words
returns-else-keeps_words c =
    let other : keeps_words c.args.old.now c.args.new.now c.args.table ≡ false = sym c.keeps_words.ensures ∙ c.if-keeps_words.false in
    subst (λ (ws : List ℕ). OnOk c.add_first.result (c.add_first.new.lines.items ≡ c.args.lines.now.items ++ words_from c.args.table 0 ws))
    (sym (cond-false (keeps_words c.args.old.now c.args.new.now c.args.table) (get_or c.args.runs.now.runs.tables c.args.table []) (first_words c.args.new.now c.args.table) other)) c.add_first.ensures
