use Rattle.std.proofs.Common.{sym, ◌∙◌}
use Rattle.std.proofs.lemmas.Option.{none-some}
use Rattle.toml.specs.View.{view, table_view}
use Rattle.toml.specs.declared.value.Value.{Table as TableCase}
use Rattle.toml.proofs.Views.{view-Table}
use Rattle.trial_disks.proofs.Parts.{said_by}
use Rattle.trial_disks.proofs.reading.read.Goals as goal

pub returns-in-Ok-clause-said : goal.returns-in-Ok-clause-said
returns-in-Ok-clause-said c =
    let table = c.in-Ok.table in
    said_by c.args.text.now (table_view table) (view (TableCase table)) c.read_document.result (view-Table table) c.in-Ok.ensures.ok c.read_document.ensures.said

pub returns-in-Ok-clause-no_toml : goal.returns-in-Ok-clause-no_toml
returns-in-Ok-clause-no_toml c = λ none. absurd (none-some (table_view c.in-Ok.table) (sym none ∙ c.in-Ok.ensures.ok))
