use Rattle.std.proofs.Common.{◌≡◌, subst}
use Rattle.std.specs.Result.{OnOk}
use Rattle.toml.specs.Data.{Members}
use Rattle.toml.specs.View.{table_view}
use Rattle.manifest_form.proofs.Putting.{entries_put}
use Rattle.manifest_form.proofs.migration.put_entries.Goals as goal

pub returns : goal.returns
returns c =
    subst (λ (members : Members). OnOk c.put.result (table_view c.put.new.table ≡ members))
    (entries_put c.args.controllers c.args.kind c.args.entries c.in-Some.entries c.deref.result.now c.in_ok-entries_kept.field-0 _ c.args.key.now (table_view c.args.table.now)
    c.in-Some.is c.deref.ensures.value c.in_ok-entries_kept.ensures c.as_array-value.ensures)
    c.put.ensures
