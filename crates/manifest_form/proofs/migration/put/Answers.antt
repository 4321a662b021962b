use Rattle.std.proofs.Common.{◌∙◌, ℕ, List, ap}
use Rattle.toml.specs.View.{view, members_view, table_view}
use Rattle.manifest_form.specs.Migration.{put}
use Rattle.manifest_form.proofs.Putting.{put_there}
use Rattle.manifest_form.proofs.migration.put.Goals as goal

pub returns : goal.returns
returns c =
    ap members_view c.in_ok-insert.ensures.entries ∙ (put_there c.args.table.now.entries c.in_ok-key.key c.args.value
    ∙ ap (λ (name : List ℕ). put name (view c.args.value) (table_view c.args.table.now)) c.in_ok-key.ensures.ok)
