use Rattle.toml.proofs.Views.{view-Table}
use Rattle.manifest_form.proofs.migration.as_table.Goals as goal

pub returns : goal.returns
returns c = view-Table c.args.members
