use Rattle.toml.proofs.Views.{view-Array}
use Rattle.manifest_form.proofs.migration.as_array.Goals as goal

pub returns : goal.returns
returns c = view-Array c.args.items
