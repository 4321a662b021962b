use Rattle.std.proofs.Common.{◌∙◌, ap, sym, is_some}
use Rattle.toml.specs.View.{view}
use Rattle.toml.proofs.Views.{view-lookup}
use Rattle.manifest_form.proofs.Lists.{is_some_map}
use Rattle.manifest_form.proofs.document.has_member.Goals as goal

pub returns : goal.returns
returns c = c.contains_key.ensures ∙ sym (is_some_map view _) ∙ ap is_some (view-lookup c.args.key.now c.args.table.now.entries)
