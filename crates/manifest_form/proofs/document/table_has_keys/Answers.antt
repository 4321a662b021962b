use Rattle.manifest_form.proofs.Lists.{has_keys_by}
use Rattle.manifest_form.proofs.document.table_has_keys.Goals as goal

pub returns-then-has_all : goal.returns-then-has_all
returns-then-has_all c = rw (has_keys_by c.args.required.now c.args.optional.now c.args.table.now.entries, ← c.has_all.ensures, c.if-has_all.true) c.has_no_other.ensures

pub returns-else-has_all : goal.returns-else-has_all
returns-else-has_all c = rw (has_keys_by c.args.required.now c.args.optional.now c.args.table.now.entries, ← c.has_all.ensures, c.if-has_all.false)
