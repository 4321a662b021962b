use Rattle.std.proofs.Common.{ap, inl, inr, map, sym, ◌∙◌}
use Rattle.std.proofs.lemmas.Result.{err_from_is_err_and}
use Rattle.toml.specs.View.{view, table_view}
use Rattle.toml.specs.declared.value.Value.{Table as TableCase}
use Rattle.toml.proofs.Views.{view-Table}
use Rattle.manifest_form.specs.Entries.{Plan}
use Rattle.manifest_form.specs.Seen.{plan_seen}
use Rattle.manifest.specs.Meaning.{HasProgramFault, Writes}
use Rattle.manifest.specs.Migration.{HasMigrationFault}
use Rattle.manifest.specs.Seen.{named_seen}
use Rattle.manifest.proofs.OneByOne.{if_fault}
use Rattle.manifest.proofs.Configured.{writes_by}
use Rattle.manifest.proofs.Migrating.{form_of, migrated_is}
use Rattle.manifest.proofs.migrate.Goals as goal

pub returns-in_err-_manifest-clause-fault : goal.returns-in_err-_manifest-clause-fault
returns-in_err-_manifest-clause-fault c =
    let t = c.in_ok-parse.field-0 in
    let plan = plan_seen c.in_ok-plan.plan in
    let writes : Writes c.args.text.now plan = writes_by c.args.text.now (table_view t) (view (TableCase t)) plan (view-Table t) c.in_ok-parse.ensures.parsed c.in_ok-plan.ensures.lawful c.in_ok-plan.ensures.says in
    let p = err_from_is_err_and c.from_residual-in_err-_manifest.result c.from_residual-in_err-_manifest.ensures.1 in
    rw (p.1, p.2) (if_fault (HasProgramFault plan) (HasMigrationFault c.args.to c.args.text.now) (λ fault bad. inl (inr (inr (plan, writes, bad))))
    c.in_err-_manifest.field-0.0 c.in_err-_manifest.ensures.fault)

pub print-requires-clause-lawful : goal.print-requires-clause-lawful
print-requires-clause-lawful c = form_of (view (TableCase c.in_ok-parse.field-0)) c.in_ok-plan.ensures.lawful

pub returns-then-comes_after-clause-migrated : goal.returns-then-comes_after-clause-migrated
returns-then-comes_after-clause-migrated c =
    let t = c.in_ok-parse.field-0 in
    let plan = plan_seen c.in_ok-plan.plan in
    let writes : Writes c.args.text.now plan = writes_by c.args.text.now (table_view t) (view (TableCase t)) plan (view-Table t) c.in_ok-parse.ensures.parsed c.in_ok-plan.ensures.lawful c.in_ok-plan.ensures.says in
    migrated_is c.args.to c.args.text.now _ (view (TableCase t)) plan c.in_ok-_manifest._manifest.config (map named_seen c.in_ok-_manifest._manifest.programs.items)
    writes c.in_ok-plan.ensures.lawful c.in_ok-plan.ensures.says c.in_ok-_manifest.ensures.found (sym c.comes_after.ensures ∙ c.if-comes_after.true) c.in_ok-print.ensures
