use Rattle.std.proofs.Common.{ℕ, List, subst}
use Rattle.std.proofs.lemmas.Result.{err_from_is_err_and}
use Rattle.manifest.specs.Migration.{HasMigrationFault}
use Rattle.cli_commands.proofs.Telling.{IsTold, refused_for_fault}
use Rattle.cli_commands.proofs.carrying.migrated.Goals as goal

pub returns-in_err-migrate-clause-fault : goal.returns-in_err-migrate-clause-fault
returns-in_err-migrate-clause-fault c =
    let error = c.in_err-migrate.field-0.0 in
    let told : IsTold (HasMigrationFault c.args.to c.args.file.1.now) error = subst (λ (bytes : List ℕ). IsTold (HasMigrationFault c.args.to bytes) error) c.in_ok-text.ensures.0 c.in_err-migrate.ensures.fault in
    let answer = err_from_is_err_and c.from_residual-in_err-migrate.result c.from_residual-in_err-migrate.ensures.1 in
    rw (answer.1, answer.2) (refused_for_fault (HasMigrationFault c.args.to c.args.file.1.now) error told)
