use Rattle.std.proofs.Common.{ℕ, List, subst}
use Rattle.std.proofs.lemmas.Result.{err_from_is_err_and}
use Rattle.manifest.specs.Meaning.{HasFault}
use Rattle.cli_commands.proofs.Telling.{IsTold, refused_for_fault}
use Rattle.cli_commands.proofs.serving.read.Goals as goal

pub returns-in_err-read-clause-fault : goal.returns-in_err-read-clause-fault
returns-in_err-read-clause-fault c =
    let error = c.in_err-read.field-0.0 in
    let told : IsTold (HasFault c.args.file.1.now) error = subst (λ (bytes : List ℕ). IsTold (HasFault bytes) error) c.in_ok-text.ensures.0 c.in_err-read.ensures.fault in
    let answer = err_from_is_err_and c.from_residual-in_err-read.result c.from_residual-in_err-read.ensures.1 in
    rw (answer.1, answer.2) (refused_for_fault (HasFault c.args.file.1.now) error told)
