use Rattle.std.proofs.lemmas.Result.{err_from_is_err_and}
use Rattle.cli_commands.proofs.Rejected.{of_manifest_beside_trace, of_replay, of_trace, read_so}
use Rattle.whole_trace.specs.Continued.{items_of}
use Rattle.cli_commands.proofs.replaying.replayed.Goals as goal

pub returns-in_err-manifest-2-clause-fault : goal.returns-in_err-manifest-2-clause-fault
returns-in_err-manifest-2-clause-fault g c =
    let answer = err_from_is_err_and c.from_residual-in_err-manifest-2.result c.from_residual-in_err-manifest-2.ensures.1 in
    rw (answer.1, answer.2) (of_manifest_beside_trace c.in_err-manifest-2.field-0.0 c.in_ok-manifest.manifest.now c.args.manifest.1.now c.args.trace.1.now c.in_err-manifest-2.ensures.fault c.in_ok-manifest.ensures.0)

pub returns-in_err-whole-clause-fault : goal.returns-in_err-whole-clause-fault
returns-in_err-whole-clause-fault g c =
    let answer = err_from_is_err_and c.from_residual-in_err-whole.result c.from_residual-in_err-whole.ensures.1 in
    rw (answer.1, answer.2) (of_trace c.in_err-whole.field-0.0 c.in_ok-manifest.manifest.now c.in_ok-trace.trace.now c.args.manifest.1.now c.args.trace.1.now c.in_ok-manifest-2.manifest.config _
    c.in_err-whole.ensures.said c.in_ok-manifest-2.ensures.found c.in_ok-manifest.ensures.0 c.in_ok-trace.ensures.0)

pub returns-in_err-follow-clause-fault : goal.returns-in_err-follow-clause-fault
returns-in_err-follow-clause-fault g c =
    let answer = err_from_is_err_and c.from_residual-in_err-follow.result c.from_residual-in_err-follow.ensures.1 in
    rw (answer.1, answer.2) (of_replay c.in_err-follow.field-0.0 c.in_ok-manifest.manifest.now c.in_ok-trace.trace.now c.args.manifest.1.now c.args.trace.1.now c.in_ok-manifest-2.manifest.config _ (items_of c.in_ok-whole.whole.carried) c.in_ok-whole.whole.trace
    c.in_err-follow.ensures c.in_ok-manifest-2.ensures.found c.in_ok-whole.ensures.said.0 c.in_ok-whole.ensures.said.1 c.in_ok-manifest.ensures.0 c.in_ok-trace.ensures.0)

pub returns-clause-same : goal.returns-clause-same
returns-clause-same g c = read_so c.in_ok-manifest.manifest.now c.in_ok-trace.trace.now c.args.manifest.1.now c.args.trace.1.now c.in_ok-manifest-2.manifest.config _ (items_of c.in_ok-whole.whole.carried) c.in_ok-whole.whole.trace
    c.in_ok-manifest-2.ensures.found c.in_ok-whole.ensures.said.0 c.in_ok-manifest.ensures.0 c.in_ok-trace.ensures.0
