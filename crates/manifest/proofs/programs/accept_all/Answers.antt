use Rattle.std.proofs.Common.{arith, map}
use Rattle.std.proofs.lemmas.Result.{err_from_is_err_and}
use Rattle.manifest.specs.Seen.{read_seen, named_seen, IsAcceptedLine, IsUnacceptedLine, IsUnacceptedAmong}
use Rattle.manifest.proofs.OneByOne.{one_more, first_bad, if_fault}
use Rattle.manifest.proofs.programs.accept_all.Goals as goal

pub returns-in_err-accept-clause-fault : goal.returns-in_err-accept-clause-fault
returns-in_err-accept-clause-fault c =
    let p = err_from_is_err_and c.from_residual.result c.from_residual.ensures.1 in
    let reads = map read_seen c.args.programs.now in
    let program = c.program-item.result in
    rw (p.1, p.2) (if_fault (IsUnacceptedLine (read_seen program)) (IsUnacceptedAmong c.args.limits.now reads)
    (λ fault bad. first_bad (IsAcceptedLine c.args.limits.now) (λ read. IsUnacceptedLine read fault) read_seen named_seen c.args.programs.now c.loop-program.program-index program c.loop-program.accepted.items (omega arith) c.program-item.is c.loop-program.invariant bad)
    c.in_err-accept.field-0.0 c.in_err-accept.ensures.fault)

pub loop-program-preserved : goal.loop-program-preserved
loop-program-preserved c =
    one_more (IsAcceptedLine c.args.limits.now) read_seen named_seen c.args.programs.now c.loop-program.program-index c.program-item.result c.loop-program.accepted.items _ c.in_ok-accept.field-0
    (omega arith) c.program-item.is c.in_ok-keep.ensures c.in_ok-accept.ensures.accepted c.loop-program.invariant
