use Rattle.camr_c.specs.Exports.{numbering_of}
use Rattle.camr_c.proofs.Refusing.{refused}
use Rattle.camr_c.proofs.succession_exports.camr_raw_succeed.Goals as goal

pub returns-in-Err-clause-did : goal.returns-in-Err-clause-did
returns-in-Err-clause-did c =
    refused c.args.engine.now.held c.held.result.now c.succeed.new.hosted (numbering_of c.args.fresh) c.args.manifest.now c.in-Err.its c.number-in-Err.result
    c.held.ensures.value c.number-in-Err.ensures.number c.in-Err.ensures.followed c.in-Err.ensures.beside
