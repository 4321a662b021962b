use Rattle.std.proofs.Common.{ℕ, List, subst}
use Rattle.std.proofs.lemmas.Result.{err_from_is_err_and}
use Rattle.bpf_asm.specs.Assembly.{said}
use Rattle.bpf_asm.specs.Given.{Fails}
use Rattle.bpf_asm.proofs.Fronts.{fails_is}
use Rattle.bpf_asm.proofs.assembler.assemble.Goals as goal

pub returns-in_err-builder-clause-fault : goal.returns-in_err-builder-clause-fault
returns-in_err-builder-clause-fault c =
    let p = err_from_is_err_and c.from_residual.result c.from_residual.ensures.1 in
    rw (p.1, p.2) (fails_is c.args.text.now c.in_err-builder.field-0.0 (subst (λ (text : List ℕ). Fails c.in_err-builder.field-0.0 (said text)) c.as_bytes.ensures.value c.in_err-builder.ensures.said))
