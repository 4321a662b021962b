use Rattle.std.proofs.Common.{ap, sym, ◌∙◌}
use Rattle.host_decision.specs.Decided.{code_told}
use Rattle.host_decision.proofs.Codes.{read_some}
use Rattle.host_decision.proofs.decision.final_code.Goals as goal

pub returns-in-Some : goal.returns-in-Some
returns-in-Some c =
    let told = c.told-item.result in
    read_some c.args.records.now c.loop-told.told-index told c.in-Some.code c.loop-told-test.true c.loop-told.invariant
    (sym (ap code_told c.told-item.is) ∙ (sym c.code_told.ensures ∙ c.in-Some.is))
