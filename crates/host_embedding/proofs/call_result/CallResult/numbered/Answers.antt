use Rattle.std.proofs.Common.{◌≡◌, ◌<◌, ◌≤◌, ◌∙◌, Option, arith, subst, sym}
use Rattle.std.specs.Prelude.{IfSome}
use Rattle.ccb.specs.declared.call_refusal.CallRefusal.{CallRefusal}
use Rattle.host_embedding.specs.Results.{number_of_refusal}
use Rattle.host_embedding.proofs.Results.{none_of_them, numbered_so}
use Rattle.host_embedding.proofs.call_result.CallResult.numbered.Goals as goal

pub returns-in-None : goal.returns-in-None
returns-in-None c =
    let n = c.args.number in
    let above : 2 ≤ n = omega (arith, c.in_default) in
    let behind : 9 < n = none_of_them n (sym c.refusal_numbered.ensures ∙ c.in-None.is) above in
    omega (arith, c.in_default, behind)

pub returns-in-Some : goal.returns-in-Some
returns-in-Some c =
    subst (λ (o : Option CallRefusal). IfSome o (λ refusal. number_of_refusal refusal ≡ c.args.number)) (sym c.refusal_numbered.ensures ∙ c.in-Some.is) (numbered_so c.args.number)
