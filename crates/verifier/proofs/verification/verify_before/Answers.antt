use Rattle.std.proofs.Common.{◌≡◌, List, subst}
use Rattle.bpf_insn.specs.declared.program.Slot.{Slot}
use Rattle.verifier.specs.Arrives.{LacksMemoryOrMore}
use Rattle.verifier.proofs.Told.{told_of_checks, told_of_shape, only_memory}
use Rattle.verifier.proofs.Plain.Goes.{plain_never_lacks}
use Rattle.verifier.proofs.Plain.Shape.{plain_lawful}
use Rattle.verifier.proofs.verification.verify_before.Goals as goal

pub returns-in-Err-clause-plain : goal.returns-in-Err-clause-plain
returns-in-Err-clause-plain g c = λ plain. absurd (plain_lawful c.args.program.now c.in-Err.fault plain c.in-Err.ensures.fault)

pub returns-clause-plain : goal.returns-clause-plain
returns-clause-plain g c = λ plain.
    let shape_is : c.in-Ok.shape ≡ c.args.program.now = c.in-Ok.ensures.value in
    let fails = subst (λ (p : List Slot). LacksMemoryOrMore p c.in-Err-accept.error) shape_is c.in-Err-accept.ensures.fails in
    only_memory c.args.program.now c.in-Err-accept.error (plain_never_lacks c.args.program.now plain) fails

pub returns-clause-checks : goal.returns-clause-checks
returns-clause-checks g c =
    let shape_is : c.in-Ok.shape ≡ c.args.program.now = c.in-Ok.ensures.value in
    let fails = subst (λ (p : List Slot). LacksMemoryOrMore p c.in-Err-accept.error) shape_is c.in-Err-accept.ensures.fails in
    told_of_checks c.args.program.now c.in-Err-accept.error fails

pub returns-clause-shape : goal.returns-clause-shape
returns-clause-shape g c =
    let shape_is : c.in-Ok.shape ≡ c.args.program.now = c.in-Ok.ensures.value in
    let fails = subst (λ (p : List Slot). LacksMemoryOrMore p c.in-Err-accept.error) shape_is c.in-Err-accept.ensures.fails in
    told_of_shape c.args.program.now c.in-Err-accept.error c.in-Ok.ensures.lawful fails
