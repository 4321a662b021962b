-- How a pass over the places tells why it failed.
use Rattle.std.proofs.Common.{◌≡◌, refl, Result, Ok, Err}
use Rattle.bpf_insn.specs.declared.program.Slot.{Slot}
use Rattle.std.specs.Prelude.{List, IfErr, IfOk, IsOkAnd, OnOk}
use Rattle.call_shape.specs.Shape.{IsLawful}
use Rattle.base.specs.declared.or_memory.OrMemory.{OrMemory}
use Rattle.base.specs.declared.or_memory.OrMemory.TheVariants.{OutOfMemory, Fault as refused}
use Rattle.verifier.specs.Arrives.{FailsUnless, LacksMemoryOrMore, NeverLacks}
use Rattle.verifier.specs.Verdict.{ToldOfChecks, ToldOfShape}
use Rattle.verifier.specs.declared.refusal.Refusal.{Refusal}
use Rattle.verifier.specs.declared.refusal.Refusal.TheVariants.{Shape, Check}

-- what fails only where a check or memory does, and where it is enough for each check fails for memory
pub fails_so : (A B : Type 0) (error : OrMemory Refusal) → FailsUnless A error → (B → A) → FailsUnless B error
fails_so A B OutOfMemory fails weaker = tt
fails_so A B (refused (Shape fault)) fails weaker = absurd fails
fails_so A B (refused (Check cause slot)) fails weaker = λ b. fails (weaker b)

-- and what cannot fail there fails nowhere else
pub fails_never : (A B : Type 0) (error : OrMemory Refusal) → FailsUnless A error → (B → ⊥) → FailsUnless B error
fails_never A B OutOfMemory fails never = tt
fails_never A B (refused (Shape fault)) fails never = absurd fails
fails_never A B (refused (Check cause slot)) fails never = never

-- what goes well where that holds, and then leads to this
pub if_and : {X E : Type 0} (P Q : Type 0) (result : Result X E) → (P → IsOkAnd result (λ _. Q)) → IfOk result (λ _. P → Q)
if_and P Q (Ok x) leads = leads
if_and P Q (Err error) leads = tt

-- does not fail there, but for memory
pub err_and : {X : Type 0} (P Q : Type 0) (result : Result X (OrMemory Refusal)) → IfErr result (FailsUnless ⊥) → (P → IsOkAnd result (λ _. Q)) → IfErr result (FailsUnless P)
err_and P Q (Ok x) fails leads = tt
err_and P Q (Err error) fails leads = fails_never ⊥ P error fails leads

pub told_of_shape : (program : List Slot) (error : OrMemory Refusal) → IsLawful program → LacksMemoryOrMore program error → ToldOfShape program error
told_of_shape program OutOfMemory lawful fails = lawful
told_of_shape program (refused (Shape fault)) lawful fails = absurd fails
told_of_shape program (refused (Check cause slot)) lawful fails = lawful

pub told_of_checks : (program : List Slot) (error : OrMemory Refusal) → LacksMemoryOrMore program error → ToldOfChecks program error
told_of_checks program OutOfMemory fails = tt
told_of_checks program (refused (Shape fault)) fails = tt
told_of_checks program (refused (Check cause slot)) fails = fails

-- where what is known is always enough, only memory is wanting
pub only_memory : (program : List Slot) (error : OrMemory Refusal) → NeverLacks program → LacksMemoryOrMore program error → error ≡ OutOfMemory
only_memory program OutOfMemory lacks_not fails = refl
only_memory program (refused (Shape fault)) lacks_not fails = absurd fails
only_memory program (refused (Check cause slot)) lacks_not fails = absurd (fails lacks_not)

pub if_err : (A B : Type 0) {X : Type 0} (result : Result X (OrMemory Refusal)) → (B → A) → IfErr result (FailsUnless A) → IfErr result (FailsUnless B)
if_err A B (Ok x) weaker fails = fails
if_err A B (Err error) weaker fails = fails_so A B error fails weaker

-- what holds in any case holds where all goes well
pub on_ok : {X E P : Type 0} (result : Result X E) → P → OnOk result P
on_ok (Ok x) holds = holds
on_ok (Err error) holds = tt
