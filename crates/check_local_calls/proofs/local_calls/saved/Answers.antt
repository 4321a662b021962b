use Rattle.bpf_insn.specs.declared.reg.Reg.TheVariants.{R6, R7, R8, R9}
use Rattle.std.proofs.Common.{◌≡◌, ◌+◌, ℕ, sym, ◌∙◌}
use Rattle.check_description.specs.declared.saved.SavedRegister.{SavedRegister}
use Rattle.check_description.specs.Changes.{at}
use Rattle.check_local_calls.specs.Entering.{IsSureCopy}
use Rattle.check_local_calls.proofs.LocalCalls.{each_of_four, four_saved}
use Rattle.check_local_calls.proofs.local_calls.saved.Goals as goal

pub returns-clause-saves : goal.returns-clause-saves
returns-clause-saves c = λ numbers callers m is.
    four_saved numbers c.at_call.result c.at_call-2.result c.at_call-3.result c.at_call-4.result m.registers is.count
    (c.at_call.ensures.holds numbers m.held _ is.held (rw c.kind.ensures (is.registers R6)))
    (c.at_call-2.ensures.holds numbers m.held _ is.held (rw c.kind-2.ensures (is.registers R7)))
    (c.at_call-3.ensures.holds numbers m.held _ is.held (rw c.kind-3.ensures (is.registers R8)))
    (c.at_call-4.ensures.holds numbers m.held _ is.held (rw c.kind-4.ensures (is.registers R9)))

pub returns-clause-kinds : goal.returns-clause-kinds
returns-clause-kinds c =
    each_of_four (λ (k : ℕ) (register : SavedRegister). register.kind ≡ at c.args.description.now.registers (6 + k)) c.at_call.result c.at_call-2.result c.at_call-3.result c.at_call-4.result
    (c.at_call.ensures.kind ∙ c.kind.ensures) (c.at_call-2.ensures.kind ∙ c.kind-2.ensures) (c.at_call-3.ensures.kind ∙ c.kind-3.ensures) (c.at_call-4.ensures.kind ∙ c.kind-4.ensures)

pub returns-clause-copies : goal.returns-clause-copies
returns-clause-copies c =
    each_of_four (λ (k : ℕ) (register : SavedRegister). IsSureCopy c.args.description.now register) c.at_call.result c.at_call-2.result c.at_call-3.result c.at_call-4.result
    (λ name number is. c.at_call.ensures.sure name number (sym c.at_call.ensures.kind ∙ is)) (λ name number is. c.at_call-2.ensures.sure name number (sym c.at_call-2.ensures.kind ∙ is))
    (λ name number is. c.at_call-3.ensures.sure name number (sym c.at_call-3.ensures.kind ∙ is)) (λ name number is. c.at_call-4.ensures.sure name number (sym c.at_call-4.ensures.kind ∙ is))
