use Rattle.std.proofs.Common.{◌≡◌, ℤ, List, Option, Some, None, ap, sym, subst, ◌∙◌, FitsSigned, to_z, of_z, w32, rules}
use Rattle.std.proofs.lemmas.Int.{to_z-of_z}
use Rattle.std.specs.Option.{option_and_then}
use Rattle.helpers.specs.declared.table.Helper.{Helper as TheHelper}
use Rattle.helpers.specs.Table.{helper_of}
use Rattle.bpf_insn.specs.declared.insn.Insn.TheVariants.{Call}
use Rattle.bpf_insn.specs.declared.insn.Callee.{Callee}
use Rattle.bpf_insn.specs.declared.insn.Callee.TheVariants.{Helper}
use Rattle.bpf_insn.specs.declared.program.Slot.{Slot}
use Rattle.bpf_insn.specs.Program.{insn_at}
use Rattle.bpf_semantics.specs.MachineState.{MachineState}
use Rattle.bpf_semantics.specs.Calls.{request_by}
use Rattle.bpf_semantics.specs.Step.{request_at, request_in}
use Rattle.bpf_machine.specs.Inside.{view_of}
use Rattle.bpf_machine.proofs.machine.Machine.request.Goals as goal

-- a call by number is that of the helper that has it: stated of any number, so that the table is not gone through
by_number : (program : List Slot) (m : MachineState) (number : ℤ) (found : Option TheHelper) → insn_at program m.pc ≡ Some (Call (Helper number)) → helper_of number ≡ found → request_at program m ≡ option_and_then (request_by m) found
by_number program m number found stands named = ap (option_and_then (request_in m)) stands ∙ ap (option_and_then (request_by m)) named

-- the number is read from an instruction as a word
read : (number : ℤ) (found : Option TheHelper) → FitsSigned w32 number → helper_of (to_z w32 (of_z w32 number)) ≡ found → helper_of number ≡ found
read number found fits e = subst (λ (n : ℤ). helper_of n ≡ found) (to_z-of_z w32 number fits) e

pub returns-in_err-with_number-in-Call-Helper : goal.returns-in_err-with_number-in-Call-Helper
returns-in_err-with_number-in-Call-Helper c =
    let m = view_of c.self.inside in
    let none : request_at c.args.program.now m ≡ None =
    by_number c.args.program.now m c.in-Call-Helper.number None (sym c.fetch.ensures.value ∙ c.in_ok-number.was ∙ ap Some c.in-Call-Helper.is ∙ ap (λ (callee : Callee). Some (Call callee)) c.in-Call-Helper.field-0-is) (read c.in-Call-Helper.number None (search rules) (sym c.with_number.ensures ∙ c.in_err-with_number-in-Call-Helper.was)) in
    c.from_residual-in_err-with_number-in-Call-Helper.ensures ∙ sym none ∙ ap (λ (n : MachineState). request_at c.args.program.now n) c.self.view_is

pub returns-in_ok-with_number-in-Call-Helper : goal.returns-in_ok-with_number-in-Call-Helper
returns-in_ok-with_number-in-Call-Helper c =
    let m = view_of c.self.inside in
    let its = c.in_ok-with_number-in-Call-Helper.field-0 in
    let asked : request_at c.args.program.now m ≡ request_by m its =
    by_number c.args.program.now m c.in-Call-Helper.number (Some its) (sym c.fetch.ensures.value ∙ c.in_ok-number.was ∙ ap Some c.in-Call-Helper.is ∙ ap (λ (callee : Callee). Some (Call callee)) c.in-Call-Helper.field-0-is) (read c.in-Call-Helper.number (Some its) (search rules) (sym c.with_number.ensures ∙ c.in_ok-with_number-in-Call-Helper.was)) in
    c.request_by.ensures ∙ ap (λ (n : MachineState). request_by n its) (sym c.self.view_is) ∙ sym asked ∙ ap (λ (n : MachineState). request_at c.args.program.now n) c.self.view_is
