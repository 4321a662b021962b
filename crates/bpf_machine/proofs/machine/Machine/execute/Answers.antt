use Rattle.std.proofs.Common.{◌≡◌, ℕ, suc, ◌+◌, List, Some, refl, subst, sym, arith}
use Rattle.bpf_insn.specs.declared.program.Slot.{Slot}
use Rattle.bpf_semantics.specs.MachineState.{MachineState}
use Rattle.bpf_semantics.specs.Step.{private_step}
use Rattle.bpf_semantics.specs.Reached.{PrivateSteps}
use Rattle.bpf_machine.proofs.Ways.{steps_push, steps_append, goes_further}
use Rattle.bpf_machine.proofs.machine.Machine.execute.Goals as goal

-- and the step from one function into another
crossed : (program : List Slot) (steps : ℕ) (m here next : MachineState) → PrivateSteps program steps m here → private_step program here ≡ Some next → PrivateSteps program (steps + 1) m next
crossed program steps m here next there step =
    let one_more : suc steps ≡ steps + 1 = omega arith in
    subst (λ (k : ℕ). PrivateSteps program k m next) one_more (steps_push program steps m here next there step)

pub loop-budget-init : goal.loop-budget-init
loop-budget-init c = record { there = refl; room = (c.requires 0 c.args.self.now refl).1 }

pub execute_within-steps-requires : goal.execute_within-steps-requires
execute_within-steps-requires c =
    goes_further c.args.program.now c.args.budget c.loop-budget.steps c.args.self.now c.loop-budget.self c.requires c.loop-budget.invariant.there

pub cross-requires-clause-able : goal.cross-requires-clause-able
cross-requires-clause-able c =
    (c.requires (c.loop-budget.steps + c.execute_within-steps.result) c.execute_within-steps.new.self
    (steps_append c.args.program.now c.loop-budget.steps c.execute_within-steps.result c.args.self.now c.loop-budget.self c.execute_within-steps.new.self c.loop-budget.invariant.there c.execute_within-steps.ensures.steps)).0

pub returns-then-not-cross-clause-steps : goal.returns-then-not-cross-clause-steps
returns-then-not-cross-clause-steps c =
    subst (λ (m : MachineState). PrivateSteps c.args.program.now (c.loop-budget.steps + c.execute_within-steps.result) c.args.self.now m) (sym (c.cross.ensures.stays c.if-not-cross.true))
    (steps_append c.args.program.now c.loop-budget.steps c.execute_within-steps.result c.args.self.now c.loop-budget.self c.execute_within-steps.new.self c.loop-budget.invariant.there c.execute_within-steps.ensures.steps)

pub loop-budget-preserved : goal.loop-budget-preserved
loop-budget-preserved c =
    let there = crossed c.args.program.now (c.loop-budget.steps + c.execute_within-steps.result) c.args.self.now c.execute_within-steps.new.self c.cross.new.self
    (steps_append c.args.program.now c.loop-budget.steps c.execute_within-steps.result c.args.self.now c.loop-budget.self c.execute_within-steps.new.self c.loop-budget.invariant.there c.execute_within-steps.ensures.steps)
    c.if-not-cross.ensures.step in
    record {
      there = there;
      room = (c.requires (c.loop-budget.steps + c.execute_within-steps.result + 1) c.cross.new.self there).1;
    }
