use Rattle.std.proofs.Common.{◌≡◌, ℕ, suc, ◌+◌, List, Option, Some, length, ap, sym, subst, ◌∙◌, arith}
use Rattle.bpf_insn.specs.Program.{insn_at}
use Rattle.bpf_semantics.specs.Step.{private_step}
use Rattle.bpf_semantics.specs.Reached.{PrivateSteps}
use Rattle.bpf_machine.specs.Unchecked.{registers_behind, standing}
use Rattle.bpf_machine.proofs.Unchecked.{length-behind, step_moves}
use Rattle.bpf_machine.proofs.Ways.{steps_push}
use Rattle.bpf_machine.proofs.machine.Machine.execute_within.Goals as goal

-- the machine here is not stuck, so the place, the registers and the frames that come next are its step's
pub loop-next-preserved : goal.loop-next-preserved
loop-next-preserved c =
    let program = c.args.program.now in
    let m = c.args.self.now in
    let steps = c.loop-next.steps in
    let frames : List (List (Option ℕ)) = c.loop-next.self-inside.frames in
    let here = standing m c.loop-next.place c.loop-next.registers frames in
    let next = standing m c.in-Some.next c.advance.new.registers c.advance.new.frames in
    let can = (c.requires steps here c.loop-next.invariant.there).0 in
    let registers : registers_behind m.context frames c.loop-next.registers (insn_at program c.loop-next.place) ≡ c.advance.new.registers =
    ap (λ (context : List ℕ). registers_behind context frames c.loop-next.registers (insn_at program c.loop-next.place)) (sym c.loop-next.invariant.context)
    ∙ sym c.advance.ensures.registers in
    let step : private_step program here ≡ Some next =
    step_moves program can.0 here c.in-Some.next can.1 (sym c.in-Some.ensures.place)
    ∙ (λ i. Some (standing m c.in-Some.next (registers i) (sym c.advance.ensures.frames i))) in
    let one_more : suc steps ≡ steps + 1 = omega arith in
    record {
      there = subst (λ (k : ℕ). PrivateSteps program k m next) one_more (steps_push program steps m here next c.loop-next.invariant.there step);
      each = ap length c.advance.ensures.frames ∙ length-behind frames c.loop-next.registers (insn_at program c.loop-next.place) ∙ c.loop-next.invariant.each;
      context = c.loop-next.invariant.context;
      open_calls = c.loop-next.invariant.open_calls;
      held = c.loop-next.invariant.held;
      disposed = c.loop-next.invariant.disposed;
    }
