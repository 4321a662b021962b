use Rattle.std.proofs.Common.{◌≡◌, ◌+◌, ◌-◌, ◌/◌, ℕ, length, take, arith, sym, subst, ◌∙◌}
use Rattle.bpf_insn.specs.declared.reg.Reg.TheVariants.{R0}
use Rattle.stack_domain.specs.Numbers.{AreStanding}
use Rattle.check_description.specs.Description.{kind_at}
use Rattle.check_description.specs.Spills.{IsGone, at_place, spill_at}
use Rattle.check_local_calls.specs.Entering.{outlived_kind}
use Rattle.check_local_calls.proofs.LocalCalls.{leave_unstuck, left_described, left_known}
use Rattle.check_local_calls.proofs.local_calls.leave.Goals as goal

pub returns-clause-unstuck : goal.returns-clause-unstuck
returns-clause-unstuck c = leave_unstuck c.args.description.now c.args.saved.now

pub returns-clause-leaves : goal.returns-clause-leaves
returns-clause-leaves c =
    left_described c.args.description.now c.left_registers-description.result c.close.new.stack c.close.new.self c.close-2.new.self c.outlived-r0.result c.pointer_to.result c.given_back-kept.result c.args.saved.now _
    c.left_registers-description.ensures c.pointer_to.ensures (omega (arith, c.requires.called, c.closed-stack.ensures.depth, c.depth-live.ensures.frames))
    (λ frames last was. c.close.ensures.covers frames (c.closed-stack.ensures.covers frames last was)) c.close.ensures.fewer
    (λ place past. c.close.ensures.outside place (omega (arith, past, c.depth-live.ensures.some)))
    (λ frames are. subst (λ (n : ℕ). AreStanding (take n frames) c.close-2.new.self) (let all : c.depth-live.result ≡ c.depth-live.result - 1 + 1 = omega (arith, c.depth-live.ensures.some) in all) (c.close-2.ensures.closed frames are)) (rw c.kind.ensures at c.outlived-r0.ensures.holds) c.given_back-kept.ensures.holds

pub returns-clause-known : goal.returns-clause-known
returns-clause-known c =
    let live : c.depth-live.result ≡ length c.close.new.stack = c.depth-live.ensures.frames ∙ sym c.close.ensures.depth in
    left_known c.args.description.now c.left_registers-description.result c.close.new.stack c.close.new.self c.close-2.new.self c.outlived-r0.result c.pointer_to.result c.given_back-kept.result c.args.saved.now _
    c.left_registers-description.ensures c.pointer_to.ensures (omega (arith, c.close.ensures.depth, c.depth-live.ensures.frames, c.depth-live.ensures.some))
    (subst (λ (n : ℕ). c.outlived-r0.result ≡ outlived_kind n (kind_at c.args.description.now R0)) live (rw c.kind.ensures at c.outlived-r0.ensures.is)) c.given_back-kept.ensures.is
    (λ k offset less stays was. c.close.ensures.knows k offset (λ gone. stays (subst (λ (n : ℕ). IsGone n (spill_at c.args.description.now.spills k (offset / 8))) live gone)) (c.closed-stack.ensures.knows k offset (omega (arith, less, c.close.ensures.depth)) was))
    (λ place gone. c.close.ensures.gone place (subst (λ (n : ℕ). IsGone n (at_place c.close.new.self place)) (sym live) gone)) c.close.ensures.none
