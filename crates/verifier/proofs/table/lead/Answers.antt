use Rattle.std.proofs.Common.{◌≡◌, ◌≤◌, ◌⊎◌, length, true, false, Bool, sym, subst, ◌∙◌, arith, inl, inr}
use Rattle.std.specs.Prelude.{IfOk}
use Rattle.check_description.specs.declared.description.Description.{Description}
use Rattle.reg_domain.specs.Enough.{Enough, Leaves}
use Rattle.check_private_insns.specs.Follows.{Follows}
use Rattle.verifier.specs.Table.{HasLed}
use Rattle.verifier.proofs.Led.{if_ok, led_on, led_nowhere, arrives_on}
use Rattle.verifier.proofs.table.lead.Goals.{else-is_open-via-then-is_open+else-to-table, else-is_open-via-else-is_open}
use Rattle.verifier.proofs.table.lead.Goals as goal

pub returns-then-to-table-clause-led : goal.returns-then-to-table-clause-led
returns-then-to-table-clause-led g c =
    let d = c.deref_mut.result.now in
    let goes : Follows c.args.callers.now c.args.check.insn c.args.way d true c.follow.new.description =
    subst (λ (b : Bool). Follows c.args.callers.now c.args.check.insn c.args.way d b c.follow.new.description) c.if-is_open.true c.in-Ok.ensures.follows in
    subst (λ (known : Description). IfOk c.arrive.result (λ _. HasLed c.args.limits.now c.args.callers.now known c.args.table.now c.args.check.insn c.args.way c.args.to c.arrive.new.table)) (c.deref_mut.ensures.value ∙ c.known.view_is)
    (if_ok c.arrive.result
    (led_on c.args.limits.now c.args.callers.now c.args.table.now c.arrive.new.table c.args.check.insn c.args.way c.args.to d c.follow.new.description c.in-Ok.ensures.unstuck goes
    (c.in-Ok.ensures.ways c.if-is_open.true) c.in-Ok.ensures.depth)
    c.arrive.ensures.joined)

pub returns-then-to-table-clause-passes : goal.returns-then-to-table-clause-passes
returns-then-to-table-clause-passes g c = λ program place lacks_not all whole at arrives goes.
    let enough = subst (Enough c.args.check.insn) (sym (c.deref_mut.ensures.value ∙ c.known.view_is)) (lacks_not.enough place c.args.check.insn c.args.known arrives at) in
    let leaves = subst (λ (known : Description). Leaves c.args.check.insn c.args.way known c.follow.new.description) (c.deref_mut.ensures.value ∙ c.known.view_is) (c.in-Ok.ensures.passes enough c.if-is_open.true) in
    c.arrive.ensures.passes program lacks_not all (omega (arith, whole, c.if-to-table.true))
    (arrives_on program place c.args.check.insn c.args.way c.args.to c.args.known c.follow.new.description lacks_not arrives at goes leaves)

pub returns-else-is_open-clause-led : goal.returns-else-is_open-clause-led
returns-else-is_open-clause-led g c =
    let shut : (c.in-Ok.is_open ≡ false) ⊎ (length c.args.table.now ≤ c.args.to) = elim c.else-is_open.branch [
      | else-is_open-via-then-is_open+else-to-table w ↦ inr (omega (arith, w.if-to-table.false))
      | else-is_open-via-else-is_open w ↦ inl w.if-is_open.false
    ] in
    subst (λ (known : Description). HasLed c.args.limits.now c.args.callers.now known c.args.table.now c.args.check.insn c.args.way c.args.to c.args.table.now) (c.deref_mut.ensures.value ∙ c.known.view_is)
    (led_nowhere c.args.limits.now c.args.callers.now c.args.table.now c.args.check.insn c.args.way c.args.to c.deref_mut.result.now c.follow.new.description c.in-Ok.is_open c.in-Ok.ensures.unstuck c.in-Ok.ensures.follows shut)

pub returns-in-Err-clause-passes : goal.returns-in-Err-clause-passes
returns-in-Err-clause-passes g c = λ program place lacks_not all whole at arrives goes.
    c.in-Err.ensures.passes (subst (Enough c.args.check.insn) (sym (c.deref_mut.ensures.value ∙ c.known.view_is)) (lacks_not.enough place c.args.check.insn c.args.known arrives at))
