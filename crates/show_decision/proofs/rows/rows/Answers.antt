use Rattle.std.proofs.Common.{◌≡◌, ◌≢◌, ◌<◌, ◌+◌, ◌∙◌, ℕ, List, ap, get_or, length, subst, sym}
use Rattle.std.proofs.lemmas.List.{get_or_default}
use Rattle.show_decision.specs.Rows.{AddsCode, AreRowsOf}
use Rattle.show_decision.specs.declared.rows.Row.{Row}
use Rattle.show_decision.proofs.RowsSay.{more_rows, same_rows}
use Rattle.show_decision.proofs.rows.rows.Goals as goal
use Rattle.show_decision.proofs.rows.rows.Goals.{then-decisions-code+in_ok-add, else-decisions-code}

pub loop-code-preserved : goal.loop-code-preserved
loop-code-preserved c =
    let its = c.args.decisions.now in
    let code = c.loop-code.code in
    let usual = c.args.usual in
    let so : get_or its code usual ≡ get_or its code 0 = get_or_default its code usual 0 c.loop-code-test.true in
    elim c.if-decisions-code.branch [
      | then-decisions-code+in_ok-add w ↦
          subst (λ (rows : List Row). AreRowsOf its usual (code + 1) rows) (sym (ap (λ (rows : _). rows.items) w.rows-is))
          (more_rows its usual code c.loop-code.rows.items w.add.new.rows.items c.loop-code.invariant
          (subst (λ (decision : ℕ). AddsCode c.loop-code.rows.items code decision w.add.new.rows.items) (sym so) w.in_ok-add.ensures)
          (subst (λ (decision : ℕ). decision ≢ usual) (sym so) w.if-decisions-code.true))
      | else-decisions-code w ↦
          subst (λ (rows : List Row). AreRowsOf its usual (code + 1) rows) (sym (ap (λ (rows : _). rows.items) w.rows-is))
          (same_rows its usual code c.loop-code.rows.items c.loop-code.invariant (so ∙ w.if-decisions-code.false))
    ]
