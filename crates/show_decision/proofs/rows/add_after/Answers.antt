use Rattle.std.proofs.Common.{◌∙◌, ◌++◌, ◌∷◌, [], List, ap, subst, sym}
use Rattle.std.proofs.lemmas.Result.{on_ok_weaker}
use Rattle.show_decision.specs.Rows.{AddsCode}
use Rattle.show_decision.specs.declared.rows.Row.{Row}
use Rattle.show_decision.proofs.RowsSay.{adds_row, adds_to_last}
use Rattle.show_decision.proofs.rows.add_after.Goals as goal

pub returns-then-goes_on : goal.returns-then-goes_on
returns-then-goes_on c = on_ok_weaker c.push.result
    (λ pushed. subst (AddsCode (c.args.rows.now.items ++ c.args.row ∷ []) c.args.code c.args.decision)
    (sym (pushed ∙ ap (λ (row : Row). c.args.rows.now.items ++ row ∷ []) c.longer.ensures))
    (adds_to_last c.args.rows.now.items c.args.row c.args.code c.args.decision c.if-goes_on.ensures)) c.push.ensures

pub returns : goal.returns
returns c = on_ok_weaker c.push-3.result
    (λ pushed. subst (λ (old : List Row). AddsCode old c.args.code c.args.decision c.push-3.new.rows.items) c.in_ok-push.ensures
    (subst (AddsCode c.push-2.new.rows.items c.args.code c.args.decision)
    (sym (pushed ∙ ap (λ (row : Row). c.push-2.new.rows.items ++ row ∷ []) c.row_of.ensures))
    (adds_row c.push-2.new.rows.items c.args.code c.args.decision))) c.push-3.ensures
