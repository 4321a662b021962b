use Rattle.std.proofs.Common.{◌≡◌, ◌∙◌, ◌++◌, ℕ, Global, List, String, ap, string_bytes, subst, sym}
use Rattle.world_calls.specs.declared.carried_line.CarriedLine.{CarriedLine}
use Rattle.world_calls.specs.declared.record.Record.{Record}
use Rattle.show_question.specs.declared.Failure.{Failure}
use Rattle.host_decision.specs.Answered.{IsDecided}
use Rattle.show_decision.specs.Told.{IsTextOf}
use Rattle.show_decision.specs.Words.{IsDecisionText}
use Rattle.show_decision.proofs.table.Table.decided.Goals as goal

pub returns : goal.returns
returns c =
    let config = c.args.self.now.config.now in
    let lines = c.args.self.now.lines.items in
    let failure = c.failure_at-failure.result in
    let decided = c.in_ok-decided.decided in
    let put = c.put_decision.ensures in
    let finished = c.in_ok-finish.ensures in
    let text = string_bytes c.in_ok-finish.field-0 in
    let text_is : put.0 ≡ text =
    sym (ap (λ (t : String Global). string_bytes t) finished.1 ∙ (put.2 finished.0).1 ∙ ap (λ (t : List ℕ). t ++ put.0) c.new-page.ensures.1) in
    subst (λ (failed : Failure). IsTextOf config lines failed text) c.failure_at-failure.ensures (record {
      decided = decided;
      is = subst (λ (its : List CarriedLine). IsDecided config its failure decided) c.deref.ensures.value c.in_ok-decided.ensures.decided;
      is_text = subst (IsDecisionText decided.decision failure.retries decided.ran.records.items) text_is
          (subst (λ (records : List Record). IsDecisionText decided.decision failure.retries records put.0) c.deref-2.ensures.value put.1);
    })
