use Rattle.std.proofs.Common.{◌≡◌, ◌++◌, ℕ, List, refl, subst}
use Rattle.world.specs.World.{queue_setup}
use Rattle.world_calls.specs.declared.record.Record.{Record}
use Rattle.cli_text_page.specs.Page.{Puts}
use Rattle.show_account.proofs.Putting.{puts_both}
use Rattle.show_decision.specs.Words.{IsDecisionText, instructions_text}
use Rattle.show_decision.proofs.printing.put_last.Goals as goal

pub returns : goal.returns
returns c =
    let it = c.args.decided.now in
    let words = c.put_decision.ensures in
    let rest = instructions_text it.ran.instructions (queue_setup c.args.config.now c.args.failure.now.queue.0).budget in
    let is_text : IsDecisionText it.decision c.args.failure.now.retries it.ran.records.items words.0 =
    subst (λ (records : List Record). IsDecisionText it.decision c.args.failure.now.retries records words.0) c.deref.ensures.value words.1 in
    let budget_is : c.budget-budget.result ≡ (queue_setup c.args.config.now c.args.failure.now.queue.0).budget =
    cc (c.budget-budget.ensures.value, c.deref-2.ensures, c.program.ensures.budget) in
    let rest_put : Puts c.put_decision.new.page rest c.put_instructions.new.page =
    subst (λ (budget : ℕ). Puts c.put_decision.new.page (instructions_text it.ran.instructions budget) c.put_instructions.new.page) budget_is c.put_instructions.ensures in (
      words.0 ++ rest,
      record { words = words.0; is_text = is_text; text_is = refl },
      puts_both c.args.page.now c.put_decision.new.page c.put_instructions.new.page words.0 rest words.2 rest_put,
    )
