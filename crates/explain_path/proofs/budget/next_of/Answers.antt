use Rattle.std.proofs.Common.{length, sym, subst, ◌∙◌, arith}
use Rattle.std.proofs.lemmas.Result.{IfOk-weaker}
use Rattle.call_shape.specs.Onward.{onward}
use Rattle.call_shape.specs.Tables.{HasEntries}
use Rattle.call_shape.specs.declared.onward.Onward.{Onward}
use Rattle.call_shape.proofs.Filled.{has_entries}
use Rattle.call_shape.proofs.Ways.{lawful_way}
use Rattle.explain_path.specs.Passes.{standing}
use Rattle.explain_path.specs.Remaining.{GoesTo}
use Rattle.explain_path.proofs.Remaining.{goes_on_by, is_open}
use Rattle.explain_path.proofs.budget.next_of.Goals as goal

pub next_by-requires-clause-entries : goal.next_by-requires-clause-entries
next_by-requires-clause-entries c =
    let is = c.requires.under_way in
    let lengths = c.args.lengths.now in
    let insn = c.in-Some.insn in
    subst (HasEntries (length lengths)) (sym c.of.ensures)
    (has_entries c.args.program.now c.args.at (length lengths) (onward c.args.at insn) (omega (arith, is.longest.whole))
    (lawful_way c.args.program.now c.args.at insn is.program_is is.lawful.frames.calls.functions (sym c.in-Some.ensures.value)))

pub next_by-requires-clause-open : goal.next_by-requires-clause-open
next_by-requires-clause-open c = λ leaves.
    is_open c.args.program.now c.args.lengths.now (standing c.args.at c.args.returns.now.items) c.in-Some.insn c.requires.under_way (sym c.in-Some.ensures.value) c.requires.further (sym c.of.ensures ∙ leaves)

pub returns : goal.returns
returns c =
    let program = c.args.program.now in
    let lengths = c.args.lengths.now in
    let at = standing c.args.at c.args.returns.now.items in
    let returns = c.next_by.new.returns.items in
    IfOk-weaker c.next_by.result _ _
    (λ to goes. goes_on_by program lengths at (standing to returns) c.in-Some.insn c.requires.under_way (sym c.in-Some.ensures.value)
    (subst (λ (way : Onward). GoesTo lengths c.args.returns.now.items way (standing to returns)) c.of.ensures goes))
    c.next_by.ensures
