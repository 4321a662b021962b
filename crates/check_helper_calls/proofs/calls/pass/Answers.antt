use Rattle.check_helper_calls.proofs.Calling.{passed}
use Rattle.check_helper_calls.proofs.calls.pass.Goals as goal

pub returns-clause-passes : goal.returns-clause-passes
returns-clause-passes c = λ callers.
    passed c.args.name callers c.args.helper c.row-row.result.now c.args.description.now c.undergo.new.description c.answer.new.description c.given.result c.row-row.ensures (c.undergo.ensures.changes callers) c.given.ensures.holds c.answer.ensures.passes
