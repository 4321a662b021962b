use Rattle.std.proofs.Common.{◌≡◌, true, rules}
use Rattle.helpers.specs.Table.{is_there}
use Rattle.check_helper_calls.proofs.Calling.{obeys_ok}
use Rattle.check_helper_calls.proofs.Leaving.{fresh, may_pass}
use Rattle.check_helper_calls.proofs.calls.check_call.Goals as goal

pub returns-clause-obeys : goal.returns-clause-obeys
returns-clause-obeys c =
    let known = c.arguments-known.ensures in
    let there : is_there c.args.limits.now.helpers c.args.helper ≡ true = search rules in
    obeys_ok c.check_need.result c.args.limits.now c.args.callers.now c.args.description.now c.args.name c.args.helper c.row-row.result.now c.arguments-known.result there c.row-row.ensures
    (λ numbers callers m is. record { first = known.first numbers callers m is; second = known.second numbers callers m is; third = known.third numbers callers m is })
    c.in_ok-check_arguments.ensures.fit c.check_need.ensures.0

pub returns-clause-found : goal.returns-clause-found
returns-clause-found c =
    may_pass c.check_need.result c.args.callers.now c.args.description.now c.args.name c.args.helper c.row-row.result.now c.arguments-known.result c.row-row.ensures c.arguments-known.ensures.known c.in_ok-check_arguments.ensures.shows c.check_need.ensures.0

pub returns-clause-fresh : goal.returns-clause-fresh
returns-clause-fresh c = fresh c.check_need.result c.args.callers.now c.args.description.now c.args.name c.args.helper c.row-row.result.now c.row-row.ensures c.check_need.ensures.0
