use Rattle.show_counts.specs.Columns.{at, at_both, queue_of, queue_of_run}
use Rattle.show_counts.specs.Told.{completion, failure, finish, helper_call, zero_answer}
use Rattle.show_counts.specs.declared.counts.TheConstants.{CODES, HELPERS}
use Rattle.show_counts.proofs.Steps.{run_found, same_cells}
use Rattle.show_counts.proofs.counts.count_records.Goals as goal

pub returns-clause-completions : goal.returns-clause-completions
returns-clause-completions c =
    let records = c.args.records.now.items in
    same_cells CODES (at c.in_ok-ccbs.ccbs) (queue_of c.args.lines.now records) completion _ records c.in_ok-tally-3.field-0.items
    (λ number. c.in_ok-ccbs.ensures number)
    c.in_ok-tally-3.ensures

pub returns-clause-recoveries : goal.returns-clause-recoveries
returns-clause-recoveries c =
    let records = c.args.records.now.items in
    same_cells 1 (at c.in_ok-ccbs.ccbs) (queue_of c.args.lines.now records) failure c.args.queues records c.in_ok-tally-4.field-0.items
    (λ number. c.in_ok-ccbs.ensures number)
    c.in_ok-tally-4.ensures

pub returns-clause-finishes : goal.returns-clause-finishes
returns-clause-finishes c =
    let records = c.args.records.now.items in
    same_cells CODES (at_both c.in_ok-ccbs.ccbs c.in_ok-runs.runs) (queue_of_run c.args.lines.now records) finish _ records c.in_ok-tally-5.field-0.items
    (run_found c.in_ok-ccbs.ccbs c.in_ok-runs.runs c.args.lines.now records (λ number. c.in_ok-ccbs.ensures number) (λ number. c.in_ok-runs.ensures number))
    c.in_ok-tally-5.ensures

pub returns-clause-calls : goal.returns-clause-calls
returns-clause-calls c =
    let records = c.args.records.now.items in
    same_cells HELPERS (at_both c.in_ok-ccbs.ccbs c.in_ok-runs.runs) (queue_of_run c.args.lines.now records) helper_call _ records c.in_ok-tally-6.field-0.items
    (run_found c.in_ok-ccbs.ccbs c.in_ok-runs.runs c.args.lines.now records (λ number. c.in_ok-ccbs.ensures number) (λ number. c.in_ok-runs.ensures number))
    c.in_ok-tally-6.ensures

pub returns-clause-zeros : goal.returns-clause-zeros
returns-clause-zeros c =
    let records = c.args.records.now.items in
    same_cells HELPERS (at_both c.in_ok-ccbs.ccbs c.in_ok-runs.runs) (queue_of_run c.args.lines.now records) zero_answer _ records c.in_ok-tally-7.field-0.items
    (run_found c.in_ok-ccbs.ccbs c.in_ok-runs.runs c.args.lines.now records (λ number. c.in_ok-ccbs.ensures number) (λ number. c.in_ok-runs.ensures number))
    c.in_ok-tally-7.ensures
