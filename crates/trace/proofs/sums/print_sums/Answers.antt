use Rattle.trace.proofs.Spelling.{put_field, put_sums}
use Rattle.trace.proofs.sums.print_sums.Goals as goal

pub returns-clause-text : goal.returns-clause-text
returns-clause-text c =
    put_sums c.args.history c.args.frozen c.args.active c.args.runs _ _ _ _ _
    (put_field _ _ _ _ c.push.ensures c.print_long_number.ensures.text)
    (put_field _ _ _ _ c.push-2.ensures c.print_number.ensures.text)
    (put_field _ _ _ _ c.push-3.ensures c.print_number-2.ensures.text)
    (put_field _ _ _ _ c.push-4.ensures c.print_number-3.ensures.text)
