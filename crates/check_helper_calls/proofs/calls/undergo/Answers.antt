use Rattle.std.proofs.Common.{Some}
use Rattle.check_register_kinds.specs.Freezes.{renumbered}
use Rattle.check_register_kinds.proofs.Freezes.{own_name, renumbered_here}
use Rattle.check_helper_calls.proofs.Calling.{bytes_written, disposed_of}
use Rattle.check_helper_calls.proofs.calls.undergo.Goals as goal

pub returns-in-Nothing-clause-changes : goal.returns-in-Nothing-clause-changes
returns-in-Nothing-clause-changes c = λ callers. rw c.in-Nothing.is (λ m arguments answer (numbers, is) change. record { numbers = numbers; describes = is; named = tt })

pub returns-in-Holds-clause-changes : goal.returns-in-Holds-clause-changes
returns-in-Holds-clause-changes c = λ callers. rw c.in-Holds.is (λ m arguments answer (numbers, is) change. record {
  numbers = renumbered numbers c.args.name (Some answer.r0);
  describes = c.hold.ensures.kept numbers callers answer.r0 m change.0 is change.1;
  named = renumbered_here numbers c.args.name c.args.name (Some answer.r0) (own_name c.args.name);
})

pub returns-in-GivesUp-clause-changes : goal.returns-in-GivesUp-clause-changes
returns-in-GivesUp-clause-changes c = λ callers. rw c.in-GivesUp.is (λ m arguments answer is change.
    let given_up = c.give_up_first.ensures.kept callers arguments.first m is change in
    record { numbers = given_up.0; describes = given_up.1; named = tt })

pub returns-in-Disposes-clause-changes : goal.returns-in-Disposes-clause-changes
returns-in-Disposes-clause-changes c = λ callers. rw c.in-Disposes.is (λ m arguments answer (numbers, is) change. record { numbers = numbers; describes = disposed_of numbers callers c.args.description.now m is; named = tt })

pub returns-in-Writes-clause-changes : goal.returns-in-Writes-clause-changes
returns-in-Writes-clause-changes c = λ callers. rw c.in-Writes.is (λ m arguments answer (numbers, is) change. record {
  numbers = numbers;
  describes = bytes_written numbers callers arguments.first c.in-Writes.bytes c.write_first.new.description m answer.written change.1
      (λ bytes size each. c.write_first.ensures.writes numbers callers m arguments.first bytes is change.0 size each);
  named = tt;
})
