use Rattle.std.proofs.Common.{◌≡◌, ◌∙◌, refl, rules}
use Rattle.cli_commands.specs.Alone.{at_the_end}
use Rattle.cli_commands.proofs.Starting.{served_then}
use Rattle.cli_commands.proofs.serving.serve_all.Goals as goal

pub loop-outcome-init : goal.loop-outcome-init
loop-outcome-init g c = record {
  rest = (c.of-lines.result, record { stands = c.of-lines.ensures.stands; number = c.of-lines.ensures.number }, λ last at told left status on. on);
  going = search rules;
  stands = (_, record { stands = c.of-lines.ensures.stands; number = c.of-lines.ensures.number });
  status = tt;
  read = refl;
  ended = λ told. tt;
}

pub loop-outcome-preserved : goal.loop-outcome-preserved
loop-outcome-preserved g c =
    let rest = rw c.in-Followed.is at c.loop-outcome.invariant.rest in
    let read = rw c.in-Followed.is at c.loop-outcome.invariant.read in
    record {
      rest = (rest.0, rest.1, λ last at told left status on. rest.2 last at told left status (c.serve_next-outcome.ensures.rest last at told left status on));
      going = c.serve_next-outcome.ensures.going;
      stands = c.serve_next-outcome.ensures.stands;
      status = c.serve_next-outcome.ensures.status;
      read = served_then c.serve_next-outcome.result (λ same. same ∙ read) c.serve_next-outcome.ensures.read;
      ended = c.serve_next-outcome.ensures.ended;
    }

pub returns-in-Ended-clause-served : goal.returns-in-Ended-clause-served
returns-in-Ended-clause-served g c = let rest = rw c.in-Ended.is at c.loop-outcome.invariant.rest in (rest.0, rest.1, rest.2 _ _ _ _ _ (at_the_end _ _ _ _ _ _))
