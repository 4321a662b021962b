use Rattle.std.proofs.Common.{◌≡◌, ◌∙◌, refl, rules, sym}
use Rattle.cli_commands.specs.Journaling.{at_its_end}
use Rattle.cli_commands.proofs.Starting.{served_then}
use Rattle.cli_commands.proofs.journaling.serve_rest.Goals as goal

pub loop-outcome-init : goal.loop-outcome-init
loop-outcome-init g c = record { rest = λ new last left status on. on; going = c.requires.going; stands = c.requires.stands; status = c.requires.status; read = λ failed it. it; ended = λ told it. it }

pub loop-outcome-preserved : goal.loop-outcome-preserved
loop-outcome-preserved g c =
    let rest = rw c.in-Followed.is at c.loop-outcome.invariant.rest in
    let read = rw c.in-Followed.is at c.loop-outcome.invariant.read in
    record {
      rest = λ new last left status on. rest new last left status (c.serve_next.ensures.rest new last left status on);
      going = c.serve_next.ensures.going;
      stands = c.serve_next.ensures.stands;
      status = c.serve_next.ensures.status;
      read = λ failed it. served_then c.serve_next.result.1 (λ same. same ∙ read failed it) c.serve_next.ensures.read;
      ended = λ told it. c.serve_next.ensures.ended told;
    }

pub returns-in-Ended-clause-rest : goal.returns-in-Ended-clause-rest
returns-in-Ended-clause-rest g c = (rw c.in-Ended.is at c.loop-outcome.invariant.rest) _ _ _ _ (at_its_end _ _ _ _ _)
