use Rattle.show_decision.proofs.printing.write_calls.Goals as goal

pub returns : goal.returns
returns g c = (_, c.in_ok-write_all.ensures.bytes)
