use Rattle.host_live.proofs.Growing.{as_both, as_these}
use Rattle.host_live.proofs.Turning.{nothing_on, read_only, read_rest}
use Rattle.host_live.proofs.host.Host.serve_asked.Goals as goal

pub returns-in-Ok-clause-grown : goal.returns-in-Ok-clause-grown
returns-in-Ok-clause-grown g c = as_both _ _ _ _ _ _ _ _ _ (λ more others due it. read_rest c.args.now c.in-Ok.rest c.read_due.result c.in-Ok.is more others due it) c.read_due.ensures.grown c.serve_rest.ensures.grown

pub returns-in-Err-clause-grown : goal.returns-in-Err-clause-grown
returns-in-Err-clause-grown g c = as_these _ _ _ _ _ _ (λ more read. read_only c.args.now more (nothing_on c.args.manner c.args.request c.in-Err.fault _) read) c.in-Err.ensures.grown
