use Rattle.std.proofs.Common.{◌≡◌, true, [], rules}
use Rattle.host_live.proofs.Growing.{as_none, as_these}
use Rattle.host_live.specs.Turns.{part_none, run_live}
use Rattle.host_live.specs.declared.request.Request.TheVariants as asks
use Rattle.host_live.proofs.Turning.{read_none, read_only}
use Rattle.host_live.proofs.host.Host.succeed.Goals as goal

pub returns-then-has_run-clause-grown : goal.returns-then-has_run-clause-grown
returns-then-has_run-clause-grown g c = let live : c.has_run.result ≡ true = search (rules, c.if-has_run.true) in as_none _ _ _ (read_none c.args.now [] (λ manner. run_live c.args.how c.args.self.now.engine.engine (c.has_run.ensures.live live)))

pub returns-in-Ok-clause-grown : goal.returns-in-Ok-clause-grown
returns-in-Ok-clause-grown g c = as_these _ _ _ _ _ _ (λ more read. read_only c.args.now more c.succeed_here.ensures read) c.in-Ok.ensures.grown

pub returns-in-Err-clause-grown : goal.returns-in-Err-clause-grown
returns-in-Err-clause-grown g c = as_these _ _ _ _ _ _ (λ more read. read_only c.args.now more (λ manner. part_none (asks.Succeed c.args.how)) read) c.in-Err.ensures.grown
