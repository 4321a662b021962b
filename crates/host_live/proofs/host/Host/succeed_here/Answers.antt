use Rattle.std.proofs.Common.{◌≡◌, false, rules}
use Rattle.host_live.specs.Turns.{asked_to_succeed, part_none}
use Rattle.host_live.specs.declared.request.Request.TheVariants as asks
use Rattle.host_live.proofs.host.Host.succeed_here.Goals as goal

pub returns-then-has_run : goal.returns-then-has_run
returns-then-has_run c = λ manner. part_none (asks.Succeed c.args.how)

pub returns-else-has_run : goal.returns-else-has_run
returns-else-has_run c = λ manner. asked_to_succeed c.args.how c.args.self.now.engine.engine (c.has_run.ensures.none (let none : c.has_run.result ≡ false = search (rules, c.if-has_run.false) in none))
