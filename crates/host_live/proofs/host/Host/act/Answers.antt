use Rattle.host_live.proofs.Growing.{as_these}
use Rattle.std.proofs.Common.{ap}
use Rattle.host_live.specs.Turns.{is_telling}
use Rattle.host_live.proofs.Turning.{quits_so, read_these, tells_so}
use Rattle.host_live.specs.Turns.{Acts}
use Rattle.host_live.proofs.host.Host.act.Goals as goal

pub returns-in-Drain-clause-grown : goal.returns-in-Drain-clause-grown
returns-in-Drain-clause-grown g c = as_these _ _ _ _ _ _ (read_these c.args.now (λ acts it. tells_so c.args.manner c.args.request c.tell.result c.tell.new.self.engine.engine acts (ap is_telling c.in-Drain.is) it)) c.tell.ensures.grown

pub returns-in-Totals-clause-grown : goal.returns-in-Totals-clause-grown
returns-in-Totals-clause-grown g c = as_these _ _ _ _ _ _ (read_these c.args.now (λ acts it. tells_so c.args.manner c.args.request c.tell-in-Totals.result c.tell-in-Totals.new.self.engine.engine acts (ap is_telling c.in-Totals.is) it)) c.tell-in-Totals.ensures.grown

pub returns-in-Ccbs-clause-grown : goal.returns-in-Ccbs-clause-grown
returns-in-Ccbs-clause-grown g c = as_these _ _ _ _ _ _ (read_these c.args.now (λ acts it. tells_so c.args.manner c.args.request c.tell-in-Ccbs.result c.tell-in-Ccbs.new.self.engine.engine acts (ap is_telling c.in-Ccbs.is) it)) c.tell-in-Ccbs.ensures.grown

pub returns-in-Help-clause-grown : goal.returns-in-Help-clause-grown
returns-in-Help-clause-grown g c = as_these _ _ _ _ _ _ (read_these c.args.now (λ acts it. tells_so c.args.manner c.args.request c.tell-in-Help.result c.tell-in-Help.new.self.engine.engine acts (ap is_telling c.in-Help.is) it)) c.tell-in-Help.ensures.grown

pub returns-in-Quit-clause-grown : goal.returns-in-Quit-clause-grown
returns-in-Quit-clause-grown g c = as_these _ _ _ _ _ _ (read_these c.args.now (λ acts it. quits_so c.args.manner c.args.request c.tell-in-Quit.result c.tell-in-Quit.new.self.engine.engine acts c.in-Quit.is it)) c.tell-in-Quit.ensures.grown
