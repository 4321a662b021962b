use Rattle.std.proofs.Common.{◌≡◌, false, [], rules}
use Rattle.host_live.proofs.Growing.{as_both, as_none, as_these}
use Rattle.host_live.specs.Turns.{no_drive, part_none}
use Rattle.host_live.specs.declared.request.Request.TheVariants as asks
use Rattle.host_live.proofs.Turning.{drives_so, read_and, read_none, read_only}
use Rattle.host_live.proofs.host.Host.drive.Goals as goal

pub returns-then-not-is_out-clause-grown : goal.returns-then-not-is_out-clause-grown
returns-then-not-is_out-clause-grown g c = let out : c.is_out.result ≡ false = search (rules, c.if-not-is_out.true) in as_none _ _ _ (read_none c.args.now [] (λ manner. no_drive c.args.run c.args.self.now.engine.engine (c.is_out.ensures.none out)))

pub returns-in-Ok-clause-grown : goal.returns-in-Ok-clause-grown
returns-in-Ok-clause-grown g c = as_both _ _ _ _ _ _ _ _ _ (λ more others read it. read_and c.args.now more others read (λ manner. drives_so c.args.run c.drive_here.result c.drive_here.new.self.engine.engine others it manner)) c.in-Ok.ensures.grown c.drive_here.ensures.grown

pub returns-in-Err-clause-grown : goal.returns-in-Err-clause-grown
returns-in-Err-clause-grown g c = as_these _ _ _ _ _ _ (λ more read. read_only c.args.now more (λ manner. part_none (asks.Drive c.args.run)) read) c.in-Err.ensures.grown
