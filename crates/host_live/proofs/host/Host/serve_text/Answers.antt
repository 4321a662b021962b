use Rattle.std.proofs.Common.{◌≡◌, ◌∙◌, ap, sym, false, true, refl, rules}
use Rattle.world.specs.World.{version_of}
use Rattle.host_live.proofs.Growing.{as_none, as_these, has_as}
use Rattle.scenario.specs.Said.{is_skipped}
use Rattle.host_live.specs.Turns.{passed_over}
use Rattle.host_live.proofs.Turning.{turned_text}
use Rattle.host_live.proofs.Metering.{has_none}
use Rattle.host_live.proofs.host.Host.serve_text.Goals as goal

pub returns-then-is_skipped-clause-grown : goal.returns-then-is_skipped-clause-grown
returns-then-is_skipped-clause-grown g c = λ text. let yes : is_skipped c.args.line.now ≡ true = search (rules, c.is_skipped.ensures, c.if-is_skipped.true) in as_none _ _ _ (passed_over c.args.self.now.engine.engine text yes refl)

pub returns-in-Ok-clause-grown : goal.returns-in-Ok-clause-grown
returns-in-Ok-clause-grown g c = λ text. let other : is_skipped c.args.line.now ≡ false = search (rules, c.is_skipped.ensures, c.if-is_skipped.false) in as_these _ _ _ _ _ _ (λ more it. turned_text c.args.manner c.args.line.now c.serve_asked.new.self.engine.engine c.args.now c.requires.clocked more c.serve_asked.result c.in-Ok.request c.version.result (c.version.ensures ∙ ap version_of (sym c.serve_asked.ensures.grown.by.setup)) text other c.in-Ok.ensures it) c.serve_asked.ensures.grown

pub returns-then-is_skipped-clause-counted : goal.returns-then-is_skipped-clause-counted
returns-then-is_skipped-clause-counted g c = has_none _ _

pub returns-in-Ok-clause-counted : goal.returns-in-Ok-clause-counted
returns-in-Ok-clause-counted g c = has_as _ _ _ _ _ _ c.serve_asked.ensures.grown

pub returns-in-Err-clause-counted : goal.returns-in-Err-clause-counted
returns-in-Err-clause-counted g c = has_as _ _ _ _ _ _ c.serve_refused.ensures.grown
