use Rattle.std.proofs.Common.{◌≡◌, ◌∙◌, Ok, refl, rules}
use Rattle.host_live.proofs.Growing.{as_both, as_none}
use Rattle.host_live.specs.declared.printed_engine.Advanced.TheVariants as advanced
use Rattle.host_live.proofs.Turning.{exits, goes_on, is_out_no_more, no_advance, stops_there}
use Rattle.host_live.proofs.host.Host.drive_out.Goals as goal

pub loop-init : goal.loop-init
loop-init g c = record { grown = as_none _ _ _ (no_advance c.args.run); answers = refl }

pub loop-preserved : goal.loop-preserved
loop-preserved g c = let is : c.advance.result ≡ Ok advanced.Goes = search rules in record { grown = as_both _ _ _ _ _ _ _ _ _ (goes_on c.args.run c.advance.result c.advance.new.self.engine.engine is) c.loop.invariant.grown c.advance.ensures.grown; answers = c.advance.ensures.answers ∙ c.loop.invariant.answers }

pub returns-in-Ok-NotOut-clause-grown : goal.returns-in-Ok-NotOut-clause-grown
returns-in-Ok-NotOut-clause-grown g c = let is : c.advance.result ≡ Ok advanced.NotOut = search rules in as_both _ _ _ _ _ _ _ _ _ (is_out_no_more c.args.run c.advance.result c.advance.new.self.engine.engine is) c.loop.invariant.grown c.advance.ensures.grown

pub returns-in-Ok-Ended-clause-grown : goal.returns-in-Ok-Ended-clause-grown
returns-in-Ok-Ended-clause-grown g c = let is : c.advance.result ≡ Ok advanced.Ended = search rules in as_both _ _ _ _ _ _ _ _ _ (exits c.args.run c.advance.result c.advance.new.self.engine.engine is) c.loop.invariant.grown c.advance.ensures.grown

pub returns-in-Err-clause-grown : goal.returns-in-Err-clause-grown
returns-in-Err-clause-grown g c = as_both _ _ _ _ _ _ _ _ _ (λ more others first none. stops_there c.args.run c.advance.result c.in-Err.fault c.advance.new.self.engine.engine c.in-Err.is more others first none) c.loop.invariant.grown c.advance.ensures.grown
