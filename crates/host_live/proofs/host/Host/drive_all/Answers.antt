use Rattle.std.proofs.Common.{◌∙◌, refl, rules}
use Rattle.host_live.proofs.Growing.{as_both, as_none, as_these}
use Rattle.host_live.proofs.Turning.{both_of_runs, no_runs, of_run}
use Rattle.host_live.proofs.host.Host.drive_all.Goals as goal

pub loop-init : goal.loop-init
loop-init g c = record { grown = as_none _ _ _ no_runs; answers = refl }

pub loop-preserved : goal.loop-preserved
loop-preserved g c = record { grown = as_both _ _ _ _ _ _ _ _ _ (λ more others first driven. both_of_runs more others first (of_run c.in-Some.run' others driven.advances)) c.loop.invariant.grown c.in-Ok.ensures.grown; answers = c.drive_out.ensures.answers ∙ c.loop.invariant.answers }

pub returns-in-None-clause-grown : goal.returns-in-None-clause-grown
returns-in-None-clause-grown g c = as_these _ _ _ _ _ _ (λ more first. record { of_runs = first; none_out = search rules }) c.loop.invariant.grown

pub returns-in-Err-clause-grown : goal.returns-in-Err-clause-grown
returns-in-Err-clause-grown g c = as_both _ _ _ _ _ _ _ _ _ (λ more others first advances. both_of_runs more others first (of_run c.in-Some.run' others advances)) c.loop.invariant.grown c.in-Err.ensures.grown
