use Rattle.host_live.proofs.Growing.{as_these, has_as}
use Rattle.host_live.specs.LinesCome.{IsText}
use Rattle.host_live.proofs.Turning.{turned_no_text}
use Rattle.host_live.proofs.host.Host.serve_line.Goals as goal

pub returns-in-None-clause-grown : goal.returns-in-None-clause-grown
returns-in-None-clause-grown g c = λ came it. let none : IsText came → ⊥ = rw c.in-None.is at it in as_these _ _ _ _ _ _ (λ more acts. turned_no_text c.args.manner came c.serve_asked.new.self.engine.engine c.args.now c.requires.clocked more c.serve_asked.result none acts) c.serve_asked.ensures.grown

pub returns-in-None-clause-counted : goal.returns-in-None-clause-counted
returns-in-None-clause-counted g c = has_as _ _ _ _ _ _ c.serve_asked.ensures.grown
