use Rattle.std.proofs.Common.{ap, sym}
use Rattle.test_engine.proofs.Settled.{settled}
use Rattle.test_engine.proofs.desk.Desk.present.Goals as goal

-- both loans are those that were made

pub shape_of-self : goal.shape_of-self
shape_of-self c = settled _ _ _ _ _ _ _ c.advance.result c.advance.ensures (λ event reply p. sym p.1) (λ same. sym (ap (λ a. a.kept.ghost_name) same))

pub shape_of-self-2 : goal.shape_of-self-2
shape_of-self-2 c = settled _ _ _ _ _ _ _ c.advance.result c.advance.ensures (λ event reply p. sym p.0) (λ same. sym (ap (λ a. a.engine.ghost_name) same))
