-- The laws of refusals.
use Rattle.inbox.proofs.Refusing.{none_means_taken, refused_means_used, comes_out}
use Rattle.inbox.proofs.laws.refusals.Goals as goal

pub returns-clause-none : goal.returns-clause-none
returns-clause-none c = none_means_taken

pub returns-clause-refused : goal.returns-clause-refused
returns-clause-refused c = refused_means_used

pub returns-clause-comes_out : goal.returns-clause-comes_out
returns-clause-comes_out c = comes_out
