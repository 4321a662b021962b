-- What stays so is the loan, and what was answered.
use Rattle.host_live.proofs.lending.end_lending.Given as goal

abbrev pub ghosts-end_lent : goal.ghosts-end_lent
ghosts-end_lent g a = record { name = a.taker.outlet.ghost_name; answers = g.S.Outlet.answers a.taker.outlet.now }
