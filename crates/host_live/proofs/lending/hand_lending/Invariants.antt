-- What stays so is the loan, and what was answered.
use Rattle.host_live.proofs.lending.hand_lending.Given as goal

abbrev pub ghosts-hand_lent : goal.ghosts-hand_lent
ghosts-hand_lent g a = record { name = a.taker.outlet.ghost_name; answers = g.S.Outlet.answers a.taker.outlet.now }
