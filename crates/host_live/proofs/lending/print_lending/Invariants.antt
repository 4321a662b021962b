-- What stays so is the loan, and what was answered.
use Rattle.host_live.proofs.lending.print_lending.Given as goal

abbrev pub ghosts-print_lent : goal.ghosts-print_lent
ghosts-print_lent g a = record { name = a.taker.outlet.ghost_name; answers = g.S.Outlet.answers a.taker.outlet.now }
