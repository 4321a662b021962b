-- What stays so is the loan, and what the folder holds and did, and the open segment.
use Rattle.host_journal.proofs.replaying.read_lending.Given as goal

abbrev pub ghosts-read_lent : goal.ghosts-read_lent
ghosts-read_lent g a = record { name = a.reader.disk.ghost_name; held = g.D.Disk.held a.reader.disk.now; segment = g.D.Disk.segment a.reader.disk.now; steps = g.D.Disk.steps a.reader.disk.now }
