-- The order that is kept: from the steps of the disk on, with what waits at first.
use Rattle.host_journal.proofs.serving.serve.Given as goal

abbrev pub ghosts-serve_ordered : goal.ghosts-serve_ordered
ghosts-serve_ordered g a = record { before = g.D.Disk.steps a.disk; segment = g.D.Disk.segment a.disk; first = a.pending.items; is_synced = a.is_synced }
