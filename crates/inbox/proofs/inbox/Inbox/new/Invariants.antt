-- The shape that the passes are made with.
use Rattle.inbox.proofs.inbox.Inbox.new.Given as goal

abbrev pub ghosts-deal : goal.ghosts-deal
ghosts-deal a = record { shape = record { capacity = a.queue.cap; puts = a.puts; takes = a.takes } }
