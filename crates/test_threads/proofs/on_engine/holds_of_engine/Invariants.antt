-- The engine's name.
use Rattle.test_threads.proofs.on_engine.holds_of_engine.Given as goal

abbrev pub ghosts-holds_of-B-Ledger : goal.ghosts-holds_of-B-Ledger
ghosts-holds_of-B-Ledger g a = record { name = a.opened.calls.name; parts = a.opened.calls.parts }

abbrev pub ghosts-holds_of-B-Origin : goal.ghosts-holds_of-B-Origin
ghosts-holds_of-B-Origin g a = record { setup = a.opened.engine.setup; begun = a.opened.engine.history; table = a.opened.monitor }
