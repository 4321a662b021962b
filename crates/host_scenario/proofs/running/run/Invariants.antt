-- The engine's name.
use Rattle.host_scenario.proofs.running.run.Given as goal

abbrev pub ghosts-run_on-B-Ledger : goal.ghosts-run_on-B-Ledger
ghosts-run_on-B-Ledger g a = record { name = a.opened.calls.name; parts = a.opened.calls.parts }

abbrev pub ghosts-run_on-B-Origin : goal.ghosts-run_on-B-Origin
ghosts-run_on-B-Origin g a = record { setup = a.opened.engine.setup; begun = a.opened.engine.history; table = a.opened.monitor }
