-- What is in force: the segment, and its manifest.
use Rattle.cli_commands.proofs.journal_engine.serve_engine.Given as goal

abbrev pub ghosts-serve_under : goal.ghosts-serve_under
ghosts-serve_under g a = record { number = a.begun.now.number; own = a.own.now }
