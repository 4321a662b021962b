-- The records' name.
use Rattle.engine_lock.specs.Publishing.{beyond}
use Rattle.engine_lock.proofs.publishing.publish_beyond.Given as goal

abbrev pub ghosts-publish : goal.ghosts-publish
ghosts-publish g a = record { told = beyond a.keeper.now.history a.engine.now.history }
