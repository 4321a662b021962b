use Rattle.host_journal.proofs.Sound.{ordered}
use Rattle.host_journal.proofs.beginning.list_folder.Goals as goal

pub returns-in-Ok-listing_of-clause-ordered : goal.returns-in-Ok-listing_of-clause-ordered
returns-in-Ok-listing_of-clause-ordered g c = ordered _ c.in-Ok-listing_of.listing c.in-Ok-listing_of.ensures
