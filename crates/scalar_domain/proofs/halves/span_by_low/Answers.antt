-- Where the upper halves differ, any word.
use Rattle.scalar_domain.proofs.halves.span_by_low.Goals as goal

pub returns-else-upper-words : goal.returns-else-upper-words
returns-else-upper-words c = λ w fits h k. c.any.ensures w fits
