use Rattle.engine_carried.proofs.fitting.leaves_what_fits.Goals as goal

pub returns-then-are_others_free : goal.returns-then-are_others_free
returns-then-are_others_free c =
    (λ is. (c.are_others_free.ensures.0 c.if-are_others_free.true, c.have_fit_words.ensures.0 is), λ all. c.have_fit_words.ensures.1 all.1)

pub returns-else-are_others_free : goal.returns-else-are_others_free
returns-else-are_others_free c = (λ is. absurd (cc (is, c.if-are_others_free.false)), λ all. c.are_others_free.ensures.1 all.0)
