use Rattle.std.proofs.Common.{◌≡◌, true, false, refl, sym, ◌∙◌}
use Rattle.engine_carried.proofs.fitting.have_fit_words.Goals as goal

pub returns-then-has_classes : goal.returns-then-has_classes
returns-then-has_classes c = (
  λ yes_ without. absurd (let bad : true ≡ false = sym c.if-has_classes.true ∙ (c.has_classes.ensures ∙ without) in cc),
  λ fits. refl,
)

pub returns : goal.returns
returns c = (
  λ plain without. c.are_plain.ensures.0 plain,
  λ fits. c.are_plain.ensures.1 (fits (sym c.has_classes.ensures ∙ c.if-has_classes.false)),
)
