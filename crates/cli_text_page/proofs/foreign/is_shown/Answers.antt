use Rattle.std.proofs.Common.{◌≡◌, ◌⊎◌, inl, inr, refl, sym, ap, ◌∙◌, true, false}
use Rattle.ucd_category.specs.declared.GeneralCategory.{GeneralCategory}
use Rattle.ucd_category.specs.declared.GeneralCategory.TheVariants.{Control, Format, Surrogate, PrivateUse, Unassigned, LineSeparator, ParagraphSeparator}
use Rattle.cli_text_page.specs.Escaping.{is_harmless, is_shown}
use Rattle.cli_text_page.proofs.foreign.is_shown.Goals as goal

harmful : (v : GeneralCategory)
    → (v ≡ Control) ⊎ ((v ≡ Format) ⊎ ((v ≡ Surrogate) ⊎ ((v ≡ PrivateUse) ⊎ ((v ≡ Unassigned) ⊎ ((v ≡ LineSeparator) ⊎ (v ≡ ParagraphSeparator))))))
    → false ≡ is_harmless v
harmful v (inl h) = sym (ap is_harmless h)
harmful v (inr (inl h)) = sym (ap is_harmless h)
harmful v (inr (inr (inl h))) = sym (ap is_harmless h)
harmful v (inr (inr (inr (inl h)))) = sym (ap is_harmless h)
harmful v (inr (inr (inr (inr (inl h))))) = sym (ap is_harmless h)
harmful v (inr (inr (inr (inr (inr (inl h)))))) = sym (ap is_harmless h)
harmful v (inr (inr (inr (inr (inr (inr h)))))) = sym (ap is_harmless h)

harmless : (v : GeneralCategory) → (v ≡ Control → ⊥) → (v ≡ Format → ⊥) → (v ≡ Surrogate → ⊥) → (v ≡ PrivateUse → ⊥) → (v ≡ Unassigned → ⊥)
    → (v ≡ LineSeparator → ⊥) → (v ≡ ParagraphSeparator → ⊥) → true ≡ is_harmless v
harmless Control never _ _ _ _ _ _ = absurd (never refl)
harmless Format _ never _ _ _ _ _ = absurd (never refl)
harmless Surrogate _ _ never _ _ _ _ = absurd (never refl)
harmless PrivateUse _ _ _ never _ _ _ = absurd (never refl)
harmless Unassigned _ _ _ _ never _ _ = absurd (never refl)
harmless LineSeparator _ _ _ _ _ never _ = absurd (never refl)
harmless ParagraphSeparator _ _ _ _ _ _ never = absurd (never refl)
harmless _ _ _ _ _ _ _ _ = refl

pub returns-in-Control : goal.returns-in-Control
unfolding is_shown
returns-in-Control c = harmful c.for_char.result c.in-Control.is ∙ ap is_harmless c.for_char.ensures

pub returns-in_default : goal.returns-in_default
unfolding is_shown
returns-in_default c =
    let n = c.in_default in
    harmless c.for_char.result n.not-Control n.not-Format n.not-Surrogate n.not-PrivateUse n.not-Unassigned n.not-LineSeparator n.not-ParagraphSeparator
    ∙ ap is_harmless c.for_char.ensures
