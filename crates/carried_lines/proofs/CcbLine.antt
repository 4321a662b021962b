-- The line of a CCB: with its class and its advice in a version that has them, without them in another one, and none where a CCB has what
-- it cannot have.
use Rattle.std.proofs.Common.{◌≡◌, ◌&&◌, ◌++◌, not, ℕ, Bool, true, false, Option, Some, None, List, [], ◌∷◌, refl, ap, ◌∙◌}
use Rattle.std.specs.Prelude.{if◌then◌else◌}
use Rattle.std.specs.Fmt.{option_append}
use Rattle.world_calls.specs.declared.carried_line.CarriedCcb.{CarriedCcb}
use Rattle.world_calls.specs.declared.carried_line.CarriedLine.TheVariants as lines
use Rattle.world_calls.specs.declared.trace.Version.{Version}
use Rattle.trace_lines.specs.Texts.{number_text}
use Rattle.trace_lines.specs.Versions.{has_classes}
use Rattle.trace_lines.specs.Written.{IsPut}
use Rattle.trace_lines.proofs.Putting.{none_second}
use Rattle.trace_lines.proofs.Tests.{both}
use Rattle.carried_lines.specs.declared.kind.Kind.TheVariants as kinds
use Rattle.carried_lines.specs.CarriedText.{after_blank, after_blanks, carried_text, ccb_fields_by, classed_ccb_fields, has_neither, is_classed, kind_text, plain_ccb_fields, state_fields}

-- the text of a line with these fields
abbrev text_by : Bool → CarriedCcb → Option (List ℕ)
text_by there ccb = option_append (Some (kind_text kinds.Ccb)) (after_blanks (ccb_fields_by there ccb))

-- the fields after the counts, and the whole text with these
abbrev behind_counts : Bool → CarriedCcb → List (Option (List ℕ))
behind_counts neither ccb = (if neither then [] else None ∷ []) ++ state_fields ccb

abbrev text_with : Bool → CarriedCcb → Option (List ℕ)
text_with neither ccb =
    option_append (Some (kind_text kinds.Ccb))
    (after_blanks
    (number_text ccb.number.0 ∷ number_text ccb.queue.0 ∷ number_text ccb.priority ∷ number_text ccb.retries ∷ number_text ccb.attempts ∷ behind_counts neither ccb))

was_not : (a : Bool) → not a ≡ true → a ≡ false
was_not true h = absurd cc
was_not false h = refl

is_so : (there neither : Bool) → (not there && not neither) ≡ false → there ≡ false → neither ≡ true
is_so true neither h e = absurd cc
is_so false true h e = refl
is_so false false h e = absurd cc

no_text : (ccb : CarriedCcb) → text_with false ccb ≡ None
no_text ccb =
    none_second (Some (kind_text kinds.Ccb)) _
    (none_second (after_blank (number_text ccb.number.0)) _
    (none_second (after_blank (number_text ccb.queue.0)) _
    (none_second (after_blank (number_text ccb.priority)) _
    (none_second (after_blank (number_text ccb.retries)) _
    (none_second (after_blank (number_text ccb.attempts)) _ refl)))))

module _ (version : Version) (ccb : CarriedCcb) where
  by_version : (there : Bool) → has_classes version ≡ there → carried_text version (lines.Ccb ccb) ≡ text_by there ccb
  by_version there e = ap (λ (b : Bool). text_by b ccb) e

  by_class : (neither : Bool) → has_classes version ≡ false → has_neither ccb.class ccb.advice ≡ neither → carried_text version (lines.Ccb ccb) ≡ text_with neither ccb
  by_class neither e f = by_version false e ∙ ap (λ (b : Bool). text_with b ccb) f

  -- it has a class or an advice where none has
  pub untold : is_classed version ccb ≡ true → carried_text version (lines.Ccb ccb) ≡ None
  untold h =
      let parts = both (not (has_classes version)) (not (has_neither ccb.class ccb.advice)) h in
      by_class false (was_not (has_classes version) parts.0) (was_not (has_neither ccb.class ccb.advice) parts.1) ∙ no_text ccb

  pub classed_put : (old new : List ℕ) → has_classes version ≡ true → IsPut (option_append (Some (kind_text kinds.Ccb)) (after_blanks (classed_ccb_fields ccb))) old new → IsPut (carried_text version (lines.Ccb ccb)) old new
  classed_put old new e put = ap (option_append (Some old)) (by_version true e) ∙ put

  pub plain_put : (old new : List ℕ) → is_classed version ccb ≡ false → has_classes version ≡ false → IsPut (option_append (Some (kind_text kinds.Ccb)) (after_blanks (plain_ccb_fields ccb))) old new → IsPut (carried_text version (lines.Ccb ccb)) old new
  plain_put old new h e put = ap (option_append (Some old)) (by_class true e (is_so (has_classes version) (has_neither ccb.class ccb.advice) h e)) ∙ put
