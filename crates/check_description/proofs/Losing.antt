-- Where spills are lost one after another: what is left of them, and of the bytes that are known to be written.
use Rattle.std.proofs.Common.{◌≡◌, ℕ, ◌+◌, ◌*◌, ◌/◌, ◌<◌, ◌≤◌, Bool, true, false, List, Option, length, refl, sym, subst, ◌∙◌, arith, ◌⊎◌, inl, inr}
use Rattle.std.proofs.lemmas.Bool.{cases_eq}
use Rattle.stack_domain.specs.Stack.{MarksCover, Knows}
use Rattle.check_description.specs.declared.spill.Spill.{Spill}
use Rattle.check_description.specs.declared.spill.Spill.TheVariants.{Nothing}
use Rattle.check_description.specs.Spills.{at_place}

pub not_both : (b : Bool) → b ≡ false → b ≡ true → ⊥
not_both b off on = absurd (let bad : false ≡ true = sym off ∙ on in cc)

-- of the places before one those are lost of which one thing holds, and of the others, which are as they were, another holds
pub record HaveLost (IsLost Stays : ℕ → Type 0) (upto : ℕ) (before after : List Spill) (stack left : List (List Bool)) : Type 0 where
  pub len : length after ≡ length before
  pub gone : (place : ℕ) → place < upto → IsLost place → at_place after place ≡ Nothing
  pub fewer : (place : ℕ) → (at_place after place ≡ Nothing) ⊎ (at_place after place ≡ at_place before place)
  pub each : (place : ℕ) → place < upto → (at_place after place ≡ Nothing) ⊎ Stays place
  pub kept : (place : ℕ) → ((upto ≤ place) ⊎ (IsLost place → ⊥)) → at_place after place ≡ at_place before place
  pub depth : length left ≡ length stack
  pub covers : (frames : List (List (Option ℕ))) → MarksCover stack frames → MarksCover left frames
  pub knows : (frame offset : ℕ) → (IsLost (64 * frame + offset / 8) → ⊥) → Knows stack frame offset → Knows left frame offset

module _ (IsLost Stays : ℕ → Type 0) (before : List Spill) (stack : List (List Bool)) where
  pub lost_none : HaveLost IsLost Stays 0 before before stack stack
  lost_none = record {
    len = refl;
    gone = λ place lt is. absurd (omega (arith, lt));
    fewer = λ place. inr refl;
    each = λ place lt. absurd (omega (arith, lt));
    kept = λ place apart. refl;
    depth = refl;
    covers = λ frames covers. covers;
    knows = λ frame offset is knows. knows;
  }

  module _ (upto : ℕ) (places : List Spill) (left : List (List Bool)) (have : HaveLost IsLost Stays upto before places stack left) where
    -- this one stays
    pub lost_not : (IsLost upto → ⊥) → Stays upto → HaveLost IsLost Stays (upto + 1) before places stack left
    lost_not not stays = record {
      len = have.len;
      gone = λ place lt is. elim (cases_eq place upto) [
        | inl same ↦ absurd (not (subst IsLost same is))
        | inr apart ↦ have.gone place (omega (arith, lt, apart)) is
      ];
      fewer = have.fewer;
      each = λ place lt. elim (cases_eq place upto) [
        | inl same ↦ inr (subst Stays (sym same) stays)
        | inr apart ↦ have.each place (omega (arith, lt, apart))
      ];
      kept = λ place apart. have.kept place (elim apart [ inl past ↦ inl (omega (arith, past)) | inr left ↦ inr left ]);
      depth = have.depth;
      covers = have.covers;
      knows = have.knows;
    }

    -- this one is lost
    pub lost_too : (after : List Spill) (fewer : List (List Bool)) → IsLost upto → at_place after upto ≡ Nothing → ((other : ℕ) → (other ≡ upto → ⊥) → at_place after other ≡ at_place places other) → length after ≡ length places
        → length fewer ≡ length left → ((frames : List (List (Option ℕ))) → MarksCover left frames → MarksCover fewer frames)
        → ((frame offset : ℕ) → (64 * frame + offset / 8 ≡ upto → ⊥) → Knows left frame offset → Knows fewer frame offset)
        → HaveLost IsLost Stays (upto + 1) before after stack fewer
    lost_too after fewer is nothing others len depth covers knows = record {
      len = len ∙ have.len;
      gone = λ place lt lost. elim (cases_eq place upto) [
        | inl same ↦ subst (λ (n : ℕ). at_place after n ≡ Nothing) (sym same) nothing
        | inr apart ↦ others place apart ∙ have.gone place (omega (arith, lt, apart)) lost
      ];
      fewer = λ place. elim (cases_eq place upto) [
        | inl same ↦ inl (subst (λ (n : ℕ). at_place after n ≡ Nothing) (sym same) nothing)
        | inr apart ↦ elim (have.fewer place) [ inl none ↦ inl (others place apart ∙ none) | inr was ↦ inr (others place apart ∙ was) ]
      ];
      each = λ place lt. elim (cases_eq place upto) [
        | inl same ↦ inl (subst (λ (n : ℕ). at_place after n ≡ Nothing) (sym same) nothing)
        | inr apart ↦ elim (have.each place (omega (arith, lt, apart))) [ inl none ↦ inl (others place apart ∙ none) | inr stays ↦ inr stays ]
      ];
      kept = λ place apart. elim (cases_eq place upto) [
        | inl same ↦ absurd (elim apart [ inl past ↦ omega (arith, past, same) | inr stays ↦ stays (subst IsLost (sym same) is) ])
        | inr other ↦ others place other ∙ have.kept place (elim apart [ inl past ↦ inl (omega (arith, past)) | inr stays ↦ inr stays ])
      ];
      depth = depth ∙ have.depth;
      covers = λ frames covered. covers frames (have.covers frames covered);
      knows = λ frame offset stays known. knows frame offset (λ same. stays (subst IsLost (sym same) is)) (have.knows frame offset stays known);
    }
