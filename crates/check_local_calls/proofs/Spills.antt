-- What is spilled where a frame more is live, and where the innermost one is gone.
use Rattle.std.proofs.Common.{◌≡◌, ℕ, ◌+◌, ◌*◌, ◌<◌, ◌≤◌, List, [], ◌∷◌, ◌++◌, Option, Some, None, length, take, refl, ap, sym, ◌∙◌, arith, ◌⊎◌, inl, inr, length-append}
use Rattle.std.proofs.lemmas.Bool.{cases_lt}
use Rattle.std.proofs.lemmas.List.{get_or_append_left, get_or-take, length-take-le}
use Rattle.check_register_kinds.specs.Freezes.{FreezeNumbers}
use Rattle.check_register_kinds.specs.Kinds.{HoldsKind}
use Rattle.check_description.specs.declared.spill.Spill.{Spill}
use Rattle.check_description.specs.declared.spill.Spill.TheVariants.{Nothing, Address, Freeze}
use Rattle.check_description.specs.Spills.{AreSpilled, IsFewer, at_place, kind_of, spill_at, word_at, word_in}
use Rattle.check_description.proofs.Spilled.{elsewhere_spilled, fewer_spilled}
use Rattle.check_description.proofs.Words.{word_gone, word_live}

-- nothing is spilled where no word is
held_nowhere : (numbers : FreezeNumbers) (spill : Spill) (o : Option ℕ) → o ≡ None → HoldsKind numbers (kind_of spill) o → spill ≡ Nothing
held_nowhere numbers Nothing o none holds = refl
held_nowhere numbers (Address region offsets) o none holds = absurd (let bad : None ≡ Some holds.0 = sym none ∙ holds.1 in cc)
held_nowhere numbers (Freeze name) o none holds = absurd (let bad : None ≡ Some holds.0 = sym none ∙ holds.1 in cc)

pub opened_spilled : (numbers : FreezeNumbers) (spills : List Spill) (frames : List (List (Option ℕ))) (frame : List (Option ℕ)) → AreSpilled numbers spills frames → AreSpilled numbers spills (frames ++ frame ∷ [])
opened_spilled numbers spills frames frame are = elsewhere_spilled numbers spills frames (frames ++ frame ∷ []) each are
  where
    each : (k word : ℕ) → word < 64 → (spill_at spills k word ≡ Nothing) ⊎ (word_at (frames ++ frame ∷ []) k word ≡ word_at frames k word)
    each k word few = elim (cases_lt k (length frames)) [
      | inl below ↦ inr (
          word_live (frames ++ frame ∷ []) k word (omega (arith, below, length-append frames (frame ∷ [])))
          ∙ (ap (word_in word) (get_or_append_left frames (frame ∷ []) [] k below) ∙ sym (word_live frames k word below))
          )
      | inr past ↦ inl (held_nowhere numbers (spill_at spills k word) (word_at frames k word) (word_gone frames k word past) (are k word few))
    ]

pub closed_spilled : (numbers : FreezeNumbers) (before after : List Spill) (frames : List (List (Option ℕ))) (live : ℕ) → live ≤ length frames → IsFewer before after → ((place : ℕ) → 64 * live ≤ place → at_place after place ≡ Nothing)
    → AreSpilled numbers before frames → AreSpilled numbers after (take live frames)
closed_spilled numbers before after frames live within fewer outside are = elsewhere_spilled numbers after frames (take live frames) each (fewer_spilled numbers before after frames fewer are)
  where
    each : (k word : ℕ) → word < 64 → (spill_at after k word ≡ Nothing) ⊎ (word_at (take live frames) k word ≡ word_at frames k word)
    each k word few = elim (cases_lt k live) [
      | inl below ↦ inr (
          word_live (take live frames) k word (omega (arith, below, within, length-take-le live frames within))
          ∙ (ap (word_in word) (get_or-take live frames k [] below) ∙ sym (word_live frames k word (omega (arith, below, within))))
          )
      | inr past ↦ inl (outside (64 * k + word) (omega (arith, past)))
    ]
