-- What is spilled stands on the stack where some of it ended, and where bytes were written.
use Rattle.std.proofs.Common.{◌≡◌, ℕ, ◌+◌, ◌*◌, ◌^◌, ◌<◌, ◌≤◌, List, [], Option, Some, None, length, refl, ap, sym, subst, ◌∙◌, arith, ◌⊎◌, inl, inr}
use Rattle.std.specs.Prelude.{slice_index_or}
use Rattle.std.proofs.lemmas.Bool.{cases_Bool, cases_eq, cases_lt, cond-true, cond-false}
use Rattle.stack_domain.specs.Stores.{stored}
use Rattle.check_register_kinds.specs.declared.freeze_name.FreezeName.{FreezeName}
use Rattle.check_register_kinds.specs.declared.held.Certainty.{Certainty}
use Rattle.check_register_kinds.specs.declared.held.HeldFreeze.{HeldFreeze}
use Rattle.check_register_kinds.specs.declared.region.Region.{Region}
use Rattle.check_register_kinds.specs.declared.region.Offsets.{Offsets}
use Rattle.check_register_kinds.specs.Freezes.{AreHeld, FreezeNumbers, IsNumbered, certainty_of, is_name, renumbered}
use Rattle.check_register_kinds.specs.Kinds.{HoldsKind, IsNumber, LiesAt}
use Rattle.check_register_kinds.proofs.Freezes.{renumbered_other}
use Rattle.check_description.specs.declared.spill.Spill.{Spill}
use Rattle.check_description.specs.declared.spill.Spill.TheVariants.{Nothing, Address, Freeze}
use Rattle.check_description.specs.Spills.{AreSpilled, AreUnspilled, IsFewer, at_place, kind_of, spill_at, spill_without, word_at}
use Rattle.check_description.proofs.Words.{word_elsewhere}

-- nothing holds of any word
nothing_holds : (numbers : FreezeNumbers) (spill : Spill) (o : Option ℕ) → spill ≡ Nothing → HoldsKind numbers (kind_of spill) o
nothing_holds numbers spill o none = subst (λ (s : Spill). HoldsKind numbers (kind_of s) o) (sym none) tt

same_holds : (numbers : FreezeNumbers) (before after : Spill) (o p : Option ℕ) → after ≡ before → p ≡ o → HoldsKind numbers (kind_of before) o → HoldsKind numbers (kind_of after) p
same_holds numbers before after o p same word holds = subst (λ (s : Spill). HoldsKind numbers (kind_of s) p) (sym same) (subst (HoldsKind numbers (kind_of before)) (sym word) holds)

-- what is spilled is no number
pub no_number : (spill : Spill) → IsNumber (kind_of spill) → ⊥
no_number Nothing number = number
no_number (Address region offsets) number = number
no_number (Freeze name) number = number

-- some of it ended
pub fewer_spilled : (numbers : FreezeNumbers) (before after : List Spill) (frames : List (List (Option ℕ))) → IsFewer before after → AreSpilled numbers before frames → AreSpilled numbers after frames
fewer_spilled numbers before after frames fewer are frame word few = elim (fewer (64 * frame + word)) [
  | inl none ↦ nothing_holds numbers (spill_at after frame word) (word_at frames frame word) none
  | inr same ↦ same_holds numbers (spill_at before frame word) (spill_at after frame word) (word_at frames frame word) (word_at frames frame word) same refl (are frame word few)
]

-- what is spilled where words are as they were
pub elsewhere_spilled : (numbers : FreezeNumbers) (spills : List Spill) (frames after : List (List (Option ℕ))) → ((frame word : ℕ) → word < 64 → (spill_at spills frame word ≡ Nothing) ⊎ (word_at after frame word ≡ word_at frames frame word))
    → AreSpilled numbers spills frames → AreSpilled numbers spills after
elsewhere_spilled numbers spills frames after each are frame word few = elim (each frame word few) [
  | inl none ↦ nothing_holds numbers (spill_at spills frame word) (word_at after frame word) none
  | inr same ↦ subst (HoldsKind numbers (kind_of (spill_at spills frame word))) (sym same) (are frame word few)
]

-- bytes were written, and nothing is spilled where they may be
module _ (numbers : FreezeNumbers) (before after : List Spill) (frames : List (List (Option ℕ))) (fewer : IsFewer before after) (frame offset from end : ℕ) (bytes : List ℕ) (ended : AreUnspilled after frame from end)
    (live : frame < length frames) (inside : offset + length bytes ≤ length (slice_index_or frames frame [])) (above : from ≤ offset) (below : offset + length bytes ≤ end) where
  pub still_spilled : AreSpilled numbers before frames → AreSpilled numbers after (stored frames frame offset bytes)
  still_spilled are = elsewhere_spilled numbers after frames (stored frames frame offset bytes) each (fewer_spilled numbers before after frames fewer are)
    where
      each : (k word : ℕ) → word < 64 → (spill_at after k word ≡ Nothing) ⊎ (word_at (stored frames frame offset bytes) k word ≡ word_at frames k word)
      each k word few = elim (cases_eq k frame) [
        | inr other ↦ inr (word_elsewhere frames frame offset bytes live inside k word (λ same. absurd (other same)))
        | inl same ↦ elim (cases_lt from (8 * word + 8)) [
          | inr before_it ↦ inr (word_elsewhere frames frame offset bytes live inside k word (λ e. inl (omega (arith, before_it, above))))
          | inl past ↦ elim (cases_lt (8 * word) end) [
            | inr behind_it ↦ inr (word_elsewhere frames frame offset bytes live inside k word (λ e. inr (omega (arith, behind_it, below))))
            | inl there ↦ inl (ap (λ (n : ℕ). spill_at after n word) same ∙ ended word few past there)
          ]
        ]
      ]

-- a freeze is held no more
without_holds : (numbers : FreezeNumbers) (name : FreezeName) (n o : Option ℕ) (spill : Spill) → HoldsKind numbers (kind_of spill) o → HoldsKind (renumbered numbers name n) (kind_of (spill_without name spill)) o
without_holds numbers name n o Nothing holds = tt
without_holds numbers name n o (Address region offsets) holds = holds
without_holds numbers name n o (Freeze other) holds = elim (cases_Bool (is_name other name)) [
  | inl same ↦ nothing_holds (renumbered numbers name n) (spill_without name (Freeze other)) o (cond-true (is_name other name) Nothing (Freeze other) same)
  | inr apart ↦
      let kept : spill_without name (Freeze other) ≡ Freeze other = cond-false (is_name other name) Nothing (Freeze other) apart in
      same_holds (renumbered numbers name n) (Freeze other) (spill_without name (Freeze other)) o o kept refl (holds.0, holds.1, renumbered_other numbers name other n apart ∙ holds.2)
]

pub given_spilled : (numbers : FreezeNumbers) (name : FreezeName) (before after : List Spill) (frames : List (List (Option ℕ))) → ((place : ℕ) → at_place after place ≡ spill_without name (at_place before place))
    → AreSpilled numbers before frames → AreSpilled (renumbered numbers name None) after frames
given_spilled numbers name before after frames each are frame word few =
    same_holds (renumbered numbers name None) (spill_without name (spill_at before frame word)) (spill_at after frame word) (word_at frames frame word) (word_at frames frame word) (each (64 * frame + word)) refl
    (without_holds numbers name None (word_at frames frame word) (spill_at before frame word) (are frame word few))

-- an address or a freeze is a word of 64 bits
number_below : (o : Option Certainty) (p : Option ℕ) (number : ℕ) → IsNumbered o p → p ≡ Some number → number < 2 ^ 64
number_below (Some certainty) p number (n, is, known, small) same = let one : n ≡ number = let e = sym is ∙ same in cc in omega (arith, one, small)
number_below None p number is same = absurd (let bad : None ≡ Some number = sym is ∙ same in cc)

pub spill_below : (numbers : FreezeNumbers) (held : List HeldFreeze) (run : List ℕ) (spill : Spill) (word : ℕ) → AreHeld numbers held run → ((region : Region) (offsets : Offsets) → spill ≡ Address region offsets → LiesAt region offsets word → word < 2 ^ 64)
    → HoldsKind numbers (kind_of spill) (Some word) → (spill ≡ Nothing) ⊎ (word < 2 ^ 64)
spill_below numbers held run Nothing word is near holds = inl refl
spill_below numbers held run (Address region offsets) word is near (address, same, lies) = inr (near region offsets refl (subst (LiesAt region offsets) (let one : address ≡ word = cc in one) lies))
spill_below numbers held run (Freeze name) word is near (number, same, its) = inr (number_below (certainty_of held name) (numbers name) word (is.known name) (its ∙ sym same))

-- a word was written whole, and is spilled there
module _ (numbers : FreezeNumbers) (before after : List Spill) (frames : List (List (Option ℕ))) (frame word value : ℕ) (spill : Spill) (few : word < 64) (here : spill_at after frame word ≡ spill)
    (others : (place : ℕ) → (place ≡ 64 * frame + word → ⊥) → at_place after place ≡ at_place before place)
    (stands : (spill ≡ Nothing) ⊎ (word_at frames frame word ≡ Some value)) (holds : HoldsKind numbers (kind_of spill) (Some value)) where
  pub put_spilled : AreSpilled numbers before frames → AreSpilled numbers after frames
  put_spilled are k w lt = elim (cases_eq (64 * k + w) (64 * frame + word)) [
    | inr other ↦ same_holds numbers (spill_at before k w) (spill_at after k w) (word_at frames k w) (word_at frames k w) (others (64 * k + w) other) refl (are k w lt)
    | inl same ↦
        let frames_same : k ≡ frame = omega (arith, same, few, lt) in
        let words_same : w ≡ word = omega (arith, same, few, lt) in
        let spilled : spill_at after k w ≡ spill = ap (at_place after) same ∙ here in
        elim stands [
          | inl none ↦ nothing_holds numbers (spill_at after k w) (word_at frames k w) (spilled ∙ none)
          | inr is ↦ same_holds numbers spill (spill_at after k w) (Some value) (word_at frames k w) spilled (ap (λ (n : ℕ). word_at frames n w) frames_same ∙ (ap (word_at frames frame) words_same ∙ is)) holds
        ]
  ]
