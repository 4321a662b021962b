-- A table that is filled place after place in a postorder: where control goes on from a place it is filled already.
use Rattle.std.proofs.Common.{◌≡◌, ℕ, ◌+◌, ◌<◌, ◌≤◌, true, List, length, Some, set, slice_get, slice_index, ap, sym, subst, ◌∙◌, arith, inl, inr, get_or-set_same, get_or-set_other}
use Rattle.std.proofs.lemmas.Bool.{cases_eq}
use Rattle.std.proofs.lemmas.Option.{same_Some, slice_get-get_or}
use Rattle.bpf_insn.specs.declared.insn.Insn.{Insn}
use Rattle.bpf_insn.specs.declared.program.Slot.{Slot}
use Rattle.bpf_insn.specs.Program.{insn_at}
use Rattle.call_shape.specs.declared.onward.Onward.{Onward}
use Rattle.call_shape.specs.declared.onward.Onward.TheVariants.{Leaves, Continues, Branches, Enters}
use Rattle.call_shape.specs.Calls.{begins, function_of, StandsBefore}
use Rattle.call_shape.specs.Postorder.{IsPostorder, IsWholePostorder}
use Rattle.call_shape.specs.Tables.{HasEntries}
use Rattle.call_shape.proofs.Places.{begins_inside, begins_there}
use Rattle.call_shape.proofs.Ways.{IsFurther, IsCalled, IsLawfulWay}

-- what is to hold of a place and its entry holds of the first n places
pub record AreFilled (places : List ℕ) (Holds : ℕ → ℕ → Type 0) (table : List ℕ) (n : ℕ) : Type 0 where
  pub holds : (place : ℕ) → StandsBefore places n place → Holds place (slice_index table place)

pub filled_none : (places : List ℕ) (Holds : ℕ → ℕ → Type 0) (table : List ℕ) → AreFilled places Holds table 0
filled_none places Holds table = record { holds = λ place stands. absurd (omega (arith, stands.before)) }

pub filled_more : (places : List ℕ) (Holds : ℕ → ℕ → Type 0) (table : List ℕ) (n place entry : ℕ) → slice_get places n ≡ Some place → place < length table → Holds place entry → AreFilled places Holds table n → AreFilled places Holds (set table place entry) (n + 1)
filled_more places Holds table n place entry at lt here filled = record { holds = go }
  where
    go : (k : ℕ) → StandsBefore places (n + 1) k → Holds k (slice_index (set table place entry) k)
    go k stands = elim (cases_eq k place) [
      | inl same ↦
          subst (λ (p : ℕ). Holds p (slice_index (set table place entry) p)) (sym same)
          (subst (Holds place) (sym (get_or-set_same table place entry 0 lt)) here)
      | inr other ↦
          subst (Holds k) (sym (get_or-set_other table place k entry 0 other))
          (filled.holds k (record { index = stands.index; before = omega (arith, stands.before, elsewhere k stands other); there = stands.there }))
    ]
      where
        elsewhere : (k : ℕ) (stands : StandsBefore places (n + 1) k) → (k ≡ place → ⊥) → (stands.index ≡ n → ⊥)
        elsewhere k stands other e = other (same_Some k place (sym stands.there ∙ ap (slice_get places) e ∙ at))

-- and so of all places
pub filled_all : (program : List Slot) (places : List ℕ) (Holds : ℕ → ℕ → Type 0) (table : List ℕ) (place : ℕ) → IsWholePostorder program places → AreFilled places Holds table (length places) → begins program place ≡ true → Holds place (slice_index table place)
filled_all program places Holds table place order filled there = filled.holds place (order.all place there)

module _ (program : List Slot) (places : List ℕ) (Holds : ℕ → ℕ → Type 0) (table : List ℕ) (n place : ℕ) (order : IsPostorder program places (length places)) (lt : n < length places) (at : slice_get places n ≡ Some place) (filled : AreFilled places Holds table n) where
  pub filled_later : (later : ℕ) → place < later → begins program later ≡ true → function_of program later ≡ function_of program place → Holds later (slice_index table later)
  filled_later later further there own = filled.holds later (order.later_first n place later lt at further there own)

  pub filled_further : (next : ℕ) → IsFurther program place next → Holds next (slice_index table next)
  filled_further next is = filled_later next is.forward is.there is.within

  pub filled_callee : (callee : ℕ) → IsCalled program place callee → Holds callee (slice_index table callee)
  filled_callee callee is = filled.holds callee (order.callee_first n place callee lt at is.leads)

-- what stands in the list at an index that is read
pub read_at : (places : List ℕ) (n place : ℕ) → n < length places → place ≡ slice_index places n → slice_get places n ≡ Some place
read_at places n place lt e = slice_get-get_or places n 0 lt ∙ ap Some (sym e)

-- and an instruction begins there
pub begun_at : (program : List Slot) (places : List ℕ) (n place : ℕ) → IsWholePostorder program places → n < length places → place ≡ slice_index places n → (insn : Insn) × (insn_at program place ≡ Some insn)
begun_at program places n place order lt e = begins_there program place (order.order.begun n place lt (read_at places n place lt e))

-- where control goes on there are entries
pub has_entries : (program : List Slot) (place n : ℕ) (way : Onward) → length program ≤ n → IsLawfulWay program place way → HasEntries n way
has_entries program place n Leaves fits lawful = tt
has_entries program place n (Continues next) fits lawful = omega (arith, fits, begins_inside program next lawful.there)
has_entries program place n (Branches next other) fits lawful =
    (omega (arith, fits, begins_inside program next lawful.0.there), omega (arith, fits, begins_inside program other lawful.1.there))
has_entries program place n (Enters callee next) fits lawful =
    (omega (arith, fits, begins_inside program callee lawful.0.there), omega (arith, fits, begins_inside program next lawful.1.there))
