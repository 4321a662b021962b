-- Of places in a postorder the starts of functions are in a calling order.
use Rattle.std.proofs.Common.{◌≡◌, ℕ, zero, suc, ◌<◌, Bool, true, false, cond, List, [], ◌∷◌, length, Some, take, slice_get, refl, ap, sym, subst, ◌∙◌, arith, inl, inr, take_all}
use Rattle.std.proofs.lemmas.Bool.{cases_eq}
use Rattle.std.proofs.lemmas.Option.{same_Some, slice_get_within}
use Rattle.bpf_insn.specs.declared.program.Slot.{Slot}
use Rattle.bpf_insn.specs.Program.{IsProgram}
use Rattle.call_shape.specs.Calls.{callee_at, is_start, function_of, StandsBefore, IsCallingOrder}
use Rattle.call_shape.specs.Postorder.{IsPostorder, IsWholePostorder}
use Rattle.call_shape.specs.Shape.{AreFound, AreContained, AreOrdered}
use Rattle.call_shape.proofs.Contained.{calls_insn}
use Rattle.call_shape.proofs.SlotFunctions.{function_before, own_function, caller_begins, callee_starts, start_begins}

-- the starts among places, in their order
abbrev starts_in : List Slot → List ℕ → List ℕ
starts_in program [] = []
starts_in program (place ∷ places) = cond (is_start program place) (place ∷ starts_in program places) (starts_in program places)

one_more : (b : Bool) (x : ℕ) (front rest : List ℕ) (slot : ℕ) → StandsBefore rest (length front) slot → StandsBefore (cond b (x ∷ rest) rest) (length (cond b (x ∷ front) front)) slot
one_more true x front rest slot stands = record { index = suc stands.index; before = omega (arith, stands.before); there = stands.there }
one_more false x front rest slot stands = stands

first_one : (b : Bool) (x : ℕ) (front rest : List ℕ) → b ≡ true → StandsBefore (cond b (x ∷ rest) rest) (length (cond b (x ∷ front) front)) x
first_one true x front rest e = record { index = 0; before = omega arith; there = refl }
first_one false x front rest e = absurd cc

-- a start among the first places is among as many starts as they have
stands_kept : (program : List Slot) (places : List ℕ) (n i slot : ℕ) → i < n → slice_get places i ≡ Some slot → is_start program slot ≡ true → StandsBefore (starts_in program places) (length (starts_in program (take n places))) slot
stands_kept program [] n i slot lt at starts = absurd cc
stands_kept program (place ∷ places) zero i slot lt at starts = absurd (omega arith)
stands_kept program (place ∷ places) (suc n) zero slot lt at starts =
    let same = same_Some place slot at in
    subst (StandsBefore (starts_in program (place ∷ places)) (length (starts_in program (place ∷ take n places)))) same
    (first_one (is_start program place) place (starts_in program (take n places)) (starts_in program places) (ap (is_start program) same ∙ starts))
stands_kept program (place ∷ places) (suc n) (suc i) slot lt at starts =
    one_more (is_start program place) place (starts_in program (take n places)) (starts_in program places) slot (stands_kept program places n i slot (omega arith) at starts)

-- where a start stood among the places
record StoodAt (program : List Slot) (places : List ℕ) (j slot : ℕ) : Type 0 where
  index : ℕ
  there : slice_get places index ≡ Some slot
  starts : is_start program slot ≡ true
  count : length (starts_in program (take index places)) ≡ j

stood_later : (b : Bool) (program : List Slot) (place : ℕ) (places : List ℕ) → is_start program place ≡ b → ((j slot : ℕ) → slice_get (starts_in program places) j ≡ Some slot → StoodAt program places j slot) → (j slot : ℕ) → slice_get (cond b (place ∷ starts_in program places) (starts_in program places)) j ≡ Some slot → StoodAt program (place ∷ places) j slot
stood_later true program place places is earlier zero slot at = record { index = 0; there = at; starts = ap (is_start program) (sym (same_Some place slot at)) ∙ is; count = refl }
stood_later true program place places is earlier (suc j) slot at =
    let rest = earlier j slot at in
    record { index = suc rest.index; there = rest.there; starts = rest.starts; count = rw is (ap suc rest.count) }
stood_later false program place places is earlier j slot at =
    let rest = earlier j slot at in
    record { index = suc rest.index; there = rest.there; starts = rest.starts; count = rw is rest.count }

stood_at : (program : List Slot) (places : List ℕ) (j slot : ℕ) → slice_get (starts_in program places) j ≡ Some slot → StoodAt program places j slot
stood_at program [] j slot at = absurd cc
stood_at program (place ∷ places) j slot at = stood_later (is_start program place) program place places refl (λ k other there. stood_at program places k other there) j slot at

-- the start of a function stands after all its places, and so after what they call
callee_before : (program : List Slot) (places : List ℕ) (i place callee : ℕ) → IsPostorder program places (length places) → slice_get places i ≡ Some (function_of program place) → function_of program (function_of program place) ≡ function_of program place → callee_at program place ≡ Some callee → StandsBefore places i callee
callee_before program places i place callee order at own leads =
    let lt : i < length places = slice_get_within places i (function_of program place) at in
    elim (cases_eq (function_of program place) place) [
      | inl same ↦ order.callee_first i place callee lt (at ∙ ap Some same) leads
      | inr other ↦
          let first = order.later_first i (function_of program place) place lt at (omega (arith, other, function_before program place)) (caller_begins program place callee leads) (sym own) in
          let inner = order.callee_first first.index place callee (omega (arith, lt, first.before)) first.there leads in
          record { index = inner.index; before = omega (arith, inner.before, first.before); there = inner.there }
    ]

pub calling_order : (program : List Slot) (places : List ℕ) → IsProgram program → AreFound program → IsWholePostorder program places → IsCallingOrder program (starts_in program places)
calling_order program places is found whole = record {
  starts = λ j slot at. (stood_at program places j slot at).starts;
  all = λ slot lt starts.
      let stands = whole.all slot (start_begins program slot is starts) in
      subst (λ (xs : List ℕ). StandsBefore (starts_in program places) (length (starts_in program xs)) slot) (take_all (length places) places (omega arith))
      (stands_kept program places (length places) stands.index slot stands.before stands.there starts);
  callees_first = λ j place callee at leads.
      let stood = stood_at program places j (function_of program place) at in
      let stands = callee_before program places stood.index place callee whole.order stood.there (own_function program (function_of program place) stood.starts) leads in
      let kept = stands_kept program places stood.index stands.index callee stands.before stands.there (callee_starts program place callee (calls_insn program place callee found leads) leads) in
      subst (λ (n : ℕ). StandsBefore (starts_in program places) n callee) stood.count kept;
}

pub ordered : (program : List Slot) (places : List ℕ) → IsProgram program → AreContained program → IsWholePostorder program places → AreOrdered program
ordered program places is functions whole = record { functions = functions; order = starts_in program places; ordered = calling_order program places is functions.calls whole }
