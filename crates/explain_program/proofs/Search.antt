-- A search for all places that control may come to from one: those that are listed are such places, and of the first so many all
-- next places are listed.
use Rattle.std.proofs.Common.{◌≡◌, ◌+◌, ◌<◌, ◌≤◌, ℕ, List, true, false, slice_index, refl, sym, subst, ◌∙◌, arith, inl, inr}
use Rattle.std.proofs.lemmas.Bool.{cases_eq}
use Rattle.bpf_insn.specs.declared.program.Slot.{Slot}
use Rattle.bpf_insn.specs.declared.program.TheConstants.{MAX_SLOTS}
use Rattle.bpf_insn.specs.Program.{IsProgram}
use Rattle.call_shape.specs.Walk.{is_marked}
use Rattle.call_shape.proofs.Places.{begins_inside, there_begins}
use Rattle.explain_program.specs.Listed.{AreListed, ListsToo}
use Rattle.explain_program.specs.Reaching.{LeadsFrom, Reaches}
use Rattle.explain_program.specs.Reaching.Reaches.{stands, goes_on}
use Rattle.explain_program.specs.declared.reaching.Places.{Places}

pub record IsSearch (program : List Slot) (from : ℕ) (places : Places) (followed : ℕ) : Type 0 where
  pub listed : AreListed places
  pub few : followed ≤ places.count
  pub begun : from < MAX_SLOTS → is_marked places.marked from ≡ true
  pub reached : (place : ℕ) → is_marked places.marked place ≡ true → Reaches program from place
  pub closed : (i to : ℕ) → i < followed → LeadsFrom program (slice_index places.order i) to → to < MAX_SLOTS → is_marked places.marked to ≡ true

-- where nothing is followed yet
pub search_first : (program : List Slot) (from : ℕ) (none begun : Places) → ((place : ℕ) → is_marked none.marked place ≡ false) → ListsToo (λ place. place ≡ from) none begun → IsSearch program from begun 0
search_first program from none begun nothing lists = record {
  listed = lists.listed;
  few = omega arith;
  begun = λ lt. lists.all from refl lt;
  reached = λ place there. elim (lists.from place there) [
    | inl earlier ↦ absurd (let bad : false ≡ true = sym (nothing place) ∙ earlier in cc)
    | inr same ↦ subst (Reaches program from) (sym same) stands
  ];
  closed = λ i to lt leads within. absurd (omega arith);
}

-- where one more is
pub search_more : (program : List Slot) (from : ℕ) (before after : Places) (followed : ℕ) → IsSearch program from before followed → followed < before.count → ListsToo (LeadsFrom program (slice_index before.order followed)) before after → IsSearch program from after (followed + 1)
search_more program from before after followed is lt lists = record {
  listed = lists.listed;
  few = omega (arith, lists.more);
  begun = λ within. lists.stays from (is.begun within);
  reached = λ place there. elim (lists.from place there) [
    | inl earlier ↦ is.reached place earlier
    | inr leads ↦ goes_on (slice_index before.order followed) place (is.reached (slice_index before.order followed) (is.listed.placed followed lt)) leads
  ];
  closed = λ i to before_next leads within.
      let stood = lists.stands i (omega (arith, is.few)) in
      let there : LeadsFrom program (slice_index before.order i) to = subst (λ (at : ℕ). LeadsFrom program at to) stood leads in
      elim (cases_eq i followed) [
        | inl last ↦ lists.all to (subst (λ (at : ℕ). LeadsFrom program (slice_index before.order at) to) last there) within
        | inr earlier ↦ lists.stays to (is.closed i to (omega arith) there within)
      ];
}

-- where all are
pub all_reached : (program : List Slot) (from : ℕ) (places : Places) (followed : ℕ) → IsProgram program → IsSearch program from places followed → places.count ≤ followed → (to : ℕ) → Reaches program from to → to < MAX_SLOTS → is_marked places.marked to ≡ true
all_reached program from places followed lawful is whole _ stands within = is.begun within
all_reached program from places followed lawful is whole to (goes_on at _ comes leads) within =
    let inside : at < MAX_SLOTS = omega (arith, begins_inside program at (there_begins program at leads.0 leads.1), lawful.in_range.1) in
    let there = is.listed.among at (all_reached program from places followed lawful is whole at comes inside) in
    is.closed there.index to (omega (arith, there.before)) (subst (λ (place : ℕ). LeadsFrom program place to) (sym there.there) leads) within
