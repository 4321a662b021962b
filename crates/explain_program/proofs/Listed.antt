-- A place more in a list of places.
use Rattle.std.proofs.Common.{◌≡◌, ◌+◌, ◌<◌, ◌≤◌, ℕ, List, Bool, true, false, length, set, replicate, slice_index, ap, sym, ◌∙◌, arith, inl, inr, length-set, get_or-set_same, get_or-set_other}
use Rattle.std.proofs.lemmas.Bool.{cases_eq}
use Rattle.std.proofs.lemmas.List.{length-replicate}
use Rattle.bpf_insn.specs.declared.program.TheConstants.{MAX_SLOTS}
use Rattle.call_shape.specs.Walk.{is_marked, marked}
use Rattle.call_shape.proofs.Marks.{marked_at_most, marked_more, marked_room, marks_there, marks_other, stays_set, none_marked, no_marks}
use Rattle.explain_program.specs.Listed.{IsAmong, AreListed, ListsToo}
use Rattle.explain_program.specs.declared.reaching.Places.{Places}

pub nothing_marked : (places : Places) → places.marked ≡ replicate MAX_SLOTS false → (place : ℕ) → is_marked places.marked place ≡ false
nothing_marked places marked_is place = ap (λ (marks : List Bool). is_marked marks place) marked_is ∙ none_marked MAX_SLOTS place

-- where nothing is marked
pub listed_none : (places : Places) → places.marked ≡ replicate MAX_SLOTS false → length places.order ≡ MAX_SLOTS → places.count ≡ 0 → AreListed places
listed_none places marked_is long empty = record {
  marked_whole = ap length marked_is ∙ length-replicate MAX_SLOTS false;
  order_whole = long;
  counted = empty ∙ sym (ap marked marked_is ∙ no_marks MAX_SLOTS);
  among = λ place is. absurd (let bad : false ≡ true = sym (nothing_marked places marked_is place) ∙ is in cc);
  placed = λ i lt. absurd (omega arith);
}

pub few_listed : (places : Places) → AreListed places → places.count ≤ MAX_SLOTS
few_listed places is = omega (arith, marked_at_most places.marked, is.counted, is.marked_whole)

-- there is room for a place that is not listed
pub room : (places : Places) (place : ℕ) → AreListed places → place < MAX_SLOTS → is_marked places.marked place ≡ false → places.count < MAX_SLOTS
room places place is lt fresh = omega (arith, marked_room places.marked place (omega (arith, is.marked_whole)) fresh, is.counted, is.marked_whole)

abbrev pub with_place : Places → ℕ → Places
with_place places place = record { marked = set places.marked place true; order = set places.order places.count place; count = places.count + 1 }

among_more : (order : List ℕ) (n place other : ℕ) → IsAmong order n other → IsAmong (set order n place) (n + 1) other
among_more order n place other is = record {
  index = is.index;
  before = omega (arith, is.before);
  there = get_or-set_other order n is.index place 0 (omega (arith, is.before)) ∙ is.there;
}

pub listed_more : (places : Places) (place : ℕ) → AreListed places → place < MAX_SLOTS → is_marked places.marked place ≡ false → AreListed (with_place places place)
listed_more places place is lt fresh =
    let inside : place < length places.marked = omega (arith, is.marked_whole) in
    let free : places.count < length places.order = omega (arith, room places place is lt fresh, is.order_whole) in
    record {
      marked_whole = length-set places.marked place true ∙ is.marked_whole;
      order_whole = length-set places.order places.count place ∙ is.order_whole;
      counted = omega (arith, marked_more places.marked place inside fresh, is.counted);
      among = λ other marked_there. elim (cases_eq other place) [
        | inl same ↦ record { index = places.count; before = omega arith; there = get_or-set_same places.order places.count place 0 free ∙ sym same }
        | inr differs ↦ among_more places.order places.count place other (is.among other (sym (marks_other places.marked place other differs) ∙ marked_there))
      ];
      placed = λ i before. elim (cases_eq i places.count) [
        | inl last ↦
            ap (is_marked (set places.marked place true)) (ap (slice_index (set places.order places.count place)) last ∙ get_or-set_same places.order places.count place 0 free)
            ∙ marks_there places.marked place inside
        | inr earlier ↦
            ap (is_marked (set places.marked place true)) (get_or-set_other places.order places.count i place 0 earlier)
            ∙ stays_set places.marked place inside (slice_index places.order i) (is.placed i (omega arith))
      ];
    }

pub lists_more : (places : Places) (place : ℕ) → AreListed places → place < MAX_SLOTS → is_marked places.marked place ≡ false → ListsToo (λ other. other ≡ place) places (with_place places place)
lists_more places place is lt fresh =
    let inside : place < length places.marked = omega (arith, is.marked_whole) in
    record {
      listed = listed_more places place is lt fresh;
      more = omega arith;
      stands = λ i before. get_or-set_other places.order places.count i place 0 (omega arith);
      stays = stays_set places.marked place inside;
      from = λ other marked_there. elim (cases_eq other place) [
        | inl same ↦ inr same
        | inr differs ↦ inl (sym (marks_other places.marked place other differs) ∙ marked_there)
      ];
      all = λ other same within. ap (is_marked (set places.marked place true)) same ∙ marks_there places.marked place inside;
    }
