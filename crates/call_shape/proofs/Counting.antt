-- Instructions counted place after place in a postorder, with local calls written out as deep as they go.
use Rattle.std.proofs.Common.{◌≡◌, ℕ, suc, ◌+◌, ◌<◌, ◌≤◌, true, false, cond, leb, List, length, Option, Some, None, set, replicate, slice_get, slice_index, refl, ap, sym, ◌∙◌, arith, inl, inr, length-set, get_or-set_same, get_or-set_other}
use Rattle.std.specs.Option.{option_map_or}
use Rattle.std.proofs.lemmas.Bool.{cases_eq, cases_lt, cases_Bool, cond-true, cond-false, or_parts, leb-false}
use Rattle.std.proofs.lemmas.List.{get_or-replicate, get_or_past, length-replicate}
use Rattle.bpf_insn.specs.declared.insn.Insn.{Insn}
use Rattle.bpf_insn.specs.declared.program.Slot.{Slot}
use Rattle.bpf_insn.specs.declared.program.TheConstants.{MAX_SLOTS}
use Rattle.bpf_insn.specs.Program.{IsProgram, insn_at}
use Rattle.call_shape.specs.Calls.{callee_in, is_start}
use Rattle.call_shape.specs.Counts.{capped, count_on, IsCapped}
use Rattle.call_shape.specs.Postorder.{IsWholePostorder}
use Rattle.call_shape.specs.Shape.{AreContained, behind, is_function_end}
use Rattle.call_shape.specs.WrittenOut.{written_out, IsWrittenOut}
use Rattle.call_shape.specs.declared.lawful_shape.TheConstants.{MAX_WRITTEN_OUT}
use Rattle.call_shape.proofs.Places.{begins_inside, begins_behind, there_begins}
use Rattle.call_shape.proofs.Contained.{calls_insn, callee_there}
use Rattle.call_shape.proofs.SlotFunctions.{callee_starts, function_behind}
use Rattle.call_shape.proofs.Filled.{AreFilled, filled_none, filled_more, filled_later, filled_callee}
use Rattle.call_shape.proofs.Tails.{tail, tail_of_start, tail_is, rest_behind}

-- from some depth on there are so many from a place to the end of its function
pub record IsTail (program : List Slot) (place count : ℕ) : Type 0 where
  pub depth : ℕ
  pub settled : (more : ℕ) → tail (depth + more) program place ≡ count

-- from some depth on a function of the depth gives that number
record Settles (f : ℕ → ℕ) (count : ℕ) : Type 0 where
  depth : ℕ
  settled : (more : ℕ) → f (depth + more) ≡ count

settles_sum : (f g : ℕ → ℕ) (m n : ℕ) → Settles f m → Settles g n → Settles (λ d. f d + g d + 1) (m + n + 1)
settles_sum f g m n first second = record {
  depth = first.depth + second.depth;
  settled = λ more.
      let one = ap f (let e : first.depth + second.depth + more ≡ first.depth + (second.depth + more) = omega arith in e) ∙ first.settled (second.depth + more) in
      let other = ap g (let e : first.depth + second.depth + more ≡ second.depth + (first.depth + more) = omega arith in e) ∙ second.settled (first.depth + more) in
      omega (arith, one, other);
}

pub written_from_tail : (program : List Slot) (start count : ℕ) → is_start program start ≡ true → IsTail program start count → IsWrittenOut program start count
written_from_tail program start count starts is = record {
  depth = is.depth + 1;
  settled = λ more.
      ap (λ (d : ℕ). written_out d program start) (let e : is.depth + 1 + more ≡ suc (is.depth + more) = omega arith in e)
      ∙ sym (tail_of_start (is.depth + more) program start starts) ∙ is.settled more;
}

-- an entry is the count from its place, or just too many
pub record IsCount (program : List Slot) (place entry : ℕ) : Type 0 where
  pub whole : ℕ
  pub from : IsTail program place whole
  pub same : entry ≡ capped whole

-- what is counted and what it is capped to
record Counts (f : ℕ → ℕ) (entry : ℕ) : Type 0 where
  whole : ℕ
  settles : Settles f whole
  same : entry ≡ capped whole

-- what a place calls
calls_count : (program : List Slot) (callee : Option ℕ) (counts : List ℕ) → ((start : ℕ) → callee ≡ Some start → is_start program start ≡ true × IsCount program start (slice_index counts start)) → Counts (λ d. option_map_or (written_out d program) callee 0) (option_map_or (slice_index counts) callee 0)
calls_count program None counts known = record { whole = 0; settles = record { depth = 0; settled = λ more. refl }; same = refl }
calls_count program (Some start) counts known =
    let is = known start refl in
    let written = written_from_tail program start is.1.whole is.0 is.1.from in
    record { whole = is.1.whole; settles = record { depth = written.depth; settled = written.settled }; same = is.1.same }

rest_count : (program : List Slot) (next entry : ℕ) → (is_function_end program next ≡ false → IsCount program next entry) → Counts (λ d. rest_behind d program next) (cond (is_function_end program next) 0 entry)
rest_count program next entry known = elim (cases_Bool (is_function_end program next)) [
  | inl ends ↦ record {
    whole = 0;
    settles = record { depth = 0; settled = λ more. cond-true (is_function_end program next) 0 (tail (0 + more) program next) ends };
    same = cond-true (is_function_end program next) 0 entry ends;
  }
  | inr on ↦
      let is = known on in
      record {
        whole = is.whole;
        settles = record { depth = is.from.depth; settled = λ more. cond-false (is_function_end program next) 0 (tail (is.from.depth + more) program next) on ∙ is.from.settled more };
        same = cond-false (is_function_end program next) 0 entry on ∙ is.same;
      }
]

-- a place's count is that of what it calls and that from after it, and one more
count_by : (program : List Slot) (counts : List ℕ) (place : ℕ) (insn : Insn) → IsProgram program → insn_at program place ≡ Some insn → ((start : ℕ) → callee_in place insn ≡ Some start → is_start program start ≡ true × IsCount program start (slice_index counts start)) → (is_function_end program (behind place insn) ≡ false → IsCount program (behind place insn) (slice_index counts (behind place insn))) → IsCount program place (count_on program counts place insn)
count_by program counts place insn is at called rest =
    let inner = calls_count program (callee_in place insn) counts called in
    let left = rest_count program (behind place insn) (slice_index counts (behind place insn)) rest in
    let both = settles_sum (λ d. option_map_or (written_out d program) (callee_in place insn) 0) (λ d. rest_behind d program (behind place insn)) inner.whole left.whole inner.settles left.settles in
    record {
      whole = inner.whole + left.whole + 1;
      from = record { depth = both.depth; settled = λ more. tail_is (both.depth + more) program place insn is at ∙ both.settled more };
      same = omega (arith, inner.same, left.same);
    }

-- the counts of the first n places
pub record AreCounts (program : List Slot) (places counts : List ℕ) (n : ℕ) : Type 0 where
  pub whole : length counts ≡ MAX_SLOTS
  pub small : (k : ℕ) → slice_index counts k ≤ MAX_WRITTEN_OUT + 1
  pub filled : AreFilled places (IsCount program) counts n

pub counts_first : (program : List Slot) (places : List ℕ) → AreCounts program places (replicate MAX_SLOTS 0) 0
counts_first program places = record {
  whole = length-replicate {A = ℕ} MAX_SLOTS 0;
  small = λ k. elim (cases_lt k MAX_SLOTS) [
    | inl lt ↦ omega (arith, get_or-replicate {A = ℕ} MAX_SLOTS k 0 0 lt)
    | inr past ↦ omega (arith, get_or_past {X = ℕ} (replicate MAX_SLOTS 0) k 0 (omega (arith, past, length-replicate {A = ℕ} MAX_SLOTS 0)))
  ];
  filled = filled_none places (IsCount program) (replicate MAX_SLOTS 0);
}

pub counts_more : (program : List Slot) (places counts : List ℕ) (n place : ℕ) (insn : Insn) → IsProgram program → AreContained program → IsWholePostorder program places → n < length places → slice_get places n ≡ Some place → insn_at program place ≡ Some insn → AreCounts program places counts n → AreCounts program places (set counts place (count_on program counts place insn)) (n + 1)
counts_more program places counts n place insn is functions order lt at there done =
    let next : ℕ = behind place insn in
    let within : place < length counts = omega (arith, begins_inside program place (there_begins program place insn there), is.in_range.1, done.whole) in
    let here = count_by program counts place insn is there
    (λ start leads.
    let called = callee_there program place start insn there leads in
    let begun = calls_insn program place start functions.calls called in
    (callee_starts program place start begun called, filled_callee program places (IsCount program) counts n place order.order lt at done.filled start (record { leads = called; there = begun })))
    (λ on.
    let further = or_parts (leb (length program) next) (is_start program next) on in
    let inside = leb-false (length program) next further.0 in
    filled_later program places (IsCount program) counts n place order.order lt at done.filled next (omega arith)
    (begins_behind program place insn is there inside) (function_behind program place insn is there further.1)) in
    record {
      whole = length-set counts place _ ∙ done.whole;
      small = λ k. elim (cases_eq k place) [
        | inl same ↦ omega (arith, ap (slice_index (set counts place (count_on program counts place insn))) same, get_or-set_same counts place (count_on program counts place insn) 0 within)
        | inr other ↦ omega (arith, done.small k, get_or-set_other counts place k (count_on program counts place insn) 0 other)
      ];
      filled = filled_more places (IsCount program) counts n place _ at within here done.filled;
    }

pub capped_first : (program : List Slot) (entry : ℕ) → IsCount program 0 entry → IsCapped program 0 entry
capped_first program entry is = record { whole = is.whole; written_out = written_from_tail program 0 is.whole refl is.from; same = is.same }
