-- What was known at the places that were visited, beside what is known at the others: the table of all, where the code keeps the
-- others alone.
use Rattle.std.proofs.Common.{◌≡◌, ℕ, ◌+◌, ◌-◌, ◌<◌, ◌≤◌, List, ◌++◌, length, take, drop, Option, Some, None, refl, ap, sym, ◌∙◌, arith, ◌⊎◌, inl, inr, get_or-set_other, get_or-set_same}
use Rattle.std.specs.Prelude.{slice_set}
use Rattle.std.proofs.lemmas.Bool.{cases_eq, cases_lt}
use Rattle.std.proofs.lemmas.List.{get_or-append_right, get_or-drop, get_or-take, get_or_append_left, length-append, length-drop, length-set, length-take-le}
use Rattle.std.specs.List.{Contains}
use Rattle.bpf_insn.specs.declared.insn.Insn.{Insn}
use Rattle.bpf_insn.specs.declared.program.Slot.{Slot}
use Rattle.bpf_insn.specs.Program.{insn_at}
use Rattle.bpf_semantics.specs.MachineState.{MachineState}
use Rattle.call_shape.specs.StaticPath.{Standing, outermost}
use Rattle.call_shape.proofs.Places.{begins_there}
use Rattle.check_description.specs.declared.description.Description.{Description}
use Rattle.check_description.specs.declared.saved.SavedRegisters.{SavedRegisters}
use Rattle.helpers.specs.declared.limits.HelperLimits.{HelperLimits}
use Rattle.verifier.specs.Checks.{AreOnce, IsOnPath}
use Rattle.verifier.specs.Function.{ArePassed, IsEnd, IsOwn}
use Rattle.verifier.specs.Table.{Table, described, Grows, IsFirstTable, IsKnown}
use Rattle.verifier.proofs.Checks.{IsOfPlace}
use Rattle.verifier.proofs.Visited.{HasVisited, entry_known, known_as, none_by, opening, skipped, visited_more}

-- The table without what was known up to a place.
pub record IsTaken (all : Table) (at : ℕ) (before : Table) : Type 0 where
  pub whole : length before ≡ length all
  pub gone : (k : ℕ) → k ≤ at → described before k ≡ None
  pub ahead : (k : ℕ) → at < k → described before k ≡ described all k
  pub known : (k : ℕ) (d : Description) → described before k ≡ Some d → described all k ≡ Some d

-- what was known up to a place, and what is known after it
pub carried : ℕ → Table → Table → Table
carried at all after = take (at + 1) all ++ drop (at + 1) after

carried_up_to : (at : ℕ) (all after : Table) → at < length all → (k : ℕ) → k ≤ at → described (carried at all after) k ≡ described all k
unfolding carried
carried_up_to at all after inside k le =
    get_or_append_left (take (at + 1) all) (drop (at + 1) after) None k (omega (arith, le, length-take-le (at + 1) all (omega (arith, inside))))
    ∙ get_or-take (at + 1) all k None (omega (arith, le))

carried_behind : (at : ℕ) (all after : Table) → at < length all → (k : ℕ) → at < k → described (carried at all after) k ≡ described after k
unfolding carried
carried_behind at all after inside k lt =
    let slot : at + 1 + (k - (at + 1)) ≡ k = omega (arith, lt) in
    get_or-append_right (take (at + 1) all) (drop (at + 1) after) (at + 1) k None (length-take-le (at + 1) all (omega (arith, inside))) (omega (arith, lt))
    ∙ (get_or-drop (at + 1) after (k - (at + 1)) None ∙ ap (described after) slot)

-- What is known once more is led on from a place.
pub record Carries (all after : Table) (at : ℕ) : Type 0 where
  pub whole : length (carried at all after) ≡ length all
  pub grows : Grows all (carried at all after)
  pub kept : (k : ℕ) → k ≤ at → described (carried at all after) k ≡ described all k
  pub behind : (k : ℕ) → at < k → described (carried at all after) k ≡ described after k
  pub of : (k : ℕ) (d : Description) → described (carried at all after) k ≡ Some d → (described all k ≡ Some d) ⊎ (described after k ≡ Some d)
  pub knows : (callers : List SavedRegisters) (k : ℕ) (m : MachineState) → IsKnown callers after k m → IsKnown callers (carried at all after) k m

pub carry : (all before after : Table) (at : ℕ) → at < length all → IsTaken all at before → length after ≡ length before → Grows before after → ((k : ℕ) → k ≤ at → described after k ≡ described before k) → Carries all after at
unfolding carried
carry all before after at inside taken whole grows same =
    let kept = carried_up_to at all after inside in
    let behind = carried_behind at all after inside in
    record {
      whole = omega (arith, length-append (take (at + 1) all) (drop (at + 1) after), length-take-le (at + 1) all (omega (arith, inside)), length-drop (at + 1) after, whole, taken.whole, inside);
      grows = λ callers k m known. elim (cases_lt at k) [
        | inl lt ↦ known_as callers after (carried at all after) k m (behind k lt) (grows callers k m (known_as callers all before k m (taken.ahead k lt) known))
        | inr le ↦ known_as callers all (carried at all after) k m (kept k le) known
      ];
      kept = kept;
      behind = behind;
      of = λ k d is. elim (cases_lt at k) [
        | inl lt ↦ inr (sym (behind k lt) ∙ is)
        | inr le ↦ inl (sym (kept k le) ∙ is)
      ];
      knows = λ callers k m known. elim (cases_lt at k) [
        | inl lt ↦ known_as callers after (carried at all after) k m (behind k lt) known
        | inr le ↦ absurd (let bad : None ≡ Some known.description = sym (same k le ∙ taken.gone k le) ∙ known.there in cc)
      ];
    }

-- the same where nothing is led on
pub carry_same : (all before : Table) (at : ℕ) → at < length all → IsTaken all at before → Carries all before at
carry_same all before at inside taken = carry all before before at inside taken refl (λ callers k m known. known) (λ k le. refl)

-- what was known at a place that is passed is taken out
pub taken_out : (limits : HelperLimits) (program : List Slot) (callers : List SavedRegisters) (entry : Description) (start : ℕ) (table : Table) (left : Option Description) (at first now : ℕ) → at < length table → (are : ArePassed limits program callers entry start table left at first now) → IsTaken are.all at (slice_set table at None)
taken_out limits program callers entry start table left at first now inside are = record {
  whole = length-set table at None ∙ sym are.whole;
  gone = λ k le. elim (cases_eq k at) [
    | inl same ↦ ap (described (slice_set table at None)) same ∙ get_or-set_same table at None None inside
    | inr other ↦ get_or-set_other table at k None None other ∙ are.gone k (omega (arith, le, other))
  ];
  ahead = λ k lt. get_or-set_other table at k None None (λ same. omega (arith, same, lt)) ∙ sym (are.ahead k (omega (arith, lt)));
  known = λ k d is. elim (cases_lt at k) [
    | inl lt ↦ are.ahead k (omega (arith, lt)) ∙ (sym (get_or-set_other table at k None None (λ same. omega (arith, same, lt))) ∙ is)
    | inr le ↦ absurd (let none : described (slice_set table at None) k ≡ None = elim (cases_eq k at) [
      | inl same ↦ ap (described (slice_set table at None)) same ∙ get_or-set_same table at None None inside
      | inr other ↦ get_or-set_other table at k None None other ∙ are.gone k (omega (arith, le, other))
    ] in let bad : None ≡ Some d = sym none ∙ is in cc)
  ];
}

-- one place more is passed
pub passed_more : (limits : HelperLimits) (program : List Slot) (callers : List SavedRegisters) (entry : Description) (start : ℕ) (table : Table) (left : Option Description) (at first now next : ℕ) (insn : Insn) (are : ArePassed limits program callers entry start table left at first now) (before after : Table) (wider : Option Description) → IsTaken are.all at before → ((k : ℕ) → k ≤ at → described after k ≡ described before k) → Carries are.all after at → length after ≡ length before → (more : List Standing) → insn_at program (start + at) ≡ Some insn → HasVisited limits program callers start are.all left at insn (carried at are.all after) wider (are.visited.checks ++ more) → now + length more ≡ next → AreOnce more → Contains more (outermost (start + at)) → ((check : Standing) → Contains more check → IsOfPlace (start + at) check) → ((check : Standing) → Contains more check → IsOnPath program (outermost start) check) → ArePassed limits program callers entry start after wider (at + 1) first next
passed_more limits program callers entry start table left at first now next insn are before after wider taken same carries whole more here did made once own_check there on_paths = record {
  all = carried at are.all after;
  whole = carries.whole ∙ (sym taken.whole ∙ sym whole);
  gone = λ k lt. same k (omega (arith, lt)) ∙ taken.gone k (omega (arith, lt));
  ahead = λ k le. carries.behind k (omega (arith, le));
  entered = λ m holds. carries.grows callers 0 m (are.entered m holds);
  visited = visited_more limits program callers start are.all left at insn (carried at are.all after) wider first now next are.visited more here did made once own_check there on_paths;
}

-- nothing leads to a place, so it is passed
pub passed_over : (limits : HelperLimits) (program : List Slot) (callers : List SavedRegisters) (entry : Description) (start : ℕ) (table : Table) (left : Option Description) (at first now : ℕ) → described table at ≡ None → ArePassed limits program callers entry start table left at first now → ArePassed limits program callers entry start table left (at + 1) first now
passed_over limits program callers entry start table left at first now none are = record {
  all = are.all;
  whole = are.whole;
  gone = λ k lt. elim (cases_eq k at) [
    | inl same ↦ ap (described table) same ∙ none
    | inr other ↦ are.gone k (omega (arith, lt, other))
  ];
  ahead = λ k le. are.ahead k (omega (arith, le));
  entered = are.entered;
  visited = skipped limits program callers start are.all left at first now (inl (are.ahead at (omega arith) ∙ none)) are.visited;
}

-- nothing leads to the second slot of an instruction
pub none_between : (limits : HelperLimits) (program : List Slot) (callers : List SavedRegisters) (entry : Description) (start : ℕ) (table : Table) (left : Option Description) (at first now : ℕ) → insn_at program (start + at) ≡ None → ArePassed limits program callers entry start table left at first now → described table at ≡ None
none_between limits program callers entry start table left at first now none are = none_by (described table at) (λ d there.
    let begun = begins_there program (start + at) (are.visited.done.own at d (are.ahead at (omega arith) ∙ there)).begun in
    let bad : None ≡ Some begun.0 = sym none ∙ begun.1 in absurd cc)

-- at first no place is passed
pub passed_none : (limits : HelperLimits) (program : List Slot) (callers : List SavedRegisters) (start len : ℕ) (entry : Description) (table : Table) → IsEnd program start (start + len) → IsOwn program callers start start entry → IsFirstTable len entry table → (visits : ℕ) → ArePassed limits program callers entry start table None 0 visits visits
passed_none limits program callers start len entry table end own first visits = record {
  all = table;
  whole = refl;
  gone = λ k lt. absurd (omega (arith, lt));
  ahead = λ k le. refl;
  entered = entry_known callers len entry table first;
  visited = opening limits program callers start len entry table end own first visits;
}
