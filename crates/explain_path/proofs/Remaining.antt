-- A longest path goes on to where a longest path begins. So from step to step one instruction less is left of it.
use Rattle.std.proofs.Common.{◌≡◌, ℕ, zero, suc, ◌+◌, ◌<◌, ◌≤◌, true, List, [], ◌∷◌, ◌++◌, length, Some, slice_index, refl, ap, sym, subst, arith, inl, inr, length-append}
use Rattle.std.specs.List.{sum_by}
use Rattle.std.proofs.lemmas.List.Sums.{sum_by-cons}
use Rattle.bpf_insn.specs.declared.insn.Insn.{Insn}
use Rattle.bpf_insn.specs.declared.insn.Insn.TheVariants.{Alu, InPlace, SignExtend, JumpIf, Jump, LoadImmediate, Load, Store, Call, Exit}
use Rattle.bpf_insn.specs.declared.insn.Callee.TheVariants.{Helper, Local}
use Rattle.bpf_insn.specs.declared.program.Slot.{Slot}
use Rattle.bpf_insn.specs.Program.{IsProgram, insn_at}
use Rattle.budget_path.specs.Length.{length_by}
use Rattle.budget_path.specs.Longest.{AreLongest, IsLongestFrom}
use Rattle.call_shape.specs.declared.onward.Onward.{Onward}
use Rattle.call_shape.specs.declared.onward.Onward.TheVariants.{Leaves, Continues, Branches, Enters}
use Rattle.call_shape.specs.Calls as shape
use Rattle.call_shape.specs.Onward.{onward}
use Rattle.call_shape.specs.OnTheWay.{AreBegun}
use Rattle.call_shape.specs.Shape.{AreContained, IsLawful}
use Rattle.call_shape.specs.StaticPath.{Standing, outermost, moved, depth, ReturnsTo, StaticPath}
use Rattle.call_shape.proofs.Paths.{LeadsOn, WaysFrom, GoesOut, leads_so, ways_on, way_from}
use Rattle.call_shape.proofs.Places.{begins_first, begins_there, there_begins}
use Rattle.call_shape.proofs.Ways.{IsLawfulWay, lawful_way}
use Rattle.explain_path.specs.Passes.{IsWhole, Passes, begins, goes_on, standing}
use Rattle.explain_path.specs.Remaining.{left, IsUnderWay, StepsOn, GoesTo}

-- ---- the longest path from a place

-- a path may go on by the longest one from a place, and is one longer
goes_so : (program : List Slot) (next entry : ℕ) (on : IsLongestFrom program next entry) → GoesOut program next (entry + 1) (depth program (outermost next) entry on.path)
goes_so program next entry on = record { after = entry; rest = (on.path, refl); long = refl }

one_more : (program : List Slot) (next entry longest deep : ℕ) → IsLongestFrom program next entry → GoesOut program next longest deep → ((n d : ℕ) → GoesOut program next n d → n ≤ longest) → longest ≡ entry + 1
one_more program next entry longest deep on out most =
    omega (arith, out.long, on.most out.after out.rest.0, most (entry + 1) _ (goes_so program next entry on))

-- a path by a way, than which none is longer, has the length that the entries of where control goes on give
longest_by : (program : List Slot) (lengths : List ℕ) (place longest deep : ℕ) (way : Onward) → AreLongest program lengths → IsLawfulWay program place way → WaysFrom program way longest deep → ((n d : ℕ) → WaysFrom program way n d → n ≤ longest) → longest ≡ length_by lengths way
longest_by program lengths place longest deep Leaves known lawful out most = out.0
longest_by program lengths place longest deep (Continues next) known lawful out most =
    one_more program next (slice_index lengths next) longest deep (known.each next lawful.there) out most
longest_by program lengths place longest deep (Branches next other) known lawful (inl out) most =
    let second = known.each other lawful.1.there in
    let same = one_more program next (slice_index lengths next) longest deep (known.each next lawful.0.there) out (λ n d way. most n d (inl way)) in
    omega (arith, same, most (slice_index lengths other + 1) _ (inr (goes_so program other (slice_index lengths other) second)))
longest_by program lengths place longest deep (Branches next other) known lawful (inr out) most =
    let first = known.each next lawful.0.there in
    let same = one_more program other (slice_index lengths other) longest deep (known.each other lawful.1.there) out (λ n d way. most n d (inr way)) in
    omega (arith, same, most (slice_index lengths next + 1) _ (inl (goes_so program next (slice_index lengths next) first)))
longest_by program lengths place longest deep (Enters callee next) known lawful out most =
    let inner = known.each callee lawful.0.there in
    let on = known.each next lawful.1.there in
    let whole = most (slice_index lengths callee + slice_index lengths next + 1) _ (record {
      inner = slice_index lengths callee;
      inner_depth = depth program (outermost callee) (slice_index lengths callee) inner.path;
      path = (inner.path, refl);
      after = slice_index lengths next;
      after_depth = depth program (outermost next) (slice_index lengths next) on.path;
      rest = (on.path, refl);
      long = refl;
      deep = refl;
    }) in
    omega (arith, whole, out.long, inner.most out.inner out.path.0, on.most out.after out.rest.0)

-- the entry of a place, by those of where control goes on
entry_by : (program : List Slot) (lengths : List ℕ) (place : ℕ) (insn : Insn) → IsProgram program → AreContained program → AreLongest program lengths → insn_at program place ≡ Some insn → slice_index lengths place ≡ length_by lengths (onward place insn)
entry_by program lengths place insn is functions known at =
    let here = known.each place (there_begins program place insn at) in
    let longest : ℕ = slice_index lengths place in
    let deep : ℕ = depth program (outermost place) longest here.path in
    longest_by program lengths place longest deep (onward place insn) known (lawful_way program place insn is functions at)
    (ways_on program place longest deep insn at (here.path, refl))
    (λ n d way. let path = way_from program place n d insn at way in here.most n path.0)

-- ---- a step

-- the same standing by its parts
stands_there : (at to : Standing) (slot : ℕ) → to.slot ≡ slot → to.returns ≡ at.returns → to ≡ moved at slot
stands_there at to slot here open_calls = λ i. record { slot = here i; returns = open_calls i }

-- an instruction leads to where a longest path goes on
leads_by : (lengths : List ℕ) (at to : Standing) (way : Onward) → GoesTo lengths at.returns way to → LeadsOn at way to
leads_by lengths at to Leaves goes = subst (λ (returns : List ℕ). ReturnsTo returns to) (sym goes) refl
leads_by lengths at to (Continues next) goes = goes
leads_by lengths at to (Branches next other) (same, inl is) = inl (stands_there at to next is.0 same)
leads_by lengths at to (Branches next other) (same, inr is) = inr (stands_there at to other is.0 same)
leads_by lengths at to (Enters callee next) goes = goes

-- instructions begin there, and where calls go on that are open there
begun_by : (program : List Slot) (lengths : List ℕ) (at to : Standing) (way : Onward) → IsLawfulWay program at.slot way → AreBegun program at.returns → GoesTo lengths at.returns way to → AreBegun program (to.slot ∷ to.returns)
begun_by program lengths at to Leaves lawful begun goes = subst (AreBegun program) goes begun
begun_by program lengths at to (Continues next) lawful begun goes = subst (λ (s : Standing). AreBegun program (s.slot ∷ s.returns)) (sym goes) (lawful.there, begun)
begun_by program lengths at to (Branches next other) lawful begun (same, inl is) =
    subst (λ (s : Standing). AreBegun program (s.slot ∷ s.returns)) (sym (stands_there at to next is.0 same)) (lawful.0.there, begun)
begun_by program lengths at to (Branches next other) lawful begun (same, inr is) =
    subst (λ (s : Standing). AreBegun program (s.slot ∷ s.returns)) (sym (stands_there at to other is.0 same)) (lawful.1.there, begun)
begun_by program lengths at to (Enters callee next) lawful begun goes =
    subst (λ (s : Standing). AreBegun program (s.slot ∷ s.returns)) (sym goes) (lawful.0.there, (lawful.1.there, begun))

-- and one instruction less is left
left_by : (lengths : List ℕ) (at to : Standing) (way : Onward) → slice_index lengths at.slot ≡ length_by lengths way → GoesTo lengths at.returns way to → left lengths at ≡ left lengths to + 1
left_by lengths at to Leaves whole goes =
    omega (arith, whole, ap (sum_by (slice_index lengths)) goes, sum_by-cons (slice_index lengths) to.slot to.returns)
left_by lengths at to (Continues next) whole goes = omega (arith, whole, ap (left lengths) goes)
left_by lengths at to (Branches next other) whole (same, inl is) = omega (arith, whole, is.1, ap (left lengths) (stands_there at to next is.0 same))
left_by lengths at to (Branches next other) whole (same, inr is) = omega (arith, whole, is.1, ap (left lengths) (stands_there at to other is.0 same))
left_by lengths at to (Enters callee next) whole goes =
    omega (arith, whole, ap (left lengths) goes, sum_by-cons (slice_index lengths) next at.returns)

pub goes_on_by : (program : List Slot) (lengths : List ℕ) (at to : Standing) (insn : Insn) → IsUnderWay program lengths at → insn_at program at.slot ≡ Some insn → GoesTo lengths at.returns (onward at.slot insn) to → StepsOn program lengths at to
goes_on_by program lengths at to insn is there goes =
    let functions = is.lawful.frames.calls.functions in
    let whole = entry_by program lengths at.slot insn is.program_is functions is.longest there in
    let less = left_by lengths at to (onward at.slot insn) whole goes in
    record {
      leads = (insn, there, leads_so at insn to (leads_by lengths at to (onward at.slot insn) goes));
      under_way = record {
        program_is = is.program_is;
        lawful = is.lawful;
        longest = is.longest;
        begun = begun_by program lengths at to (onward at.slot insn) (lawful_way program at.slot insn is.program_is functions there) is.begun.1 goes;
      };
      one_less = less;
    }

-- where more than an exit is left a call is open
some_open : (lengths returns : List ℕ) → 0 < sum_by (slice_index lengths) returns → 0 < length returns
some_open lengths [] some = some
some_open lengths (return ∷ returns) some = omega arith

pub is_open : (program : List Slot) (lengths : List ℕ) (at : Standing) (insn : Insn) → IsUnderWay program lengths at → insn_at program at.slot ≡ Some insn → 1 < left lengths at → onward at.slot insn ≡ Leaves → 0 < length at.returns
is_open program lengths at insn is there further leaves =
    let whole = entry_by program lengths at.slot insn is.program_is is.lawful.frames.calls.functions is.longest there in
    some_open lengths at.returns (omega (arith, further, whole, ap (length_by lengths) leaves))

-- ---- the whole path

-- the slots so far are those of a path that stands there, and what is left makes it a longest one
pub record IsWalked (program : List Slot) (lengths slots : List ℕ) (at : Standing) (count : ℕ) : Type 0 where
  pub passes : Passes program slots at
  pub under_way : IsUnderWay program lengths at
  pub counted : length slots ≡ count
  pub remaining : count + left lengths at ≡ slice_index lengths 0 + 1

pub walked_first : (program : List Slot) (lengths slots returns : List ℕ) → IsProgram program → IsLawful program → AreLongest program lengths → slots ≡ 0 ∷ [] → returns ≡ [] → IsWalked program lengths slots (standing 0 returns) 1
walked_first program lengths slots returns is lawful known first none =
    let least : left lengths (standing 0 returns) ≡ slice_index lengths 0 = omega (arith, ap (sum_by (slice_index lengths)) none) in
    record {
      passes = subst (λ (s : List ℕ). Passes program s (standing 0 returns)) (sym first) (subst (λ (r : List ℕ). Passes program (0 ∷ []) (standing 0 r)) (sym none) (begins));
      under_way = record {
        program_is = is;
        lawful = lawful;
        longest = known;
        begun = (begins_first program is, subst (AreBegun program) (sym none) tt);
      };
      counted = ap length first;
      remaining = omega (arith, least);
    }

pub walked_more : (program : List Slot) (lengths slots further : List ℕ) (at to : Standing) (count : ℕ) → StepsOn program lengths at to → further ≡ slots ++ to.slot ∷ [] → IsWalked program lengths slots at count → IsWalked program lengths further to (count + 1)
walked_more program lengths slots further at to count goes more walked = record {
  passes = subst (λ (s : List ℕ). Passes program s to) (sym more) (goes_on slots at to walked.passes goes.leads);
  under_way = goes.under_way;
  counted = omega (arith, ap length more, length-append slots (to.slot ∷ []), walked.counted);
  remaining = omega (arith, walked.remaining, goes.one_less);
}

some_path : (program : List Slot) (at : Standing) (n : ℕ) → StaticPath program at n → 0 < n
some_path program at zero path = absurd path
some_path program at (suc n) path = omega arith

-- ---- its end

-- something is left where an instruction begins
some_left : (program : List Slot) (lengths : List ℕ) (place : ℕ) → AreLongest program lengths → shape.begins program place ≡ true → 0 < slice_index lengths place
some_left program lengths place known begun =
    let on = known.each place begun in
    some_path program (outermost place) (slice_index lengths place) on.path

none_open : (program : List Slot) (lengths returns : List ℕ) → AreLongest program lengths → AreBegun program returns → sum_by (slice_index lengths) returns ≡ 0 → returns ≡ []
none_open program lengths [] known begun none = refl
none_open program lengths (return ∷ returns) known begun none =
    absurd (omega (arith, none, some_left program lengths return known begun.0, sum_by-cons (slice_index lengths) return returns))

-- where control goes on from all but an exit, and something is left there
goes_further : (program : List Slot) (lengths : List ℕ) (place : ℕ) (way : Onward) → AreLongest program lengths → IsLawfulWay program place way → length_by lengths way ≡ 1 → way ≡ Leaves
goes_further program lengths place Leaves known lawful last = refl
goes_further program lengths place (Continues next) known lawful last = absurd (omega (arith, last, some_left program lengths next known lawful.there))
goes_further program lengths place (Branches next other) known lawful last = absurd (omega (arith, last, some_left program lengths next known lawful.0.there))
goes_further program lengths place (Enters callee next) known lawful last = absurd (omega (arith, last, some_left program lengths next known lawful.1.there))

is_exit : (place : ℕ) (insn : Insn) → onward place insn ≡ Leaves → insn ≡ Exit
is_exit place Exit leaves = refl
is_exit place (Jump distance) leaves = absurd cc
is_exit place (JumpIf width condition dst src offset) leaves = absurd cc
is_exit place (Call (Local distance)) leaves = absurd cc
is_exit place (Call (Helper number)) leaves = absurd cc
is_exit place (LoadImmediate dst value) leaves = absurd cc
is_exit place (Alu width op dst src) leaves = absurd cc
is_exit place (InPlace op dst) leaves = absurd cc
is_exit place (SignExtend extension dst src) leaves = absurd cc
is_exit place (Load form dst src offset) leaves = absurd cc
is_exit place (Store size dst src offset) leaves = absurd cc

-- a path is whole where one instruction is left
walked_out : (program : List Slot) (lengths slots : List ℕ) (at : Standing) (count : ℕ) → left lengths at ≡ 1 → IsWalked program lengths slots at count → IsWhole program slots
walked_out program lengths slots at count last walked =
    let is = walked.under_way in
    let functions = is.lawful.frames.calls.functions in
    let there = begins_there program at.slot is.begun.0 in
    let here = some_left program lengths at.slot is.longest is.begun.0 in
    let whole = entry_by program lengths at.slot there.0 is.program_is functions is.longest there.1 in
    let way = lawful_way program at.slot there.0 is.program_is functions there.1 in
    record {
      at = at;
      passes = walked.passes;
      insn = there.0;
      there = there.1;
      ends = (
        is_exit at.slot there.0 (goes_further program lengths at.slot (onward at.slot there.0) is.longest way (omega (arith, whole, last, here))),
        none_open program lengths at.returns is.longest is.begun.1 (omega (arith, last, here)),
      );
    }

pub walked_all : (program : List Slot) (lengths slots : List ℕ) (at : Standing) (count : ℕ) → slice_index lengths 0 ≤ count → (1 ≤ slice_index lengths 0 → count ≤ slice_index lengths 0) → IsWalked program lengths slots at count
    → IsLongestFrom program 0 (length slots) × IsWhole program slots
walked_all program lengths slots at count most few walked =
    let is = walked.under_way in
    let budget = is.longest.each 0 (begins_first program is.program_is) in
    let some = some_path program (outermost 0) (slice_index lengths 0) budget.path in
    let same : slice_index lengths 0 ≡ length slots = omega (arith, most, few some, walked.counted) in
    (subst (IsLongestFrom program 0) same budget, walked_out program lengths slots at count (omega (arith, most, few some, walked.remaining)) walked)
