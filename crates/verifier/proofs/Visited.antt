-- The places of a function before one are done with, and a visit is done with that one too.
use Rattle.std.proofs.Common.{◌≡◌, ℕ, zero, suc, ◌+◌, ◌<◌, ◌≤◌, List, [], ◌++◌, length, take, Option, Some, None, refl, ap, sym, subst, ◌∙◌, arith, ◌⊎◌, inl, inr}
use Rattle.std.proofs.Math.Seq.{take-append_seam}
use Rattle.std.specs.List.{Contains}
use Rattle.std.proofs.lemmas.Bool.{cases_eq}
use Rattle.std.proofs.lemmas.List.{length-append}
use Rattle.std.proofs.lemmas.List.Elements.{Contains-append_cases, Contains-append_left, Contains-append_right}
use Rattle.bpf_insn.specs.declared.insn.Insn.{Insn}
use Rattle.bpf_insn.specs.declared.program.Slot.{Slot}
use Rattle.bpf_insn.specs.Program.{insn_at}
use Rattle.bpf_semantics.specs.MachineState.{MachineState, OpenCall}
use Rattle.call_shape.specs.StaticPath.{Standing, outermost}
use Rattle.call_shape.proofs.Places.{begins_there}
use Rattle.helpers.specs.declared.limits.HelperLimits.{HelperLimits}
use Rattle.check_description.specs.declared.description.Description.{Description}
use Rattle.check_description.specs.declared.saved.SavedRegisters.{SavedRegisters}
use Rattle.check_description.specs.Description.{Covers, Describes}
use Rattle.verifier.specs.Checks.{AreOnce, IsBefore, IsOnPath, returns_of}
use Rattle.verifier.specs.Function.{AreDone, AreVisited, IsDone, IsEnd, IsOwn, Lands, Stands}
use Rattle.verifier.specs.Goes.{IsChecked, IsLeft}
use Rattle.verifier.specs.Table.{Table, described, Grows, IsFirstTable, IsKnown}
use Rattle.verifier.proofs.Checks.{IsOfPlace, before_later, more_before, more_once, none_there}
use Rattle.verifier.proofs.Joined.{same_description}
use Rattle.verifier.proofs.Sound.{well_so}

-- what was known where a function is left is known still
abbrev pub Widens : Option Description → Option Description → Type 0
Widens before after = (old : Description) → before ≡ Some old → (now : Description) × (after ≡ Some now) × Covers old now

pub same_widens : (left : Option Description) → Widens left left
same_widens left old is = (old, is, λ callers m holds. holds)

-- where the same is described the same is known
pub known_as : (callers : List SavedRegisters) (table other : Table) (at : ℕ) (m : MachineState) → described other at ≡ described table at → IsKnown callers table at m → IsKnown callers other at m
known_as callers table other at m same known = record { description = known.description; there = same ∙ known.there; holds = known.holds }

stands_on : (callers : List SavedRegisters) (calls : List OpenCall) (start : ℕ) (before after : Table) (m : MachineState) → Grows before after → Stands callers calls start before m → Stands callers calls start after m
stands_on callers calls start before after m grows stands = record { at = stands.at; place = stands.place; known = grows callers stands.at m stands.known; calls_are = stands.calls_are }

left_wider : (callers : List SavedRegisters) (calls : List OpenCall) (before after : Option Description) (m : MachineState) → Widens before after → IsLeft callers before calls m → IsLeft callers after calls m
left_wider callers calls before after m wider is =
    let now = wider is.description is.known in
    record {
      call = is.call;
      rest = is.rest;
      calls_were = is.calls_were;
      outer = is.outer;
      saved = is.saved;
      callers_were = is.callers_were;
      description = now.0;
      known = now.1;
      place = is.place;
      calls_are = is.calls_are;
      holds = now.2 is.outer m is.holds;
    }

pub checked_among : (limits : HelperLimits) (program : List Slot) (checks more : List Standing) (calls : List OpenCall) → ((check : Standing) → Contains checks check → Contains more check) → (m : MachineState) → IsChecked limits program checks calls m → IsChecked limits program more calls m
checked_among limits program checks more calls among m is = record {
  unstuck = is.unstuck;
  inner = is.inner;
  opened = is.opened;
  checked = among (record { slot = m.pc; returns = returns_of is.inner }) is.checked;
}

lands_on : (limits : HelperLimits) (program : List Slot) (callers : List SavedRegisters) (calls : List OpenCall) (start : ℕ) (before after : Table) (left wider : Option Description) (checks more : List Standing) (m : MachineState) → Grows before after → Widens left wider → Lands limits program callers calls start before left checks m → Lands limits program callers calls start after wider (checks ++ more) m
lands_on limits program callers calls start before after left wider checks more m grows widens (inl on) = inl (stands_on callers calls start before after m grows on)
lands_on limits program callers calls start before after left wider checks more m grows widens (inr (inl gone)) = inr (inl (left_wider callers calls left wider m widens gone))
lands_on limits program callers calls start before after left wider checks more m grows widens (inr (inr called)) =
    inr (inr (λ n. well_so program (IsChecked limits program checks calls) (IsChecked limits program (checks ++ more) calls) (Stands callers calls start before) (Stands callers calls start after)
    (checked_among limits program checks (checks ++ more) calls (λ check is. Contains-append_left checks more check is))
    (λ m' on. stands_on callers calls start before after m' grows on) n m (called n)))

still_done : (limits : HelperLimits) (program : List Slot) (callers : List SavedRegisters) (start : ℕ) (before after : Table) (left wider : Option Description) (checks more : List Standing) (at : ℕ) (insn : Insn) → described after at ≡ described before at → Grows before after → Widens left wider → IsDone limits program callers start before left checks at insn → IsDone limits program callers start after wider (checks ++ more) at insn
still_done limits program callers start before after left wider checks more at insn same grows widens is = record {
  unstuck = λ m known. is.unstuck m (known_as callers after before at m (sym same) known);
  follows = λ m m' place known step. lands_on limits program callers m.open_calls start before after left wider checks more m' grows widens (is.follows m m' place (known_as callers after before at m (sym same) known) step);
}

-- what a visit leaves as it was, and that the place is done with, by these checks
pub record HasVisited (limits : HelperLimits) (program : List Slot) (callers : List SavedRegisters) (start : ℕ) (before : Table) (left : Option Description) (at : ℕ) (insn : Insn) (after : Table) (wider : Option Description) (checks : List Standing) : Type 0 where
  pub whole : length after ≡ length before
  pub grows : Grows before after
  pub widens : Widens left wider
  pub kept : (k : ℕ) → k ≤ at → described after k ≡ described before k
  pub own : (k : ℕ) (d : Description) → described after k ≡ Some d → IsOwn program callers start (start + k) d
  pub left_frames : (d : Description) → wider ≡ Some d → length d.stack ≡ length callers
  pub done : IsDone limits program callers start after wider checks at insn

same_insn : (x y : Insn) (o : Option Insn) → o ≡ Some x → o ≡ Some y → x ≡ y
same_insn x y o e f = cc

-- what stands in a table stands in one in which it was kept
kept_there : (before after : Table) (at k : ℕ) (d : Description) → ((k : ℕ) → k ≤ at → described after k ≡ described before k) → k < at → described after k ≡ Some d → described before k ≡ Some d
kept_there before after at k d kept lt there = sym (kept k (omega (arith, lt))) ∙ there

pub one_more : (limits : HelperLimits) (program : List Slot) (callers : List SavedRegisters) (start : ℕ) (before : Table) (left : Option Description) (at : ℕ) (insn : Insn) (after : Table) (wider : Option Description) (checks more : List Standing) → insn_at program (start + at) ≡ Some insn → AreDone limits program callers start before left checks at → HasVisited limits program callers start before left at insn after wider (checks ++ more) → Contains more (outermost (start + at)) → AreDone limits program callers start after wider (checks ++ more) (at + 1)
one_more limits program callers start before left at insn after wider checks more here are did own_check = record {
  end = subst (λ (n : ℕ). IsEnd program start (start + n)) (sym did.whole) are.end;
  own = did.own;
  left_frames = did.left_frames;
  done = λ k other lt there. elim (cases_eq k at) [
    | inl same ↦
        let is : insn ≡ other = same_insn insn other (insn_at program (start + at)) here (sym (ap (λ (n : ℕ). insn_at program (start + n)) same) ∙ there) in
        rw (same, ← is) did.done
    | inr apart ↦
        let below : k < at = omega (arith, lt, apart) in
        still_done limits program callers start before after left wider checks more k other (did.kept k (omega (arith, below))) did.grows did.widens (are.done k other below there)
  ];
  checked = λ k d lt there. elim (cases_eq k at) [
    | inl same ↦ rw same (Contains-append_right checks more (outermost (start + at)) own_check)
    | inr apart ↦
        let below : k < at = omega (arith, lt, apart) in
        Contains-append_left checks more (outermost (start + k)) (are.checked k d below (kept_there before after at k d did.kept below there))
  ];
}

-- one place more is visited
pub visited_more : (limits : HelperLimits) (program : List Slot) (callers : List SavedRegisters) (start : ℕ) (before : Table) (left : Option Description) (at : ℕ) (insn : Insn) (after : Table) (wider : Option Description) (first now next : ℕ) (are : AreVisited limits program callers start before left at first now) (more : List Standing) → insn_at program (start + at) ≡ Some insn → HasVisited limits program callers start before left at insn after wider (are.checks ++ more) → now + length more ≡ next → AreOnce more → Contains more (outermost (start + at)) → ((check : Standing) → Contains more check → IsOfPlace (start + at) check) → ((check : Standing) → Contains more check → IsOnPath program (outermost start) check) → AreVisited limits program callers start after wider (at + 1) first next
visited_more limits program callers start before left at insn after wider first now next are more here did made once own_check there on_paths = record {
  checks = are.checks ++ more;
  made = omega (arith, are.made, made, length-append are.checks more);
  once = more_once (start + at) are.checks more are.once once are.earlier there;
  on_paths = λ check is. elim (Contains-append_cases are.checks more check is) [ inl old ↦ are.on_paths check old | inr new ↦ on_paths check new ];
  earlier = λ check is. let slot : start + at + 1 ≡ start + (at + 1) = omega arith in subst (λ (n : ℕ). IsBefore n check) slot (more_before (start + at) are.checks more are.earlier there check is);
  done = one_more limits program callers start before left at insn after wider are.checks more here are.done did own_check;
}

-- where nothing leads to a place it is done with
still_skipped : (limits : HelperLimits) (program : List Slot) (callers : List SavedRegisters) (start : ℕ) (table : Table) (left : Option Description) (checks : List Standing) (at : ℕ) → (described table at ≡ None) ⊎ (insn_at program (start + at) ≡ None) → AreDone limits program callers start table left checks at → AreDone limits program callers start table left checks (at + 1)
still_skipped limits program callers start table left checks at none are = record {
  end = are.end;
  own = are.own;
  left_frames = are.left_frames;
  done = λ k insn lt there. elim (cases_eq k at) [
    | inl same ↦ elim none [
      | inl unknown ↦
          let never : (m : MachineState) → IsKnown callers table k m → ⊥ = λ m known. let bad : None ≡ Some known.description = sym unknown ∙ (sym (ap (described table) same) ∙ known.there) in absurd cc in
          record {
            unstuck = λ m known. absurd (never m known);
            follows = λ m m' place known step. absurd (never m known);
          }
      | inr nothing ↦ absurd (let bad : None ≡ Some insn = sym nothing ∙ (sym (ap (λ (n : ℕ). insn_at program (start + n)) same) ∙ there) in cc)
    ]
    | inr apart ↦ are.done k insn (omega (arith, lt, apart)) there
  ];
  checked = λ k d lt there. elim (cases_eq k at) [
    | inl same ↦ elim none [
      | inl unknown ↦ absurd (let bad : None ≡ Some d = sym unknown ∙ (sym (ap (described table) same) ∙ there) in cc)
      | inr nothing ↦
          let begun = begins_there program (start + k) (are.own k d there).begun in
          absurd (let bad : None ≡ Some begun.0 = sym nothing ∙ (sym (ap (λ (n : ℕ). insn_at program (start + n)) same) ∙ begun.1) in cc)
    ]
    | inr apart ↦ are.checked k d (omega (arith, lt, apart)) there
  ];
}

pub skipped : (limits : HelperLimits) (program : List Slot) (callers : List SavedRegisters) (start : ℕ) (table : Table) (left : Option Description) (at first now : ℕ) → (described table at ≡ None) ⊎ (insn_at program (start + at) ≡ None) → AreVisited limits program callers start table left at first now → AreVisited limits program callers start table left (at + 1) first now
skipped limits program callers start table left at first now none are = record {
  checks = are.checks;
  made = are.made;
  once = are.once;
  on_paths = are.on_paths;
  earlier = λ check is. before_later (start + at) (start + (at + 1)) check (omega arith) (are.earlier check is);
  done = still_skipped limits program callers start table left are.checks at none are.done;
}

-- at first the function's start alone is described
opening_done : (limits : HelperLimits) (program : List Slot) (callers : List SavedRegisters) (start len : ℕ) (entry : Description) (table : Table) → IsEnd program start (start + len) → IsOwn program callers start start entry → IsFirstTable len entry table → AreDone limits program callers start table None [] 0
opening_done limits program callers start len entry table end own first = record {
  end = subst (λ (n : ℕ). IsEnd program start (start + n)) (sym first.whole) end;
  own = owned;
  left_frames = λ d is. absurd (let bad : None ≡ Some d = is in cc);
  done = λ k insn lt at. absurd (omega (arith, lt));
  checked = λ k d lt there. absurd (omega (arith, lt));
}
  where
    owned : (k : ℕ) (d : Description) → described table k ≡ Some d → IsOwn program callers start (start + k) d
    owned zero d there =
        let is : entry ≡ d = same_description entry d (sym first.there ∙ there) in
        let at : start ≡ start + 0 = omega arith in
        subst (λ (n : ℕ). IsOwn program callers start n d) at (subst (IsOwn program callers start start) is own)
    owned (suc k) d there = absurd (let bad : None ≡ Some d = sym (first.others (suc k) (omega arith)) ∙ there in cc)

pub opening : (limits : HelperLimits) (program : List Slot) (callers : List SavedRegisters) (start len : ℕ) (entry : Description) (table : Table) → IsEnd program start (start + len) → IsOwn program callers start start entry → IsFirstTable len entry table → (visits : ℕ) → AreVisited limits program callers start table None 0 visits visits
opening limits program callers start len entry table end own first visits = record {
  checks = [];
  made = omega arith;
  once = tt;
  on_paths = λ check is. absurd (none_there check is);
  earlier = λ check is. absurd (none_there check is);
  done = opening_done limits program callers start len entry table end own first;
}

pub entry_known : (callers : List SavedRegisters) (len : ℕ) (entry : Description) (table : Table) → IsFirstTable len entry table → (m : MachineState) → Describes callers entry m → IsKnown callers table 0 m
entry_known callers len entry table first m holds = record { description = entry; there = first.there; holds = holds }

-- what stands in a list's place that is written back whole
pub written_back : (xs ys : Table) (n : ℕ) → n ≡ length xs → take n (xs ++ ys) ≡ xs
written_back xs ys n is = ap (λ (k : ℕ). take k (xs ++ ys)) is ∙ take-append_seam xs ys

pub none_by : (o : Option Description) → ((d : Description) → o ≡ Some d → ⊥) → o ≡ None
none_by None never = refl
none_by (Some d) never = absurd (never d refl)
