-- A local call: what is called is sound from what is known there, and what comes back is known after the call.
use Rattle.std.proofs.Common.{◌≡◌, true, false, ℕ, ℤ, ◌+◌, ◌<◌, ◌≤◌, List, [], ◌∷◌, ◌++◌, length, Option, Some, None, refl, ap, sym, subst, ◌∙◌, arith, inl, inr}
use Rattle.std.specs.Option.{option_and_then}
use Rattle.std.specs.List.{Contains}
use Rattle.std.proofs.lemmas.Bool.{cases_eq}
use Rattle.std.proofs.lemmas.List.{length-append}
use Rattle.std.proofs.lemmas.List.Elements.{Contains-append_right}
use Rattle.bpf_insn.specs.declared.insn.Insn.{Insn}
use Rattle.bpf_insn.specs.declared.insn.Insn.TheVariants.{Call}
use Rattle.bpf_insn.specs.declared.insn.Callee.TheVariants.{Local}
use Rattle.bpf_insn.specs.declared.program.Slot.{Slot}
use Rattle.bpf_insn.specs.Program.{insn_at}
use Rattle.bpf_insn.specs.Target.{target}
use Rattle.bpf_semantics.specs.MachineState.{MachineState, OpenCall}
use Rattle.bpf_semantics.specs.Step.{does}
use Rattle.bpf_semantics.specs.Stuck.{insn_is_stuck}
use Rattle.call_shape.specs.Calls.{begins, callee_at, callee_in, function_of}
use Rattle.call_shape.specs.StaticPath.{Standing, outermost, called, PathLeads, goes_on, starts}
use Rattle.call_shape.proofs.Leading.{leads_inside, leads_through}
use Rattle.call_shape.proofs.Places.{begins_there}
use Rattle.call_shape.proofs.Ways.{further_behind}
use Rattle.helpers.specs.declared.limits.HelperLimits.{HelperLimits}
use Rattle.check_description.specs.declared.description.Description.{Description}
use Rattle.check_description.specs.declared.saved.SavedRegisters.{SavedRegisters}
use Rattle.check_description.specs.Description.{Describes, NeverStuck}
use Rattle.check_private_insns.specs.Follows.{StepsBy}
use Rattle.verifier.specs.Checks.{IsOnPath, returns_of}
use Rattle.verifier.specs.Function.{AreDone, IsLawfulProgram, IsOwn, Stands}
use Rattle.verifier.specs.Goes.{FunctionIsSound, IsBack, IsCallVisited, IsChecked, IsLeft, IsVisited, StaysWell}
use Rattle.verifier.specs.OnTheWay.{IsChain}
use Rattle.verifier.specs.Table.{AllHave, Grows, HasJoined, Table, described, IsKnown}
use Rattle.verifier.proofs.Joined.{same_description}
use Rattle.verifier.proofs.Passed.{IsTaken, carried, carry}
use Rattle.verifier.proofs.Led.{described_so}
use Rattle.verifier.proofs.OnItsWay.{callee_own, chain_back, chain_called, comes_back, local_call, room_left}
use Rattle.verifier.proofs.Checks.{all_under, opened_inside, under, under_from, under_length, under_once, under_returns, under_there}
use Rattle.verifier.proofs.Sound.{inside_table, well_so}
use Rattle.verifier.proofs.Steps.{enters}
use Rattle.verifier.proofs.Visited.{HasVisited, checked_among, known_as, same_widens}

-- the local call at a place
pub call_at : (program : List Slot) (place callee : ℕ) → begins program place ≡ true → callee_at program place ≡ Some callee → (distance : ℤ) × (insn_at program place ≡ Some (Call (Local distance))) × (target place distance ≡ callee)
call_at program place callee begun calls =
    let insn = begins_there program place begun in
    let leads : callee_in place insn.0 ≡ Some callee = sym (ap (option_and_then (callee_in place)) insn.1) ∙ calls in
    let call = local_call place callee insn.0 leads in
    (call.0, insn.1 ∙ ap Some call.1, call.2)

-- there is room for one frame more
pub room_to_enter : (program : List Slot) (callers : List SavedRegisters) (place callee : ℕ) (d : Description) → IsLawfulProgram program → IsOwn program callers (function_of program place) place d → callee_at program place ≡ Some callee → length callers + 1 < 8
room_to_enter program callers place callee d lawful own calls =
    let call = call_at program place callee own.begun calls in
    room_left program (length callers) place call.0 lawful call.1 own.chain

pub more_callers : (callers : List SavedRegisters) (saved : SavedRegisters) → length (callers ++ saved ∷ []) ≡ length callers + 1
more_callers callers saved = omega (arith, length-append callers (saved ∷ []))

-- the start of the function that is called is its own
pub entry_own : (program : List Slot) (callers : List SavedRegisters) (saved : SavedRegisters) (place callee : ℕ) (d entry : Description) → IsLawfulProgram program → IsOwn program callers (function_of program place) place d → callee_at program place ≡ Some callee → length entry.stack ≡ length d.stack + 1 → IsOwn program (callers ++ saved ∷ []) callee callee entry
entry_own program callers saved place callee d entry lawful own calls deep =
    let call = call_at program place callee own.begun calls in
    let start = callee_own program place callee (Call (Local call.0)) lawful call.1 (ap Some call.2) in
    let chain : IsChain program (length callers + 1) callee = subst (IsChain program (length callers + 1)) call.2 (chain_called program (length callers) place call.0 lawful call.1 own.chain) in
    record {
      begun = start.0;
      within = start.1;
      frames = omega (arith, deep, own.frames, more_callers callers saved);
      chain = subst (λ (n : ℕ). IsChain program n callee) (sym (more_callers callers saved)) chain;
      leads = starts;
    }

-- what stands before the last one
same_front : (xs ys : List SavedRegisters) (x y : SavedRegisters) → xs ++ x ∷ [] ≡ ys ++ y ∷ [] → xs ≡ ys
same_front [] [] x y e = refl
same_front [] (b ∷ ys) x y e = absurd (omega (arith, ap length e, length-append ys (y ∷ [])))
same_front (a ∷ xs) [] x y e = absurd (omega (arith, ap length e, length-append xs (x ∷ [])))
same_front (a ∷ xs) (b ∷ ys) x y e =
    let rest : xs ++ x ∷ [] ≡ ys ++ y ∷ [] = cc in
    let first : a ≡ b = cc in
    let fronts : xs ≡ ys = same_front xs ys x y rest in
    λ i. first i ∷ fronts i

same_call : (a b : OpenCall) (xs ys : List OpenCall) → a ∷ xs ≡ b ∷ ys → (a ≡ b) × (xs ≡ ys)
same_call a b xs ys e = (cc, cc)

left_back : (callers : List SavedRegisters) (saved : SavedRegisters) (left : Option Description) (place : ℕ) (call : OpenCall) (calls entered : List OpenCall) → call.return_pc ≡ place → entered ≡ call ∷ calls → (m : MachineState) → IsLeft (callers ++ saved ∷ []) left entered m → IsBack callers left place calls m
left_back callers saved left place call calls entered returns opened m is =
    let same = same_call call is.call calls is.rest (sym opened ∙ is.calls_were) in
    let outer : callers ≡ is.outer = same_front callers is.outer saved is.saved is.callers_were in
    record {
      description = is.description;
      known = is.known;
      behind_call = is.place ∙ (ap (λ (c : OpenCall). c.return_pc) (sym same.0) ∙ returns);
      calls_are = is.calls_are ∙ sym same.1;
      holds = subst (λ (cs : List SavedRegisters). Describes cs is.description m) (sym outer) is.holds;
    }

-- as seen from the function that calls
checked_under : (limits : HelperLimits) (program : List Slot) (checks : List Standing) (return : ℕ) (call : OpenCall) (calls entered : List OpenCall) → call.return_pc ≡ return → entered ≡ call ∷ calls → (m : MachineState) → IsChecked limits program checks entered m → IsChecked limits program (all_under return checks) calls m
checked_under limits program checks return call calls entered returns opened m is =
    let inner = is.inner ++ call ∷ [] in
    let inside : m.open_calls ≡ is.inner ++ (call ∷ calls) = is.opened ∙ ap (λ (cs : List OpenCall). is.inner ++ cs) opened in
    let there = under_there return checks (record { slot = m.pc; returns = returns_of is.inner }) is.checked in
    record {
      unstuck = is.unstuck;
      inner = inner;
      opened = inside ∙ opened_inside is.inner call calls;
      checked = subst (λ (rs : List ℕ). Contains (all_under return checks) (record { slot = m.pc; returns = rs })) (sym (under_returns is.inner call return returns)) there;
    }

-- a machine that is let into what is called is well until it comes back
call_sound : (limits : HelperLimits) (program : List Slot) (callers : List SavedRegisters) (saved : SavedRegisters) (d entry : Description) (place callee : ℕ) (left : Option Description) (checks : List Standing) → ((callers : List SavedRegisters) (distance : ℤ) (m m' : MachineState) → Describes callers d m → does m (Call (Local distance)) ≡ Some m' → Describes (callers ++ saved ∷ []) entry m') → FunctionIsSound limits program (callers ++ saved ∷ []) entry callee left checks → (distance : ℤ) (m m' : MachineState) → Describes callers d m → m.pc ≡ place → target place distance ≡ callee → StepsBy m (Call (Local distance)) m' → (n : ℕ) → StaysWell program (IsChecked limits program (all_under (place + 1) checks) m.open_calls) (IsBack callers left (place + 1) m.open_calls) n m'
call_sound limits program callers saved d entry place callee left checks known sound distance m m' holds at leads step n =
    let in_callee = enters m m' distance step in
    let start : m'.pc ≡ callee = in_callee.place ∙ (ap (λ (k : ℕ). target k distance) at ∙ leads) in
    let returns : in_callee.call.return_pc ≡ place + 1 = in_callee.behind_call ∙ ap (λ (k : ℕ). k + 1) at in
    well_so program (IsChecked limits program checks m'.open_calls) (IsChecked limits program (all_under (place + 1) checks) m.open_calls) (IsLeft (callers ++ saved ∷ []) left m'.open_calls) (IsBack callers left (place + 1) m.open_calls)
    (checked_under limits program checks (place + 1) in_callee.call m.open_calls m'.open_calls returns in_callee.calls)
    (left_back callers saved left (place + 1) in_callee.call m.open_calls m'.open_calls returns in_callee.calls)
    n m' (sound m' start (known callers distance m m' holds in_callee.step) n)

-- a path through what is called is the end of one from the call
on_paths_under : (program : List Slot) (place callee : ℕ) (checks : List Standing) → (distance : ℤ) × (insn_at program place ≡ Some (Call (Local distance))) × (target place distance ≡ callee) → ((check : Standing) → Contains checks check → IsOnPath program (outermost callee) check) → (check : Standing) → Contains (all_under (place + 1) checks) check → IsOnPath program (outermost place) check
on_paths_under program place callee checks call are check there =
    let found = under_from (place + 1) checks check there in
    let inner = are found.0 found.1 in
    let entered : PathLeads program (outermost place) (called (outermost place) callee) =
    goes_on (outermost place) (called (outermost place) callee) (Call (Local call.0)) starts call.1 (ap (λ (n : ℕ). called (outermost place) n) (sym call.2)) in
    subst (IsOnPath program (outermost place)) found.2 (record {
      begun = inner.begun;
      leads = leads_through program (outermost place) (called (outermost place) callee) (under (place + 1) found.0) entered
          (leads_inside program ((place + 1) ∷ []) (outermost callee) found.0 inner.leads);
    })

-- the checks of what is called, as its caller sees them
pub call_visited : (limits : HelperLimits) (program : List Slot) (callers : List SavedRegisters) (saved : SavedRegisters) (d entry : Description) (place callee : ℕ) (left : Option Description) (before after : ℕ) → ((callers : List SavedRegisters) (distance : ℤ) (m m' : MachineState) → Describes callers d m → does m (Call (Local distance)) ≡ Some m' → Describes (callers ++ saved ∷ []) entry m') → (distance : ℤ) × (insn_at program place ≡ Some (Call (Local distance))) × (target place distance ≡ callee) → IsVisited limits program (callers ++ saved ∷ []) entry callee left before after → IsCallVisited limits program callers d place callee left before after
call_visited limits program callers saved d entry place callee left before after known call is = record {
  checks = all_under (place + 1) is.checks;
  made = omega (arith, is.made, under_length (place + 1) is.checks);
  once = under_once (place + 1) is.checks is.once;
  on_paths = on_paths_under program place callee is.checks call is.on_paths;
  inside = λ check there. let found = under_from (place + 1) is.checks check there in (found.0.returns, sym (ap (λ (x : Standing). x.returns) found.2));
  sound = call_sound limits program callers saved d entry place callee left is.checks known is.sound;
}

-- What comes back from a function that was called, if anything does, was joined into a table.
pub record HasComeBack (before : Table) (to : ℕ) (back : Option Description) (after : Table) : Type 0 where
  pub whole : length after ≡ length before
  pub others : (at : ℕ) → (at ≡ to → ⊥) → described after at ≡ described before at
  pub grows : Grows before after
  pub here : (d : Description) → back ≡ Some d → (callers : List SavedRegisters) (m : MachineState) → Describes callers d m → IsKnown callers after to m
  pub frames : (frames : ℕ) → ((d : Description) → back ≡ Some d → length d.stack ≡ frames) → AllHave frames before → AllHave frames after

pub came_back : (before : Table) (to : ℕ) (back : Description) (after : Table) → length after ≡ length before → HasJoined before to back after → HasComeBack before to (Some back) after
came_back before to back after whole joined = record {
  whole = whole;
  others = joined.others;
  grows = joined.grows;
  here = λ d is callers m holds. joined.here callers m (subst (λ (x : Description). Describes callers x m) (sym (same_description back d is)) holds);
  frames = λ frames new all. joined.frames frames (new back refl) all;
}

pub none_came : (table : Table) (to : ℕ) → HasComeBack table to None table
none_came table to = record {
  whole = refl;
  others = λ at apart. refl;
  grows = λ callers at m known. known;
  here = λ d is callers m holds. absurd (let bad : None ≡ Some d = is in cc);
  frames = λ frames new all. all;
}

back_stands : (callers : List SavedRegisters) (start : ℕ) (before : Table) (at : ℕ) (back : Option Description) (after : Table) (calls : List OpenCall) → HasComeBack before (at + 1) back after → (m : MachineState) → IsBack callers back (start + at + 1) calls m → Stands callers calls start after m
back_stands callers start before at back after calls come m is = record {
  at = at + 1;
  place = omega (arith, is.behind_call);
  known = come.here is.description is.known callers m is.holds;
  calls_are = is.calls_are;
}

-- what comes back is known after the call alone
pub behind_alone : (before : Table) (at : ℕ) (back : Option Description) (after : Table) → HasComeBack before (at + 1) back after → (k : ℕ) → k ≤ at → described after k ≡ described before k
behind_alone before at back after come k le = come.others k (λ same. omega (arith, same, le))

-- a place where a function is called is done with
pub visited_call : (limits : HelperLimits) (program : List Slot) (callers : List SavedRegisters) (start : ℕ) (all : Table) (left : Option Description) (at : ℕ) (insn : Insn) (callee : ℕ) (d : Description) (back : Option Description) (before after : Table) (checks more : List Standing) → IsLawfulProgram program → insn_at program (start + at) ≡ Some insn → callee_in (start + at) insn ≡ Some callee → described all at ≡ Some d → AreDone limits program callers start all left checks at → IsTaken all at before → ((limits : HelperLimits) (distance : ℤ) → NeverStuck limits callers (Call (Local distance)) d) → ((distance : ℤ) (m m' : MachineState) → Describes callers d m → m.pc ≡ start + at → target (start + at) distance ≡ callee → StepsBy m (Call (Local distance)) m' → (n : ℕ) → StaysWell program (IsChecked limits program more m.open_calls) (IsBack callers back (start + at + 1) m.open_calls) n m') → ((there : Description) → back ≡ Some there → length there.stack ≡ length callers + 1) → HasComeBack before (at + 1) back after → HasVisited limits program callers start all left at insn (carried at all after) left (checks ++ (outermost (start + at) ∷ more))
visited_call limits program callers start all left at insn callee d back before after checks more lawful here leads there are taken unstuck sound frames come =
    let call = local_call (start + at) callee insn leads in
    let call_here : insn_at program (start + at) ≡ Some (Call (Local call.0)) = here ∙ ap Some call.1 in
    let own = are.own at d there in
    let next = further_behind program (start + at) (Call (Local call.0)) lawful.0 lawful.1.frames.calls.functions call_here refl in
    let slot : start + at + 1 ≡ start + (at + 1) = omega arith in
    let carries = carry all before after at (inside_table all at d there) taken come.whole come.grows (behind_alone before at back after come) in
    let so : (m : MachineState) → IsKnown callers (carried at all after) at m → Describes callers d m = λ m known. described_so callers all at d m there (known_as callers (carried at all after) all at m (sym (carries.kept at (omega arith))) known) in
    let deep = come.frames (length callers + 1) frames (λ k e is. (are.own k e (taken.known k e is)).frames) in
    record {
      whole = carries.whole;
      grows = carries.grows;
      widens = same_widens left;
      kept = carries.kept;
      own = λ k e is. elim (carries.of k e is) [
        | inl was ↦ are.own k e was
        | inr now ↦ elim (cases_eq k (at + 1)) [
          | inl same ↦
              let place : start + at + 1 ≡ start + k = omega (arith, same) in
              record {
                begun = subst (λ (n : ℕ). begins program n ≡ true) place next.there;
                within = subst (λ (n : ℕ). function_of program n ≡ start) place (next.within ∙ own.within);
                frames = deep k e now;
                chain = subst (IsChain program (length callers)) place (chain_back program (length callers) (start + at) call.0 lawful call_here own.chain);
                leads = subst (λ (n : ℕ). PathLeads program (outermost start) (outermost n)) place (comes_back program (outermost start) (start + at) call.0 lawful call_here own.leads);
              }
          | inr other ↦ are.own k e (taken.known k e (sym (come.others k other) ∙ now))
        ]
      ];
      left_frames = are.left_frames;
      done = record {
        unstuck = λ m known.
            let stuck = unstuck limits call.0 m (so m known) in
            subst (λ (i : Insn). insn_is_stuck limits m i ≡ false) (sym call.1) stuck;
        follows = λ m m' place known step.
            let stepped : StepsBy m (Call (Local call.0)) m' = subst (λ (i : Insn). StepsBy m i m') call.1 step in
            inr (inr (λ n.
            well_so program (IsChecked limits program more m.open_calls) (IsChecked limits program (checks ++ (outermost (start + at) ∷ more)) m.open_calls) (IsBack callers back (start + at + 1) m.open_calls) (Stands callers m.open_calls start (carried at all after))
            (checked_among limits program more (checks ++ (outermost (start + at) ∷ more)) m.open_calls (λ check is.
            Contains-append_right checks (outermost (start + at) ∷ more) check (Contains-append_right (outermost (start + at) ∷ []) more check is)))
            (λ m'' is.
            let stands = back_stands callers start before at back after m.open_calls come m'' is in
            record { at = stands.at; place = stands.place; known = carries.knows callers stands.at m'' stands.known; calls_are = stands.calls_are }) n m'
            (sound call.0 m m' (so m known) place call.2 stepped n)));
      };
    }
