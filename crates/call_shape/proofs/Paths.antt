-- Static paths put one after the other, and taken apart. So all that is said of paths is said of those from slots of the
-- outermost function.
use Rattle.std.proofs.Common.{◌≡◌, ℕ, zero, suc, ◌+◌, ◌≤◌, max, List, [], ◌∷◌, ◌++◌, length, Option, Some, refl, ap, sym, subst, ◌∙◌, arith, inl, inr, ◌⊎◌, length-append}
use Rattle.bpf_insn.specs.declared.insn.Insn.{Insn}
use Rattle.bpf_insn.specs.declared.insn.Insn.TheVariants.{Alu, InPlace, SignExtend, JumpIf, Jump, LoadImmediate, Load, Store, Call, Exit}
use Rattle.bpf_insn.specs.declared.insn.Callee.TheVariants.{Helper, Local}
use Rattle.bpf_insn.specs.declared.program.Slot.{Slot}
use Rattle.bpf_insn.specs.Program.{insn_at}
use Rattle.call_shape.specs.declared.onward.Onward.{Onward}
use Rattle.call_shape.specs.declared.onward.Onward.TheVariants.{Leaves, Continues, Branches, Enters}
use Rattle.call_shape.specs.Onward.{onward}
use Rattle.call_shape.specs.StaticPath.{Standing, outermost, moved, frames_at, ReturnsTo, StepLeadsTo, IsOutermostExit, StaticPath, depth}

-- where control may lead, by where the instruction lets it go
abbrev pub LeadsOn : Standing → Onward → Standing → Type 0
LeadsOn at Leaves to = ReturnsTo at.returns to
LeadsOn at (Continues next) to = to ≡ moved at next
LeadsOn at (Branches next other) to = (to ≡ moved at next) ⊎ (to ≡ moved at other)
LeadsOn at (Enters callee next) to = to ≡ record { slot = callee; returns = next ∷ at.returns }

pub leads_on : (at : Standing) (insn : Insn) (to : Standing) → StepLeadsTo at insn to → LeadsOn at (onward at.slot insn) to
leads_on at (Alu width op dst src) to leads = leads
leads_on at (InPlace op dst) to leads = leads
leads_on at (SignExtend extension dst src) to leads = leads
leads_on at (JumpIf width condition dst src offset) to leads = leads
leads_on at (Jump distance) to leads = leads
leads_on at (LoadImmediate dst value) to leads = leads
leads_on at (Load form dst src offset) to leads = leads
leads_on at (Store size dst src offset) to leads = leads
leads_on at (Call (Helper number)) to leads = leads
leads_on at (Call (Local distance)) to leads = leads
leads_on at Exit to leads = leads

pub leads_so : (at : Standing) (insn : Insn) (to : Standing) → LeadsOn at (onward at.slot insn) to → StepLeadsTo at insn to
leads_so at (Alu width op dst src) to leads = leads
leads_so at (InPlace op dst) to leads = leads
leads_so at (SignExtend extension dst src) to leads = leads
leads_so at (JumpIf width condition dst src offset) to leads = leads
leads_so at (Jump distance) to leads = leads
leads_so at (LoadImmediate dst value) to leads = leads
leads_so at (Load form dst src offset) to leads = leads
leads_so at (Store size dst src offset) to leads = leads
leads_so at (Call (Helper number)) to leads = leads
leads_so at (Call (Local distance)) to leads = leads
leads_so at Exit to leads = leads

-- only an exit leaves its function
pub exit_leaves : (place : ℕ) (insn : Insn) → onward place insn ≡ Leaves → insn ≡ Exit
exit_leaves place (Alu width op dst src) e = absurd cc
exit_leaves place (InPlace op dst) e = absurd cc
exit_leaves place (SignExtend extension dst src) e = absurd cc
exit_leaves place (JumpIf width condition dst src offset) e = absurd cc
exit_leaves place (Jump distance) e = absurd cc
exit_leaves place (LoadImmediate dst value) e = absurd cc
exit_leaves place (Load form dst src offset) e = absurd cc
exit_leaves place (Store size dst src offset) e = absurd cc
exit_leaves place (Call (Helper number)) e = absurd cc
exit_leaves place (Call (Local distance)) e = absurd cc
exit_leaves place Exit e = refl

-- a path of so many instructions with at most so many frames at a time
abbrev pub HasPath : List Slot → Standing → ℕ → ℕ → Type 0
HasPath program at n d = (path : StaticPath program at n) × (depth program at n path ≡ d)

-- standing there while further calls are open outside
abbrev pub under : Standing → List ℕ → Standing
under at outer = record { slot = at.slot; returns = at.returns ++ outer }

-- back from the call that is open outside
abbrev pub back : ℕ → List ℕ → Standing
back return outer = record { slot = return; returns = outer }

returns_under : (returns : List ℕ) (to : Standing) (outer : List ℕ) → ReturnsTo returns to → ReturnsTo (returns ++ outer) (under to outer)
returns_under [] to outer leads = absurd leads
returns_under (return ∷ returns) to outer leads = ap (λ (s : Standing). under s outer) leads

on_under : (at : Standing) (way : Onward) (to : Standing) (outer : List ℕ) → LeadsOn at way to → LeadsOn (under at outer) way (under to outer)
on_under at Leaves to outer leads = returns_under at.returns to outer leads
on_under at (Continues next) to outer leads = ap (λ (s : Standing). under s outer) leads
on_under at (Branches next other) to outer (inl leads) = inl (ap (λ (s : Standing). under s outer) leads)
on_under at (Branches next other) to outer (inr leads) = inr (ap (λ (s : Standing). under s outer) leads)
on_under at (Enters callee next) to outer leads = ap (λ (s : Standing). under s outer) leads

pub leads_under : (at : Standing) (insn : Insn) (to : Standing) (outer : List ℕ) → StepLeadsTo at insn to → StepLeadsTo (under at outer) insn (under to outer)
leads_under at insn to outer leads = leads_so (under at outer) insn (under to outer) (on_under at (onward at.slot insn) to outer (leads_on at insn to leads))

pub same_path : (program : List Slot) (at : Standing) (n m d e : ℕ) → n ≡ m → d ≡ e → HasPath program at n d → HasPath program at m e
same_path program at n m d e long deep path =
    subst (λ (k : ℕ). HasPath program at k e) long (subst (HasPath program at n) deep path)

step_on : (program : List Slot) (at to : Standing) (insn : Insn) (n d : ℕ) → insn_at program at.slot ≡ Some insn → StepLeadsTo at insn to → HasPath program to n d → HasPath program at (suc n) (max (frames_at at) d)
step_on program at to insn n d is leads rest = ((insn, is, inr (to, leads, rest.0)), ap (λ (k : ℕ). max (frames_at at) k) rest.1)

-- from the outermost exit of a path control leads back from the call that is open outside
pub exit_returns : (at : Standing) (insn : Insn) (return : ℕ) (outer : List ℕ) → IsOutermostExit at insn → StepLeadsTo (under at (return ∷ outer)) insn (back return outer)
exit_returns at insn return outer end =
    subst (λ (i : Insn). StepLeadsTo (under at (return ∷ outer)) i (back return outer)) (sym end.0)
    (subst (λ (rs : List ℕ). ReturnsTo (rs ++ return ∷ outer) (back return outer)) (sym end.1) refl)

-- a path to the end of a function, and then one from after its call
pub joined : (program : List Slot) (n m : ℕ) (at : Standing) (return : ℕ) (outer : List ℕ) (d e : ℕ) → HasPath program at n d → HasPath program (back return outer) m e → HasPath program (under at (return ∷ outer)) (n + m) (max (d + length outer + 1) e)
joined program zero m at return outer d e inner after = absurd inner.0
joined program (suc n) m at return outer d e ((insn, is, inl end), deep) after =
    let path = step_on program (under at (return ∷ outer)) (back return outer) insn m e is (exit_returns at insn return outer end.0) after in
    same_path program (under at (return ∷ outer)) (suc m) (suc n + m) _ (max (d + length outer + 1) e) (omega (arith, end.1))
    (omega (arith, deep, length-append at.returns (return ∷ outer), ap length end.0.1)) path
joined program (suc n) m at return outer d e ((insn, is, inr (to, leads, rest)), deep) after =
    let on = joined program n m to return outer (depth program to n rest) e (rest, refl) after in
    let path = step_on program (under at (return ∷ outer)) (under to (return ∷ outer)) insn (n + m) _ is (leads_under at insn to (return ∷ outer) leads) on in
    same_path program (under at (return ∷ outer)) (suc (n + m)) (suc n + m) _ (max (d + length outer + 1) e) (omega arith)
    (omega (arith, deep, length-append at.returns (return ∷ outer))) path

-- from under a call that is open outside control leads as without it, or back from the call
abbrev LeadsOut : Standing → Onward → ℕ → List ℕ → Standing → Type 0
LeadsOut at way return outer to =
    ((on : Standing) × LeadsOn at way on × (to ≡ under on (return ∷ outer))) ⊎ ((way ≡ Leaves) × (at.returns ≡ []) × (to ≡ back return outer))

out_returns : (slot : ℕ) (returns : List ℕ) (return : ℕ) (outer : List ℕ) (to : Standing) → ReturnsTo (returns ++ return ∷ outer) to → LeadsOut (record { slot = slot; returns = returns }) Leaves return outer to
out_returns slot [] return outer to leads = inr (refl, refl, leads)
out_returns slot (inner ∷ returns) return outer to leads = inl (record { slot = inner; returns = returns }, refl, leads)

out_on : (at : Standing) (way : Onward) (return : ℕ) (outer : List ℕ) (to : Standing) → LeadsOn (under at (return ∷ outer)) way to → LeadsOut at way return outer to
out_on at Leaves return outer to leads = out_returns at.slot at.returns return outer to leads
out_on at (Continues next) return outer to leads = inl (moved at next, refl, leads)
out_on at (Branches next other) return outer to (inl leads) = inl (moved at next, inl refl, leads)
out_on at (Branches next other) return outer to (inr leads) = inl (moved at other, inr refl, leads)
out_on at (Enters callee next) return outer to leads = inl (record { slot = callee; returns = next ∷ at.returns }, refl, leads)

-- a path from under a call that is open outside, taken apart where that call returns
pub record Parted (program : List Slot) (at : Standing) (return : ℕ) (outer : List ℕ) (k d : ℕ) : Type 0 where
  pub inner : ℕ
  pub inner_depth : ℕ
  pub path : HasPath program at inner inner_depth
  pub after : ℕ
  pub after_depth : ℕ
  pub rest : HasPath program (back return outer) after after_depth
  pub long : k ≡ inner + after
  pub deep : d ≡ max (inner_depth + length outer + 1) after_depth

pub parted : (program : List Slot) (k : ℕ) (at : Standing) (return : ℕ) (outer : List ℕ) (d : ℕ) → HasPath program (under at (return ∷ outer)) k d → Parted program at return outer k d
parted program zero at return outer d path = absurd path.0
parted program (suc k) at return outer d ((insn, is, inl end), deep) = absurd (omega (arith, ap length end.0.1, length-append at.returns (return ∷ outer)))
parted program (suc k) at return outer d ((insn, is, inr (to, leads, rest)), deep) =
    elim (out_on at (onward at.slot insn) return outer to (leads_on (under at (return ∷ outer)) insn to leads)) [
      | inl (on, way, same) ↦
          let parts = parted program k on return outer (depth program to k rest) (subst (λ (s : Standing). HasPath program s k (depth program to k rest)) same (rest, refl)) in
          record {
            inner = suc parts.inner;
            inner_depth = max (frames_at at) parts.inner_depth;
            path = step_on program at on insn parts.inner parts.inner_depth is (leads_so at insn on way) parts.path;
            after = parts.after;
            after_depth = parts.after_depth;
            rest = parts.rest;
            long = omega (arith, parts.long);
            deep = omega (arith, deep, parts.deep, length-append at.returns (return ∷ outer));
          }
      | inr (leaves, none, same) ↦
          record {
            inner = 1;
            inner_depth = 1;
            path = ((insn, is, inl ((exit_leaves at.slot insn leaves, none), refl)), omega (arith, ap length none));
            after = k;
            after_depth = depth program to k rest;
            rest = subst (λ (s : Standing). HasPath program s k (depth program to k rest)) same (rest, refl);
            long = omega arith;
            deep = omega (arith, deep, ap length none, length-append at.returns (return ∷ outer));
          }
    ]

-- a path through a function that is called, and one from after the call
pub record CallsOut (program : List Slot) (callee next n d : ℕ) : Type 0 where
  pub inner : ℕ
  pub inner_depth : ℕ
  pub path : HasPath program (outermost callee) inner inner_depth
  pub after : ℕ
  pub after_depth : ℕ
  pub rest : HasPath program (outermost next) after after_depth
  pub long : n ≡ inner + after + 1
  pub deep : d ≡ max (inner_depth + 1) after_depth

-- a path from there on, of so many instructions less one, with so many frames at a time
pub record GoesOut (program : List Slot) (next n d : ℕ) : Type 0 where
  pub after : ℕ
  pub rest : HasPath program (outermost next) after d
  pub long : n ≡ after + 1

-- so many instructions with so many frames at a time, from where control goes on
abbrev pub WaysFrom : List Slot → Onward → ℕ → ℕ → Type 0
WaysFrom program Leaves n d = (n ≡ 1) × (d ≡ 1)
WaysFrom program (Continues next) n d = GoesOut program next n d
WaysFrom program (Branches next other) n d = GoesOut program next n d ⊎ GoesOut program other n d
WaysFrom program (Enters callee next) n d = CallsOut program callee next n d

pub one_frame_at_least : (program : List Slot) (at : Standing) (n d : ℕ) → HasPath program at n d → frames_at at ≤ d
one_frame_at_least program at zero d path = absurd path.0
one_frame_at_least program at (suc n) d ((insn, is, inl end), deep) = omega (arith, deep)
one_frame_at_least program at (suc n) d ((insn, is, inr on), deep) = omega (arith, deep)

goes_out : (program : List Slot) (next m d e : ℕ) (to : Standing) → to ≡ outermost next → e ≡ max 1 d → HasPath program to m d → GoesOut program next (suc m) e
goes_out program next m d e to same deep path =
    let on = subst (λ (s : Standing). HasPath program s m d) same path in
    record { after = m; rest = same_path program (outermost next) m m d e refl (omega (arith, deep, one_frame_at_least program (outermost next) m d on)) on; long = omega arith }

calls_out : (program : List Slot) (callee next m d e : ℕ) (to : Standing) → to ≡ record { slot = callee; returns = next ∷ [] } → e ≡ max 1 d → HasPath program to m d → CallsOut program callee next (suc m) e
calls_out program callee next m d e to same deep path =
    let parts = parted program m (outermost callee) next [] d (subst (λ (s : Standing). HasPath program s m d) same path) in
    record {
      inner = parts.inner;
      inner_depth = parts.inner_depth;
      path = parts.path;
      after = parts.after;
      after_depth = parts.after_depth;
      rest = parts.rest;
      long = omega (arith, parts.long);
      deep = omega (arith, deep, parts.deep);
    }

ways_by : (program : List Slot) (place m d e : ℕ) (way : Onward) (to : Standing) → LeadsOn (outermost place) way to → e ≡ max 1 d → HasPath program to m d → WaysFrom program way (suc m) e
ways_by program place m d e Leaves to leads deep path = absurd leads
ways_by program place m d e (Continues next) to leads deep path = goes_out program next m d e to leads deep path
ways_by program place m d e (Branches next other) to (inl leads) deep path = inl (goes_out program next m d e to leads deep path)
ways_by program place m d e (Branches next other) to (inr leads) deep path = inr (goes_out program other m d e to leads deep path)
ways_by program place m d e (Enters callee next) to leads deep path = calls_out program callee next m d e to leads deep path

same_there : (a b : Insn) (o : Option Insn) → o ≡ Some a → o ≡ Some b → b ≡ a
same_there a b o e f = cc

-- a path from an instruction is one from where control goes on
pub ways_on : (program : List Slot) (place n d : ℕ) (insn : Insn) → insn_at program place ≡ Some insn → HasPath program (outermost place) n d → WaysFrom program (onward place insn) n d
ways_on program place zero d insn at path = absurd path.0
ways_on program place (suc n) d insn at ((other, is, inl end), deep) =
    let exit : insn ≡ Exit = same_there other insn (insn_at program place) is at ∙ end.0.0 in
    rw exit (ap suc end.1, sym deep)
ways_on program place (suc n) d insn at ((other, is, inr (to, leads, rest)), deep) =
    let same = same_there insn other (insn_at program place) at is in
    ways_by program place n (depth program to n rest) d (onward place insn) to
    (leads_on (outermost place) insn to (subst (λ (i : Insn). StepLeadsTo (outermost place) i to) same leads)) (omega (arith, deep)) (rest, refl)

from_next : (program : List Slot) (place next n d : ℕ) (insn : Insn) → insn_at program place ≡ Some insn → StepLeadsTo (outermost place) insn (outermost next) → GoesOut program next n d → HasPath program (outermost place) n d
from_next program place next n d insn at leads out =
    same_path program (outermost place) (suc out.after) n (max 1 d) d (omega (arith, out.long)) (omega (arith, one_frame_at_least program (outermost next) out.after d out.rest))
    (step_on program (outermost place) (outermost next) insn out.after d at leads out.rest)

from_call : (program : List Slot) (place callee next n d : ℕ) (insn : Insn) → insn_at program place ≡ Some insn → StepLeadsTo (outermost place) insn (record { slot = callee; returns = next ∷ [] }) → CallsOut program callee next n d → HasPath program (outermost place) n d
from_call program place callee next n d insn at leads out =
    let both = joined program out.inner out.after (outermost callee) next [] out.inner_depth out.after_depth out.path out.rest in
    same_path program (outermost place) (suc (out.inner + out.after)) n _ d (omega (arith, out.long)) (omega (arith, out.deep))
    (step_on program (outermost place) (record { slot = callee; returns = next ∷ [] }) insn (out.inner + out.after) _ at leads both)

by_way : (program : List Slot) (place n d : ℕ) (insn : Insn) (way : Onward) → onward place insn ≡ way → insn_at program place ≡ Some insn → WaysFrom program way n d → HasPath program (outermost place) n d
by_way program place n d insn Leaves e at out =
    same_path program (outermost place) 1 n 1 d (sym out.0) (sym out.1) ((insn, at, inl ((exit_leaves place insn e, refl), refl)), refl)
by_way program place n d insn (Continues next) e at out =
    from_next program place next n d insn at (leads_so (outermost place) insn (outermost next) (rw e refl)) out
by_way program place n d insn (Branches next other) e at (inl out) =
    from_next program place next n d insn at (leads_so (outermost place) insn (outermost next) (rw e (inl refl))) out
by_way program place n d insn (Branches next other) e at (inr out) =
    from_next program place other n d insn at (leads_so (outermost place) insn (outermost other) (rw e (inr refl))) out
by_way program place n d insn (Enters callee next) e at out =
    from_call program place callee next n d insn at (leads_so (outermost place) insn (record { slot = callee; returns = next ∷ [] }) (rw e refl)) out

-- and the other way round
pub way_from : (program : List Slot) (place n d : ℕ) (insn : Insn) → insn_at program place ≡ Some insn → WaysFrom program (onward place insn) n d → HasPath program (outermost place) n d
way_from program place n d insn at out = by_way program place n d insn (onward place insn) refl at out
