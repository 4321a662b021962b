-- What it is for machines to be let on one way.
use Rattle.std.proofs.Common.{◌≡◌, ℕ, ◌≤◌, Bool, true, false, List, length, Some, Result, Ok, Err, refl, sym, subst, ◌∙◌, arith, ◌⊎◌, inl, inr}
use Rattle.std.specs.Prelude.{IfOk}
use Rattle.bpf_insn.specs.declared.insn.Insn.{Insn}
use Rattle.bpf_insn.specs.declared.program.Slot.{Slot}
use Rattle.bpf_insn.specs.Program.{insn_at}
use Rattle.bpf_semantics.specs.MachineState.{MachineState}
use Rattle.helpers.specs.declared.limits.HelperLimits.{HelperLimits}
use Rattle.check_description.specs.declared.description.Description.{Description}
use Rattle.check_description.specs.declared.saved.SavedRegisters.{SavedRegisters}
use Rattle.check_private_insns.specs.declared.way.Way.{Way}
use Rattle.check_description.specs.Description.{Describes, NeverStuck}
use Rattle.reg_domain.specs.Enough.{Leaves}
use Rattle.reg_domain.specs.Ways.{HasWay}
use Rattle.check_private_insns.specs.Follows.{Follows}
use Rattle.verifier.specs.Arrives.{Arrives, NeverLacks, follows, goes_to}
use Rattle.verifier.specs.Table.{Table, described, IsKnown, HasJoined, HasLed}
use Rattle.verifier.proofs.Joined.{same_description}

-- what holds where all goes well, from what holds there
pub if_ok : {A E P Q : Type 0} (result : Result A E) → (P → Q) → IfOk result (λ _. P) → IfOk result (λ _. Q)
if_ok (Ok x) f holds = f holds
if_ok (Err e) f holds = holds

-- and from two things that hold there
pub if_both_ok : {A E P Q R : Type 0} (result : Result A E) → (P → Q → R) → IfOk result (λ _. P) → IfOk result (λ _. Q) → IfOk result (λ _. R)
if_both_ok (Ok x) f first second = f first second
if_both_ok (Err e) f first second = first

-- a machine that is known at an entry is described as the entry is
pub described_so : (callers : List SavedRegisters) (table : Table) (at : ℕ) (d : Description) (m : MachineState) → described table at ≡ Some d → IsKnown callers table at m → Describes callers d m
described_so callers table at d m here known = subst (λ (x : Description). Describes callers x m) (same_description known.description d (sym known.there ∙ here)) known.holds

-- what follows one way was joined where that leads
pub led_on : (limits : HelperLimits) (callers : List SavedRegisters) (before after : Table) (insn : Insn) (way : Way) (to : ℕ) (d there : Description) → NeverStuck limits callers insn d → Follows callers insn way d true there → HasWay insn way → length there.stack ≡ length d.stack → HasJoined before to there after → HasLed limits callers d before insn way to after
led_on limits callers before after insn way to d there never goes has deep joined = record {
  others = λ other apart. joined.others other (apart has);
  grows = joined.grows;
  frames = λ frames is all. joined.frames frames (deep ∙ is) all;
  unstuck = never;
  follows = λ m m' lt holds way_is step. joined.here callers m' (goes m m' holds way_is step).1;
}

-- or nothing follows in the table
pub led_nowhere : (limits : HelperLimits) (callers : List SavedRegisters) (table : Table) (insn : Insn) (way : Way) (to : ℕ) (d there : Description) (is_open : Bool) → NeverStuck limits callers insn d → Follows callers insn way d is_open there → (is_open ≡ false) ⊎ (length table ≤ to) → HasLed limits callers d table insn way to table
led_nowhere limits callers table insn way to d there is_open never goes shut = record {
  others = λ other apart. refl;
  grows = λ others other m known. known;
  frames = λ frames is all. all;
  unstuck = never;
  follows = λ m m' lt holds way_is step. absurd (elim shut [
    | inl closed ↦ let both = (goes m m' holds way_is step).0 in let bad : false ≡ true = sym closed ∙ both in cc
    | inr outside ↦ omega (arith, outside, lt)
  ]);
}

-- what is left after an instruction arrives where that leads
pub arrives_on : (program : List Slot) (place : ℕ) (insn : Insn) (way : Way) (to : ℕ) (d there : Description) → NeverLacks program → Arrives program place d → insn_at program place ≡ Some insn → goes_to place insn way ≡ Some to → Leaves insn way d there → Arrives program to there
arrives_on program place insn way to d there lacks_not arrives at goes leaves =
    follows place to insn way d there arrives at (lacks_not.enough place insn d arrives at) goes leaves
