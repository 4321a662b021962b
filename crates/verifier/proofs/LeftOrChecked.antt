-- A place where a function is left is done with, and so is one where control stays in it.
use Rattle.std.proofs.Common.{◌≡◌, true, false, ℕ, ◌+◌, ◌≤◌, List, [], ◌∷◌, ◌++◌, length, Option, Some, None, ap, sym, subst, ◌∙◌, arith, ◌⊎◌, inl, inr}
use Rattle.std.proofs.lemmas.Bool.{cases_Bool, cases_eq}
use Rattle.bpf_insn.specs.declared.insn.Insn.{Insn}
use Rattle.bpf_insn.specs.declared.insn.Insn.TheVariants.{Exit}
use Rattle.bpf_insn.specs.declared.program.Slot.{Slot}
use Rattle.bpf_insn.specs.Program.{insn_at}
use Rattle.bpf_semantics.specs.MachineState.{MachineState}
use Rattle.bpf_semantics.specs.Stuck.{insn_is_stuck}
use Rattle.call_shape.specs.Shape.{behind, goes_on_behind, target_in, AreContained}
use Rattle.call_shape.proofs.Ways.{IsFurther, further_behind}
use Rattle.call_shape.specs.StaticPath.{Standing, outermost, PathLeads}
use Rattle.call_shape.proofs.Contained.{jumps_forward, jumps_to_insn, jumps_within, target_there}
use Rattle.helpers.specs.declared.limits.HelperLimits.{HelperLimits}
use Rattle.check_description.specs.declared.description.Description.{Description}
use Rattle.check_description.specs.declared.saved.SavedRegisters.{SavedRegisters}
use Rattle.check_description.specs.Description.{Describes, NeverStuck}
use Rattle.reg_domain.specs.Ways.{Stays}
use Rattle.check_private_insns.specs.Follows.{StepsBy}
use Rattle.verifier.specs.Function.{AreDone, HasChecked, IsLawfulProgram, IsOwn}
use Rattle.verifier.specs.Goes.{IsLeft}
use Rattle.verifier.specs.OnTheWay.{IsChain}
use Rattle.verifier.specs.Table.{Table, described, HasLeft, IsKnown}
use Rattle.verifier.proofs.Led.{described_so}
use Rattle.verifier.proofs.OnItsWay.{chain_behind, chain_target, comes_behind, comes_there}
use Rattle.verifier.proofs.Steps.{leaves}
use Rattle.verifier.proofs.Passed.{IsTaken, carried, carry, carry_same}
use Rattle.verifier.proofs.Sound.{inside_table}
use Rattle.verifier.proofs.Visited.{HasVisited, known_as, same_widens}

gone : (callers outer : List SavedRegisters) (saved : SavedRegisters) (d : Description) (left wider : Option Description) (m m' : MachineState) → callers ≡ outer ++ saved ∷ [] → HasLeft saved d left wider → Describes callers d m → StepsBy m Exit m' → IsLeft callers wider m.open_calls m'
gone callers outer saved d left wider m m' waits has holds step =
    let out = leaves m m' step in
    let now = has.leaves outer m m' (subst (λ (cs : List SavedRegisters). Describes cs d m) waits holds) out.step in
    record {
      call = out.call;
      rest = out.outer;
      calls_were = out.before;
      outer = outer;
      saved = saved;
      callers_were = waits;
      description = now.0;
      known = now.1;
      place = out.place;
      calls_are = out.calls;
      holds = now.2;
    }

pub visited_leave : (limits : HelperLimits) (program : List Slot) (callers : List SavedRegisters) (start : ℕ) (all : Table) (left : Option Description) (at : ℕ) (insn : Insn) (outer : List SavedRegisters) (saved : SavedRegisters) (d : Description) (before : Table) (wider : Option Description) (checks more : List Standing) → insn ≡ Exit → callers ≡ outer ++ saved ∷ [] → described all at ≡ Some d → AreDone limits program callers start all left checks at → IsTaken all at before → ((limits : HelperLimits) (outer : List SavedRegisters) → NeverStuck limits (outer ++ saved ∷ []) Exit d) → HasLeft saved d left wider → HasVisited limits program callers start all left at insn (carried at all before) wider (checks ++ more)
visited_leave limits program callers start all left at insn outer saved d before wider checks more exit waits there are taken unstuck has =
    let carries = carry_same all before at (inside_table all at d there) taken in
    let so : (m : MachineState) → IsKnown callers (carried at all before) at m → Describes callers d m = λ m known. described_so callers all at d m there (known_as callers (carried at all before) all at m (sym (carries.kept at (omega arith))) known) in
    record {
      whole = carries.whole;
      grows = carries.grows;
      widens = has.keeps;
      kept = carries.kept;
      own = λ k e is. elim (carries.of k e is) [
        | inl was ↦ are.own k e was
        | inr now ↦ are.own k e (taken.known k e now)
      ];
      left_frames = has.frames (length callers) (are.own at d there).frames are.left_frames;
      done = record {
        unstuck = λ m known.
            let holds = subst (λ (cs : List SavedRegisters). Describes cs d m) waits (so m known) in
            subst (λ (i : Insn). insn_is_stuck limits m i ≡ false) (sym exit) (unstuck limits outer m holds);
        follows = λ m m' place known step.
            inr (inl (gone callers outer saved d left wider m m' waits has (so m known) (subst (λ (i : Insn). StepsBy m i m') exit step)));
      };
    }

further_target : (program : List Slot) (place to : ℕ) (insn : Insn) → AreContained program → insn_at program place ≡ Some insn → target_in place insn ≡ Some to → IsFurther program place to
further_target program place to insn functions here leads =
    let there = target_there program place to insn here leads in
    record {
      forward = jumps_forward program place to functions.calls.jumps there;
      there = jumps_to_insn program place to functions.calls.jumps.targets there;
      within = jumps_within program place to functions there;
    }

-- a place further on is the function's own
own_on : (program : List Slot) (callers : List SavedRegisters) (start place next : ℕ) (d e : Description) → IsOwn program callers start place d → IsFurther program place next → length e.stack ≡ length callers + 1 → IsChain program (length callers) next → PathLeads program (outermost start) (outermost next) → IsOwn program callers start next e
own_on program callers start place next d e own on frames chain leads = record {
  begun = on.there;
  within = on.within ∙ own.within;
  frames = frames;
  chain = chain;
  leads = leads;
}

pub cases_target : (o : Option ℕ) (n : ℕ) → (o ≡ Some n) ⊎ (o ≡ Some n → ⊥)
cases_target None n = inr (λ e. absurd cc)
cases_target (Some k) n = elim (cases_eq k n) [
  | inl same ↦ inl (ap Some same)
  | inr apart ↦ inr (λ e. apart (let is : k ≡ n = cc in is))
]

-- places from which an instruction leads on are kept
pub ahead_alone : (program : List Slot) (limits : HelperLimits) (callers : List SavedRegisters) (start : ℕ) (d : Description) (before : Table) (at : ℕ) (insn : Insn) (after : Table) → IsLawfulProgram program → insn_at program (start + at) ≡ Some insn → HasChecked limits callers start d before at insn after → (k : ℕ) → k ≤ at → described after k ≡ described before k
ahead_alone program limits callers start d before at insn after lawful here checked k le =
    checked.others k (λ goes same. omega (arith, same, le)) (λ leads. omega (arith, le, (further_target program (start + at) (start + k) insn lawful.1.frames.calls.functions here leads).forward))

pub visited_check : (limits : HelperLimits) (program : List Slot) (callers : List SavedRegisters) (start : ℕ) (all : Table) (left : Option Description) (at : ℕ) (insn : Insn) (d : Description) (before after : Table) (checks more : List Standing) → IsLawfulProgram program → insn_at program (start + at) ≡ Some insn → Stays callers insn → described all at ≡ Some d → AreDone limits program callers start all left checks at → IsTaken all at before → length after ≡ length before → HasChecked limits callers start d before at insn after → HasVisited limits program callers start all left at insn (carried at all after) left (checks ++ more)
visited_check limits program callers start all left at insn d before after checks more lawful here stays there are taken whole checked =
    let own = are.own at d there in
    let functions = lawful.1.frames.calls.functions in
    let inside = inside_table all at d there in
    let frames = checked.frames (length callers + 1) own.frames (λ k e is. (are.own k e (taken.known k e is)).frames) in
    let carries = carry all before after at inside taken whole checked.grows (ahead_alone program limits callers start d before at insn after lawful here checked) in
    record {
      whole = carries.whole;
      grows = carries.grows;
      widens = same_widens left;
      kept = carries.kept;
      own = λ k e is. elim (carries.of k e is) [
        | inl was ↦ are.own k e was
        | inr now ↦ elim (cases_target (target_in (start + at) insn) (start + k)) [
          | inl leads ↦ own_on program callers start (start + at) (start + k) d e own (further_target program (start + at) (start + k) insn functions here leads) (frames k e now)
              (chain_target program (length callers) (start + at) (start + k) insn here leads own.chain)
              (comes_there program (outermost start) (start + at) (start + k) insn here leads own.leads)
          | inr no_target ↦ elim (cases_eq (start + k) (behind (start + at) insn)) [
            | inr not_behind ↦ are.own k e (taken.known k e (sym (checked.others k (λ goes same. not_behind same) no_target) ∙ now))
            | inl same ↦ elim (cases_Bool (goes_on_behind insn)) [
              | inl goes ↦ rw same (own_on program callers start (start + at) (behind (start + at) insn) d e own (further_behind program (start + at) insn lawful.0 functions here goes) (frames k e now)
                  (chain_behind program (length callers) (start + at) callers insn here stays goes own.chain)
                  (comes_behind program (outermost start) (start + at) callers insn here stays goes own.leads))
              | inr ends ↦ are.own k e (taken.known k e (sym (checked.others k (λ goes on. let bad : true ≡ false = sym goes ∙ ends in absurd cc) no_target) ∙ now))
            ]
          ]
        ]
      ];
      left_frames = are.left_frames;
      done = record {
        unstuck = λ m known. checked.unstuck m (described_so callers all at d m there (known_as callers (carried at all after) all at m (sym (carries.kept at (omega arith))) known));
        follows = λ m m' place known step.
            let holds = described_so callers all at d m there (known_as callers (carried at all after) all at m (sym (carries.kept at (omega arith))) known) in
            let stands = checked.follows m m' place holds step in
            inl (record { at = stands.at; place = stands.place; known = carries.knows callers stands.at m' stands.known; calls_are = stands.calls_are });
      };
    }
