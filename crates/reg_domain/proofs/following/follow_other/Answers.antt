use Rattle.std.proofs.Common.{◌≡◌, refl, rules, subst, sym}
use Rattle.std.specs.Int.{w16}
use Rattle.std.proofs.lemmas.Int.{to_z-of_z}
use Rattle.bpf_insn.specs.declared.insn.Callee.TheVariants.{Helper as helper_call}
use Rattle.bpf_insn.specs.declared.insn.Insn.TheVariants.{Call}
use Rattle.check_register_kinds.specs.declared.freeze_name.FreezeName.TheVariants as names
use Rattle.check_description.specs.declared.description.Description.{Description}
use Rattle.check_helper_calls.specs.Called.{LeavesCalled}
use Rattle.reg_domain.specs.Ways.{Stays}
use Rattle.reg_domain.proofs.Ways.{exit_never_stuck, follows_way, goes_way, jump_goes, jump_never_stuck}
use Rattle.reg_domain.proofs.following.follow_other.Goals as goal
use Rattle.reg_domain.proofs.following.follow_other.Goals.{in-Alu+in_ok-compute-in-Alu, in-InPlace+in_ok-change-in-InPlace, in-SignExtend+in_ok-extend-in-SignExtend, in-LoadImmediate, in-Load+in_ok-load-in-Load, in-Call+in_ok-call_function-in-Call}

pub returns-in-Exit-clause-unstuck : goal.returns-in-Exit-clause-unstuck
returns-in-Exit-clause-unstuck c = rw c.in-Exit.is (exit_never_stuck c.exit.result c.args.limits.now c.args.callers.now c.args.description.now (subst (Stays c.args.callers.now) c.in-Exit.is c.requires.stays) c.exit.ensures.unstuck)

pub returns-clause-unstuck : goal.returns-clause-unstuck
returns-clause-unstuck c = elim c.match-insn.branch [
  | in-Alu+in_ok-compute-in-Alu w ↦ rw w.in-Alu.is (w.in_ok-compute-in-Alu.ensures.goes.unstuck c.args.limits.now c.args.callers.now)
  | in-InPlace+in_ok-change-in-InPlace w ↦ rw w.in-InPlace.is (w.in_ok-change-in-InPlace.ensures.goes.unstuck c.args.limits.now c.args.callers.now)
  | in-SignExtend+in_ok-extend-in-SignExtend w ↦ rw w.in-SignExtend.is (w.in_ok-extend-in-SignExtend.ensures.goes.unstuck c.args.limits.now c.args.callers.now)
  | in-LoadImmediate w ↦ rw w.in-LoadImmediate.is (w.load_immediate.ensures.goes.unstuck c.args.limits.now c.args.callers.now)
  | in-Load+in_ok-load-in-Load w ↦ rw w.in-Load.is ((rw (to_z-of_z w16 w.in-Load.offset (search rules)) at w.in_ok-load-in-Load.ensures.goes).unstuck c.args.limits.now c.args.callers.now)
  | in-Call+in_ok-call_function-in-Call w ↦ rw w.in-Call.is w.in_ok-call_function-in-Call.ensures.unstuck
]

pub returns-in-JumpIf-clause-unstuck : goal.returns-in-JumpIf-clause-unstuck
returns-in-JumpIf-clause-unstuck c = rw c.in-JumpIf.is (jump_never_stuck c.jump_if.result c.args.limits.now c.args.callers.now c.in-JumpIf.width c.in-JumpIf.condition c.in-JumpIf.dst c.in-JumpIf.src c.in-JumpIf.offset c.args.description.now c.jump_if.ensures.unstuck)

pub returns-in-JumpIf-clause-follows : goal.returns-in-JumpIf-clause-follows
returns-in-JumpIf-clause-follows c = rw c.in-JumpIf.is (jump_goes c.jump_if.result c.args.callers.now c.in-JumpIf.width c.in-JumpIf.condition c.in-JumpIf.dst c.in-JumpIf.src c.in-JumpIf.offset c.args.way c.args.description.now c.jump_if.new.description c.jump_if.ensures.follows)

pub returns-clause-follows : goal.returns-clause-follows
returns-clause-follows c = elim c.match-insn.branch [
  | in-Alu+in_ok-compute-in-Alu w ↦ rw (c.is_taken-2.ensures, w.in-Alu.is, w.description-is) (goes_way c.args.callers.now _ c.args.way c.args.description.now w.compute.new.description (λ m. refl) w.in_ok-compute-in-Alu.ensures.goes)
  | in-InPlace+in_ok-change-in-InPlace w ↦ rw (c.is_taken-2.ensures, w.in-InPlace.is, w.description-is) (goes_way c.args.callers.now _ c.args.way c.args.description.now w.change.new.description (λ m. refl) w.in_ok-change-in-InPlace.ensures.goes)
  | in-SignExtend+in_ok-extend-in-SignExtend w ↦ rw (c.is_taken-2.ensures, w.in-SignExtend.is, w.description-is) (goes_way c.args.callers.now _ c.args.way c.args.description.now w.extend.new.description (λ m. refl) w.in_ok-extend-in-SignExtend.ensures.goes)
  | in-LoadImmediate w ↦ rw (c.is_taken-2.ensures, w.in-LoadImmediate.is, w.description-is) (goes_way c.args.callers.now _ c.args.way c.args.description.now w.load_immediate.new.description (λ m. refl) w.load_immediate.ensures.goes)
  | in-Load+in_ok-load-in-Load w ↦ rw (c.is_taken-2.ensures, w.in-Load.is, w.description-is) (goes_way c.args.callers.now _ c.args.way c.args.description.now w.load.new.description (λ m. refl) (rw (to_z-of_z w16 w.in-Load.offset (search rules)) at w.in_ok-load-in-Load.ensures.goes))
  | in-Call+in_ok-call_function-in-Call w ↦ rw (c.is_taken-2.ensures, w.in-Call.is, w.description-is) (follows_way c.args.callers.now (Call w.in-Call.callee) c.args.way c.args.description.now w.call_function.new.description (λ m. refl) w.in_ok-call_function-in-Call.ensures.follows)
]

pub returns-clause-calls : goal.returns-clause-calls
returns-clause-calls c = λ number call may falls. elim c.match-insn.branch [
  | in-Alu+in_ok-compute-in-Alu w ↦ absurd (let e = w.in-Alu.is in cc)
  | in-InPlace+in_ok-change-in-InPlace w ↦ absurd (let e = w.in-InPlace.is in cc)
  | in-SignExtend+in_ok-extend-in-SignExtend w ↦ absurd (let e = w.in-SignExtend.is in cc)
  | in-LoadImmediate w ↦ absurd (let e = w.in-LoadImmediate.is in cc)
  | in-Load+in_ok-load-in-Load w ↦ absurd (let e = w.in-Load.is in cc)
  | in-Call+in_ok-call_function-in-Call w ↦
      let same : w.in-Call.callee ≡ helper_call number = let e = w.in-Call.is in cc in
      subst (λ (there : Description). LeavesCalled (names.Call c.args.place) c.args.description.now number there) (sym w.description-is) (w.in_ok-call_function-in-Call.ensures.calls number same may)
]
