-- The static paths of programs, worked out by hand. In the first there are seven instructions where the freeze is given
-- back, and five where there is none.
use Rattle.std.proofs.Common.{◌≡◌, ℕ, suc, ◌+◌, List, [], ◌∷◌, refl, ap, inl, inr, arith, ◌∙◌}
use Rattle.std.specs.Prelude.{pos}
use Rattle.bpf_insn.specs.declared.insn.Insn.{Insn}
use Rattle.bpf_insn.specs.declared.insn.Insn.TheVariants.{Alu, JumpIf, Jump, Call, Exit}
use Rattle.bpf_insn.specs.declared.insn.Operand.TheVariants.{Immediate, Register}
use Rattle.bpf_insn.specs.declared.insn.Callee.TheVariants.{Helper, Local}
use Rattle.bpf_insn.specs.declared.insn.Distance.TheVariants.{Near}
use Rattle.bpf_insn.specs.declared.insn.Width.TheVariants.{Bits64}
use Rattle.bpf_insn.specs.declared.insn.AluOp.TheVariants.{Mov}
use Rattle.bpf_insn.specs.declared.insn.Condition.TheVariants.{Equal}
use Rattle.bpf_insn.specs.declared.reg.Reg.TheVariants.{R0, R1, R2}
use Rattle.bpf_insn.specs.declared.program.Slot.{Slot}
use Rattle.bpf_insn.specs.Program.{layout}
use Rattle.call_shape.specs.StaticPath.{outermost, StaticPath}
use Rattle.call_shape.specs.WrittenOut.{written_out, IsWrittenOut}
use Rattle.call_shape.proofs.Paths.{HasPath}

abbrev skip : Insn
skip = JumpIf Bits64 Equal R2 (Immediate (pos 0)) (pos 2)

abbrev argument : Insn
argument = Alu Bits64 Mov R1 (Register R2)

abbrev retries : Insn
retries = Alu Bits64 Mov R1 (Immediate (pos 1))

abbrev answer : Insn
answer = Alu Bits64 Mov R0 (Immediate (pos 0))

abbrev release : Insn
release = Call (Helper (pos 2))

abbrev requeue : Insn
requeue = Call (Helper (pos 4))

abbrev two_paths : List Slot
two_paths = layout (skip ∷ argument ∷ release ∷ retries ∷ requeue ∷ answer ∷ Exit ∷ [])

-- the last four
last_four : StaticPath two_paths (outermost 3) 4
last_four = (retries, refl, inr (outermost 4, refl, (requeue, refl, inr (outermost 5, refl, (answer, refl, inr (outermost 6, refl, (Exit, refl, inl ((refl, refl), refl))))))))

seven : StaticPath two_paths (outermost 0) 7
seven = (skip, refl, inr (outermost 1, inl refl, (argument, refl, inr (outermost 2, refl, (release, refl, inr (outermost 3, refl, last_four))))))

five : StaticPath two_paths (outermost 0) 5
five = (skip, refl, inr (outermost 3, inr refl, last_four))

-- a jump to the next instruction counts as any other
abbrev to_next : List Slot
to_next = layout (Jump (Near (pos 0)) ∷ Exit ∷ [])

two : StaticPath to_next (outermost 0) 2
two = (Jump (Near (pos 0)), refl, inr (outermost 1, refl, (Exit, refl, inl ((refl, refl), refl))))

-- a function of two instructions that is called twice
abbrev calls_twice : List Slot
calls_twice = layout (Call (Local (pos 2)) ∷ Call (Local (pos 1)) ∷ Exit ∷ answer ∷ Exit ∷ [])

-- it counts twice, and is the second frame each time
counts_twice : HasPath calls_twice (outermost 0) 7 2
counts_twice = (
  (
    Call (Local (pos 2)),
    refl,
    inr (
      record { slot = 3; returns = 1 ∷ [] },
      refl,
      (
        answer,
        refl,
        inr (
          record { slot = 4; returns = 1 ∷ [] },
          refl,
          (
            Exit,
            refl,
            inr (
              outermost 1,
              refl,
              (
                Call (Local (pos 1)),
                refl,
                inr (
                  record { slot = 3; returns = 2 ∷ [] },
                  refl,
                  (
                    answer,
                    refl,
                    inr (
                      record { slot = 4; returns = 2 ∷ [] },
                      refl,
                      (
                        Exit,
                        refl,
                        inr (
                          outermost 2,
                          refl,
                          (
                            Exit,
                            refl,
                            inl ((refl, refl), refl),
                          ),
                        ),
                      ),
                    ),
                  ),
                ),
              ),
            ),
          ),
        ),
      ),
    ),
  ),
  refl,
)

written_out_twice : IsWrittenOut calls_twice 0 7
written_out_twice = record {
  depth = 2;
  settled = λ more. ap (λ (deep : ℕ). written_out deep calls_twice 0) (let e : 2 + more ≡ suc (suc more) = omega arith in e) ∙ refl;
}
