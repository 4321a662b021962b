use Rattle.std.proofs.Common.{subst, rules}
use Rattle.std.specs.Int.{w16}
use Rattle.std.proofs.lemmas.Int.{to_z-of_z}
use Rattle.bpf_decode.specs.declared.kind.Kind.{Kind}
use Rattle.bpf_decode.specs.Kinds.{IsKind}
use Rattle.bpf_decode.proofs.KindRows.{alu_row, jump_row}
use Rattle.bpf_decode.proofs.insn.spelled.Goals as goal

pub returns-in-Alu : goal.returns-in-Alu
returns-in-Alu c =
    let kind = subst (λ (k : Kind). IsKind c.args.fields.now k) c.in-Alu.is c.requires.kind in
    rw c.operand-operand.ensures (alu_row c.args.fields.now c.args.behind.now c.in-Alu.width c.in-Alu.op c.args.dst c.args.src kind c.requires.dst c.requires.src c.requires.used c.requires.form, tt, tt)

pub returns-in-JumpIf : goal.returns-in-JumpIf
returns-in-JumpIf c =
    let kind = subst (λ (k : Kind). IsKind c.args.fields.now k) c.in-JumpIf.is c.requires.kind in
    rw (c.operand-operand.ensures, to_z-of_z w16 c.args.fields.now.offset (search rules)) (jump_row c.args.fields.now c.args.behind.now c.in-JumpIf.width c.in-JumpIf.condition c.args.dst c.args.src kind c.requires.dst c.requires.src c.requires.used, tt, tt)
