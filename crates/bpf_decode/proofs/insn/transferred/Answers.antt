use Rattle.std.proofs.Common.{◌≡◌, subst, rules, Option, false}
use Rattle.std.specs.Int.{w32}
use Rattle.std.proofs.lemmas.Int.{to_z-of_z}
use Rattle.bpf_decode.specs.declared.fields.Fields.{Fields}
use Rattle.bpf_decode.specs.declared.transfer.Transfer.{Transfer}
use Rattle.bpf_decode.specs.FieldTests.{has_unused_field}
use Rattle.bpf_decode.specs.Kinds.{IsTransfer}
use Rattle.bpf_decode.proofs.KindRows.{constant_rows}
use Rattle.bpf_decode.proofs.insn.transferred.Goals as goal

pub returns-in-Some : goal.returns-in-Some
returns-in-Some c =
    let kind = subst (λ (k : Transfer). IsTransfer c.args.fields.now k) c.in-Constant.is c.requires.kind in
    let unused = subst (λ (b : Option Fields). has_unused_field c.args.fields.now b ≡ false) c.in-Some.is c.requires.used in
    rw (c.word.ensures, to_z-of_z w32 c.args.fields.now.imm (search rules), to_z-of_z w32 c.in-Some.second.imm (search rules), c.in-Some.is)
    (constant_rows c.args.fields.now c.in-Some.second c.args.dst kind (search rules) (search rules) c.requires.dst unused)
