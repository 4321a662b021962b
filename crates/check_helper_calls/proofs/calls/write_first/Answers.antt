use Rattle.std.proofs.Common.{◌≡◌, ap, sym, ◌∙◌}
use Rattle.bpf_insn.specs.declared.reg.Reg.TheVariants.{R1}
use Rattle.check_register_kinds.specs.declared.kind.Kind.TheVariants.{Address}
use Rattle.check_register_kinds.specs.declared.region.Region.{Region}
use Rattle.check_register_kinds.specs.declared.region.Region.TheVariants.{Frame}
use Rattle.check_description.specs.Description.{kind_at}
use Rattle.check_helper_calls.proofs.FirstWritten.{known_from, writes_from}
use Rattle.check_helper_calls.proofs.calls.write_first.Goals as goal

pub returns-in-Address-Frame-default-clause-writes : goal.returns-in-Address-Frame-default-clause-writes
returns-in-Address-Frame-default-clause-writes c =
    let frame = c.in-Address-Frame-default.frame in
    let offsets = c.in-Address-Frame-default.offsets in
    let in_frame : kind_at c.args.description.now R1 ≡ Address (Frame frame) offsets = sym c.kind.ensures ∙ c.in-Address-Frame-default.is ∙ ap (λ (region : Region). Address region offsets) c.in-Address-Frame-default.field-0-is in
    writes_from c.args.description.now c.write_in.new.self R1 frame offsets c.args.bytes in_frame c.write_in.ensures.writes

pub returns-in-Address-Frame-default-clause-leaves : goal.returns-in-Address-Frame-default-clause-leaves
returns-in-Address-Frame-default-clause-leaves c =
    let frame = c.in-Address-Frame-default.frame in
    let offsets = c.in-Address-Frame-default.offsets in
    let in_frame : kind_at c.args.description.now R1 ≡ Address (Frame frame) offsets = sym c.kind.ensures ∙ c.in-Address-Frame-default.is ∙ ap (λ (region : Region). Address region offsets) c.in-Address-Frame-default.field-0-is in
    known_from c.args.description.now c.write_in.new.self R1 frame offsets c.args.bytes in_frame c.write_in.ensures.leaves
