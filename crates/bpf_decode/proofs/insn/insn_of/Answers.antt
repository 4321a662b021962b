use Rattle.std.proofs.Common.{sym, ap, ◌∙◌}
use Rattle.bpf_decode.specs.FieldTests.{writes_frame_pointer}
use Rattle.bpf_decode.proofs.Rows.{writes_in_row}
use Rattle.bpf_decode.proofs.insn.insn_of.Goals as goal

pub returns-clause-spares : goal.returns-clause-spares
returns-clause-spares c =
    sym (writes_in_row c.spelled.result) ∙ sym (ap writes_frame_pointer c.spelled.ensures.0) ∙ sym c.writes_frame_pointer.ensures ∙ c.if-writes_frame_pointer.false
