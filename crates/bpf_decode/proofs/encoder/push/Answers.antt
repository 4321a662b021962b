use Rattle.std.proofs.Common.{◌∙◌, append_assoc}
use Rattle.bpf_decode.proofs.Encoding.{one_slot, two_slots}
use Rattle.bpf_decode.proofs.encoder.push.Goals as goal

pub returns-in_default-clause-spelled : goal.returns-in_default-clause-spelled
returns-in_default-clause-spelled c = rw c.in_ok-extend_from_slice.ensures.items
    (one_slot c.args.bytes.now.items c.to_bytes.result c.args.insn (c.to_bytes.ensures.fields ∙ c.row.ensures.0) c.to_bytes.ensures.slot c.in_default.ensures.none c.in_default.ensures.word)

pub returns-in_ok-extend_from_slice-2-clause-spelled : goal.returns-in_ok-extend_from_slice-2-clause-spelled
returns-in_ok-extend_from_slice-2-clause-spelled c = rw (c.in_ok-extend_from_slice-2.ensures.items, c.in_ok-extend_from_slice.ensures.items, append_assoc)
    (two_slots c.args.bytes.now.items c.to_bytes.result c.to_bytes-in-Some.result c.in-Some.second c.args.insn
    (c.to_bytes.ensures.fields ∙ c.row.ensures.0) c.to_bytes.ensures.slot c.to_bytes-in-Some.ensures.fields c.to_bytes-in-Some.ensures.slot c.in-Some.ensures.some c.in-Some.ensures.word)
