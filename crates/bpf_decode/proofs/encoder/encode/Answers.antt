use Rattle.std.proofs.Common.{arith, sym, ◌∙◌, ap}
use Rattle.std.proofs.lemmas.List.{take_all}
use Rattle.bpf_insn.specs.Program.{insns_in}
use Rattle.bpf_decode.proofs.Encoding.{written, nothing_written}
use Rattle.bpf_decode.proofs.encoder.encode.Goals.{in-Some+in_ok-push, in_default}
use Rattle.bpf_decode.proofs.encoder.encode.Goals as goal

pub loop-place-preserved : goal.loop-place-preserved
loop-place-preserved c = elim c.match-fetch.branch [
  | in-Some+in_ok-push w ↦ rw w.bytes-is (record {
    in_a_row = written c.loop-place.bytes.items w.push.new.bytes.items c.args.program.now c.loop-place.place w.in-Some.insn (sym w.in-Some.ensures.value)
        c.loop-place.invariant.in_a_row w.in_ok-push.ensures.spelled;
    are_bytes = w.in_ok-push.ensures.bytes;
  })
  | in_default w ↦ rw w.bytes-is (record {
    in_a_row = nothing_written c.loop-place.bytes.items c.args.program.now c.loop-place.place (sym c.fetch.ensures.value ∙ w.in_default.is) c.loop-place.invariant.in_a_row;
    are_bytes = c.loop-place.invariant.are_bytes;
  })
]

pub returns : goal.returns
returns c = record {
  is_program = c.len-slots.ensures.program;
  are_bytes = c.loop-place.invariant.are_bytes;
  in_a_row = rw (ap insns_in (take_all c.loop-place.place c.args.program.now (omega arith))) at c.loop-place.invariant.in_a_row;
}
