use Rattle.std.proofs.Common.{◌≡◌, ◌≤◌, ℕ, List, Option, Some, None, true, false, is_some, length, map, take, drop, arith, ap, sym, ◌∙◌}
use Rattle.std.proofs.lemmas.List.{length-map, length-take}
use Rattle.bpf_stack_frame.specs.Frame.{all_written, byte_of}
use Rattle.bpf_semantics.specs.Calls.{traced}
use Rattle.bpf_machine.specs.Unchecked.{frame_at}
use Rattle.bpf_machine.specs.Inside.{view_of}
use Rattle.bpf_semantics.specs.MachineState.{MachineState}
use Rattle.bpf_machine.proofs.FrameCalls.{some_is, traced_nowhere, traced_there, traced_unwritten}
use Rattle.bpf_machine.proofs.FramePlaces.{bytes_at}
use Rattle.bpf_machine.proofs.machine.Machine.traced.Goals as goal

pub returns-in_err-place : goal.returns-in_err-place
returns-in_err-place c =
    let m = view_of c.self.inside in
    let nowhere : traced m c.args.address c.args.bytes ≡ None =
    traced_nowhere m c.args.address c.args.bytes (omega arith) (omega arith) (sym c.in_frames.ensures.value ∙ c.in_err-place.was) in
    c.from_residual.ensures ∙ sym nowhere ∙ ap (λ (n : MachineState). traced n c.args.address c.args.bytes) c.self.view_is

pub returns-then-not-has_written : goal.returns-then-not-has_written
returns-then-not-has_written c =
    let m = view_of c.self.inside in
    let place = c.in_ok-place.place in
    let lies = sym c.in_frames.ensures.value ∙ c.in_ok-place.was in
    let none : is_some (all_written (bytes_at m.frames c.args.bytes place)) ≡ false =
    ap (λ (frame : List (Option ℕ)). is_some (all_written (take c.args.bytes (drop place.offset frame)))) (sym c.frame-frame.ensures) ∙ sym c.has_written.ensures ∙ c.if-not-has_written.true in
    sym (traced_unwritten m c.args.address c.args.bytes (omega arith) (omega arith) place lies none) ∙ ap (λ (n : MachineState). traced n c.args.address c.args.bytes) c.self.view_is

pub returns : goal.returns
returns c =
    let m = view_of c.self.inside in
    let place = c.in_ok-place.place in
    let bytes = bytes_at m.frames c.args.bytes place in
    let lies = sym c.in_frames.ensures.value ∙ c.in_ok-place.was in
    let written : is_some (all_written bytes) ≡ true =
    ap (λ (frame : List (Option ℕ)). is_some (all_written (take c.args.bytes (drop place.offset frame)))) (sym c.frame-frame.ensures) ∙ sym c.has_written.ensures ∙ c.if-not-has_written.false in
    let there : traced m c.args.address c.args.bytes ≡ Some (map byte_of bytes) =
    traced_there m c.args.address c.args.bytes (omega arith) (omega arith) place lies written in
    let are : c.bytes.result.now ≡ map byte_of bytes =
    c.bytes.ensures ∙ ap (λ (frame : List (Option ℕ)). map byte_of (take c.args.bytes (drop place.offset frame))) c.frame-frame.ensures in
    let few : length c.bytes.result.now ≤ 64 = omega (arith, ap length are, length-map bytes byte_of, length-take c.args.bytes (drop place.offset (frame_at m.frames place.frame))) in
    some_is c.new.result (length c.bytes.result.now ≤ 64) c.bytes.result.now few c.new.ensures
    ∙ ap Some are ∙ sym there ∙ ap (λ (n : MachineState). traced n c.args.address c.args.bytes) c.self.view_is
