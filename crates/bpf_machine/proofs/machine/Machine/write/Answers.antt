use Rattle.std.proofs.Common.{◌≡◌, List, Option, ℕ, ap, sym, subst, ◌∙◌}
use Rattle.bpf_machine.specs.Inside.{view_of}
use Rattle.bpf_semantics.specs.MachineState.{MachineState}
use Rattle.bpf_semantics.specs.Step.{frames_after}
use Rattle.bpf_machine.specs.Unchecked.{with_bytes_there}
use Rattle.bpf_machine.proofs.FrameCalls.{written_is}
use Rattle.bpf_machine.proofs.machine.Machine.write.Goals as goal

pub returns-in-Some-in_frames : goal.returns-in-Some-in_frames
returns-in-Some-in_frames c =
    let frames : List (List (Option ℕ)) = c.self.inside.frames in
    let there : frames_after frames c.args.written.now ≡ c.write_bytes.new.self =
    ap (frames_after frames) c.in-Some.is ∙ written_is frames c.in-Some.written
    ∙ ap (with_bytes_there c.in-Some.written.bytes frames) (sym c.in_frames.ensures.value ∙ c.in-Some-in_frames.is) ∙ sym c.write_bytes.ensures in
    ap (λ (fs : List (List (Option ℕ))). record (view_of c.self.inside) { frames = fs }) (sym there)
    ∙ ap (λ (m : MachineState). record m { frames = frames_after m.frames c.args.written.now }) c.self.view_is

pub returns-in_default-in_frames : goal.returns-in_default-in_frames
returns-in_default-in_frames c =
    let frames : List (List (Option ℕ)) = c.self.inside.frames in
    let nowhere : frames_after frames c.args.written.now ≡ frames =
    ap (frames_after frames) c.in-Some.is ∙ written_is frames c.in-Some.written
    ∙ ap (with_bytes_there c.in-Some.written.bytes frames) (sym c.in_frames.ensures.value ∙ c.in_default-in_frames.is) in
    subst (λ (m : MachineState). m ≡ record m { frames = frames_after m.frames c.args.written.now }) c.self.view_is
    (ap (λ (fs : List (List (Option ℕ))). record (view_of c.self.inside) { frames = fs }) (sym nowhere))
