use Rattle.std.proofs.Common.{ℕ, List, Option, ◌≡◌, ◌+◌, ◌-◌, map, take, drop, ap, sym, ◌∙◌, arith}
use Rattle.std.proofs.lemmas.List.{take-map}
use Rattle.bpf_stack_frame.specs.Frame.{byte_of}
use Rattle.bpf_stack_frame.specs.FrameBytes.{frame_of}
use Rattle.bpf_stack_frame.proofs.FrameLists.{bytes_from}
use Rattle.bpf_stack_frame.proofs.frame.Frame.bytes.Goals as goal

pub returns : goal.returns
returns c =
    let bytes = c.self.inside.bytes in
    let offset = c.args.offset in
    let many : offset + c.args.count - offset ≡ c.args.count = omega arith in
    ap (λ (n : ℕ). take n (drop offset bytes)) many
    ∙ ap (take c.args.count) (sym (bytes_from bytes c.self.inside.written offset c.self.invariant))
    ∙ take-map byte_of c.args.count (drop offset (frame_of bytes c.self.inside.written))
    ∙ ap (λ (frame : List (Option ℕ)). map byte_of (take c.args.count (drop offset frame))) c.self.view_is
