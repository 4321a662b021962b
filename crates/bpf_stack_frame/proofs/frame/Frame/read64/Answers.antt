use Rattle.std.proofs.Common.{ℕ, List, Option, ap, ◌∙◌}
use Rattle.bpf_stack_frame.specs.Frame.{word_at}
use Rattle.bpf_stack_frame.proofs.FrameLists.{word_kept}
use Rattle.bpf_stack_frame.proofs.frame.Frame.read64.Goals as goal

pub returns : goal.returns
returns c =
    c.read_u64.ensures
    ∙ word_kept c.self.inside.bytes c.self.inside.written c.args.offset 8 c.self.invariant
    ∙ ap (λ (frame : List (Option ℕ)). word_at 8 c.args.offset frame) c.self.view_is
