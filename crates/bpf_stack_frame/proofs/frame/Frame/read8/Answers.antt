use Rattle.std.proofs.Common.{ℕ, List, Option, ap, ◌∙◌}
use Rattle.bpf_stack_frame.specs.Frame.{word_at}
use Rattle.bpf_stack_frame.proofs.FrameLists.{byte_kept}
use Rattle.bpf_stack_frame.proofs.frame.Frame.read8.Goals as goal

pub returns : goal.returns
returns c =
    c.from.ensures
    ∙ byte_kept c.self.inside.bytes c.self.inside.written c.args.offset c.self.invariant
    ∙ ap (λ (frame : List (Option ℕ)). word_at 1 c.args.offset frame) c.self.view_is
