use Rattle.std.proofs.Common.{ℕ, List, Option, ap, ◌∙◌}
use Rattle.bpf_stack_frame.specs.Frame.{word_at}
use Rattle.bpf_stack_frame.proofs.FrameLists.{word_kept}
use Rattle.bpf_stack_frame.proofs.frame.Frame.read16.Goals as goal

pub returns : goal.returns
returns c =
    c.from.ensures ∙ c.read_u16.ensures
    ∙ word_kept c.self.inside.bytes c.self.inside.written c.args.offset 2 c.self.invariant
    ∙ ap (λ (frame : List (Option ℕ)). word_at 2 c.args.offset frame) c.self.view_is
