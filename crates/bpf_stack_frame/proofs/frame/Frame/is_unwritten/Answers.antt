use Rattle.std.proofs.Common.{sym, ◌∙◌}
use Rattle.bpf_stack_frame.proofs.FrameLists.{unwritten_is, unwritten_has}
use Rattle.bpf_stack_frame.proofs.frame.Frame.is_unwritten.Goals as goal

pub returns : goal.returns
returns c =
    let bytes = c.self.inside.bytes in
    let written = c.self.inside.written in (
      λ told. sym c.self.view_is ∙ unwritten_is bytes written c.self.invariant (c.is_empty.ensures.0 told),
      λ none. c.is_empty.ensures.1 (unwritten_has bytes written c.self.invariant (c.self.view_is ∙ none)),
    )
