use Rattle.std.proofs.Common.{reverse, ap, sym, ◌∙◌}
use Rattle.std.proofs.lemmas.List.{reverse-reverse}
use Rattle.bpf_machine.proofs.open_calls.OpenCalls.is_same.Goals as goal

pub returns : goal.returns
returns c = (
  λ yes. sym c.self.view_is ∙ ap reverse (c.is_same.ensures.0 yes) ∙ c.other.view_is,
  λ same. c.is_same.ensures.1 (sym (reverse-reverse c.self.inside.calls) ∙ ap reverse (c.self.view_is ∙ same ∙ sym c.other.view_is) ∙ reverse-reverse c.other.inside.calls),
)
