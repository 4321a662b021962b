use Rattle.std.proofs.Common.{sym, ap, ◌∙◌}
use Rattle.bpf_semantics.specs.MachineState.{OpenCall}
use Rattle.bpf_machine.proofs.Same.{saved_decide}
use Rattle.bpf_machine.proofs.open_calls.OpenCallBlank.is_same.Goals as goal

pub returns-then-self-other : goal.returns-then-self-other
returns-then-self-other c =
    let decides = saved_decide c.self.inside.saved c.other.inside.saved in (
      λ yes. sym c.self.view_is ∙ (λ i. record { return_pc = c.if-self-other.true i; saved = decides.0 (sym c.eq.ensures ∙ yes) i }) ∙ c.other.view_is,
      λ same. c.eq.ensures ∙ decides.1 (ap (λ (call : OpenCall). call.saved) (c.self.view_is ∙ same ∙ sym c.other.view_is)),
    )
