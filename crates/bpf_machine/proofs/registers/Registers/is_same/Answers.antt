use Rattle.std.proofs.Common.{ap, ap₂, sym, ◌∙◌}
use Rattle.bpf_machine.specs.RegisterWords.{registers_of, written_of}
use Rattle.bpf_machine.proofs.Same.{written_decide}
use Rattle.bpf_machine.proofs.registers.Registers.is_same.Goals as goal

pub returns-then-same_words : goal.returns-then-same_words
returns-then-same_words c =
    let decides = written_decide c.self.inside.written c.other.inside.written in (
      λ yes. sym c.self.view_is ∙ (ap₂ registers_of (c.same_words.ensures.0 c.if-same_words.true) (decides.0 (sym c.eq.ensures ∙ yes)) ∙ c.other.view_is),
      λ same. c.eq.ensures ∙ decides.1 (sym c.self.invariant.same_written ∙ (ap written_of (c.self.view_is ∙ (same ∙ sym c.other.view_is)) ∙ c.other.invariant.same_written)),
    )
