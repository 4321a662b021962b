use Rattle.std.proofs.Common.{ℕ, List, ap, sym, subst, ◌∙◌}
use Rattle.bpf_machine.specs.RegisterWords.{registers_of, AreRegisters}
use Rattle.bpf_machine.proofs.RegisterLists.{zero_kept}
use Rattle.bpf_machine.proofs.registers.Registers.write_zero.Goals as goal

pub invariant_of-self : goal.invariant_of-self
invariant_of-self c =
    subst (λ (ws : List ℕ). AreRegisters ws c.self.inside.written) (sym (zero_kept c.self.inside.words c.self.inside.written c.self.invariant)) c.self.invariant

pub returns : goal.returns
returns c =
    ap (λ (ws : List ℕ). registers_of ws c.self.inside.written) (zero_kept c.self.inside.words c.self.inside.written c.self.invariant) ∙ c.self.view_is
