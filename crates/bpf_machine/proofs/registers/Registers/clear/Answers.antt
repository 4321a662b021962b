use Rattle.std.proofs.Common.{◌≡◌, ℕ, List, Option, None, false, refl, ap, ◌∙◌}
use Rattle.std.specs.Prelude.{slice_set}
use Rattle.bpf_insn.specs.Reg.{number_of}
use Rattle.bpf_machine.specs.RegisterWords.{registers_of}
use Rattle.bpf_machine.proofs.RegisterLists.{set_written, set_kept}
use Rattle.bpf_machine.proofs.registers.Registers.clear.Goals as goal

pub invariant_of-self : goal.invariant_of-self
invariant_of-self c =
    set_kept c.self.inside.words c.self.inside.written c.from-index.result 0 false (rw (c.from-index.ensures) c.number.ensures.in_range) refl c.self.invariant

pub returns : goal.returns
returns c =
    let words = c.self.inside.words in
    let written = c.self.inside.written in
    let index : c.from-index.result ≡ number_of c.args.reg = c.from-index.ensures ∙ c.number.ensures.value in
    set_written words written c.from-index.result 0 false
    ∙ (ap (λ (k : ℕ). slice_set (registers_of words written) k (None)) index
    ∙ ap (λ (rs : List (Option ℕ)). slice_set rs (number_of c.args.reg) (None)) c.self.view_is)
