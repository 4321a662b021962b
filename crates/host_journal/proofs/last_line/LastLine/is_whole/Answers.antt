use Rattle.std.proofs.Common.{◌∙◌, ◌&&◌, ◌==◌, ℕ, Bool, ap, length, sym}
use Rattle.host_journal.proofs.LastLine.{whole_told}
use Rattle.host_journal.proofs.last_line.LastLine.is_whole.Goals as goal

pub returns-then-self : goal.returns-then-self
returns-then-self c = λ bytes scanned.
    whole_told bytes c.args.self.now.line c.args.self.now.is_long c.args.self.now.is_end _ scanned
    (ap (λ (n : ℕ). n == 0) c.len.ensures.count ∙ sym (ap (λ (b : Bool). b && (length c.args.self.now.line == 0)) c.if-self.true))

pub returns-else-self : goal.returns-else-self
returns-else-self c = λ bytes scanned.
    whole_told bytes c.args.self.now.line c.args.self.now.is_long c.args.self.now.is_end _ scanned (c.if-self.false ∙ sym (ap (λ (b : Bool). b && (length c.args.self.now.line == 0)) c.if-self.false))
