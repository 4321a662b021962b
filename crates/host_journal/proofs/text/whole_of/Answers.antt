use Rattle.std.proofs.Common.{ℕ, arith, subst, sym}
use Rattle.std.specs.Str.{IsValidUpTo}
use Rattle.host_journal.proofs.Utf8.{cut_there, is_bad}
use Rattle.host_journal.proofs.text.whole_of.Goals as goal

pub returns-then-bytes-whole-lt-CHARACTER : goal.returns-then-bytes-whole-lt-CHARACTER
returns-then-bytes-whole-lt-CHARACTER c =
    cut_there c.args.bytes.now c.valid_up_to-whole.result (subst (λ (n : ℕ). IsValidUpTo c.args.bytes.now n) (sym c.valid_up_to-whole.ensures) c.in-Err.ensures.cases.1) c.if-bytes-whole-lt-CHARACTER.true

pub returns-else-bytes-whole-lt-CHARACTER : goal.returns-else-bytes-whole-lt-CHARACTER
returns-else-bytes-whole-lt-CHARACTER c =
    let valid = subst (λ (n : ℕ). IsValidUpTo c.args.bytes.now n) (sym c.valid_up_to-whole.ensures) c.in-Err.ensures.cases.1 in
    is_bad c.args.bytes.now c.valid_up_to-whole.result valid (omega (arith, valid.short, c.if-bytes-whole-lt-CHARACTER.false))
