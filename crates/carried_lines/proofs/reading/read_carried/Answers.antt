use Rattle.std.proofs.Common.{sym, ◌∙◌}
use Rattle.carried_lines.proofs.Whole.{kind_reads, no_kind_reads}
use Rattle.carried_lines.proofs.reading.read_carried.Goals as goal

pub returns-in_err-kind : goal.returns-in_err-kind
returns-in_err-kind c =
    rw c.from_residual.ensures (no_kind_reads c.args.version c.args.text.now c.first_word.result.0.now c.first_word.result.1.now c.first_word.ensures (sym c.named.ensures ∙ c.in_err-kind.was))

pub returns : goal.returns
returns c =
    kind_reads c.args.version c.args.text.now c.first_word.result.0.now c.first_word.result.1.now c.first_word.ensures c.in_ok-kind.kind (sym c.named.ensures ∙ c.in_ok-kind.was)
    c.read_fields.result c.read_fields.ensures
