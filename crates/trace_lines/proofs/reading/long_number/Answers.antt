use Rattle.std.proofs.Common.{◌∙◌, sym, lit≤}
use Rattle.trace_lines.proofs.Decimals.{is_read, not_read}
use Rattle.trace_lines.proofs.reading.long_number.Goals as goal

pub returns-then-not-is_decimal : goal.returns-then-not-is_decimal
returns-then-not-is_decimal c = not_read 64 c.args.word.now (lit≤ tt) (sym c.is_decimal.ensures ∙ c.if-not-is_decimal.true)

pub returns : goal.returns
returns c = rw c.ok.ensures.value (is_read 64 c.args.word.now c.parse.result (lit≤ tt) (sym c.is_decimal.ensures ∙ c.if-not-is_decimal.false) c.parse.ensures.value.0)
