use Rattle.std.proofs.Common.{◌∙◌, sym, refl, arith}
use Rattle.std.proofs.lemmas.List.{take_all}
use Rattle.trace_lines.proofs.Putting.{one_more, all_put}
use Rattle.trace_lines.proofs.printing.print_bytes.Goals as goal

pub loop-byte-preserved : goal.loop-byte-preserved
loop-byte-preserved c = record {
  put = one_more c.args.bytes.now c.loop-byte.byte-index _ _ _ _ c.loop-byte-test.true refl c.loop-byte.invariant.put c.print_byte.ensures.text;
  few = omega (arith, c.print_byte.ensures.few);
}

pub returns-clause-text : goal.returns-clause-text
returns-clause-text c =
    let whole = rw (take_all c.loop-byte.byte-index c.args.bytes.now c.loop-byte-test.false) at c.loop-byte.invariant.put in
    all_put c.args.bytes.now _ _ (sym c.is_empty.ensures ∙ c.if-is_empty.false) c.if-bytes-gt-MOST_BYTES.false c.type_inv.bytes whole
