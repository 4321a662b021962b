-- Where src is not 0: the quotient of the signed words.
use Rattle.std.proofs.Common.{arith}
use Rattle.std.specs.Int.{w64}
use Rattle.bpf_words.proofs.SignedWords.{quotient_is, chosen}
use Rattle.bpf_words.proofs.words64.signed_quotient.Goals as goal

pub returns-else-src-eq0 : goal.returns-else-src-eq0
returns-else-src-eq0 c =
    chosen w64 c.args.src _ c.cast_unsigned.result (omega arith) c.if-src-eq0.false
    (quotient_is w64 c.args.dst c.args.src c.cast_unsigned.result c.cast_signed.result c.cast_signed-else-src-eq0.result c.wrapping_div.result (omega arith)
    (record { sfits = c.cast_signed.type_inv }) (record { sfits = c.cast_signed-else-src-eq0.type_inv }) (record { sfits = c.wrapping_div.type_inv })
    c.cast_signed.ensures c.cast_signed-else-src-eq0.ensures c.wrapping_div.ensures c.cast_unsigned.ensures)
