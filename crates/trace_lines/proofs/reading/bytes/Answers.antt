use Rattle.std.proofs.Common.{arith, sym, ◌∙◌, ◌≡◌, ◌==◌, true, false, length, take, inl, inr, length-take-le, length-set}
use Rattle.std.proofs.lemmas.Bool.Decides.{nat_tests}
use Rattle.trace_lines.proofs.SensePairs.{first_fails, second_fails, one_pair, too_many, no_digit, nothing_whole, whole}
use Rattle.trace_lines.proofs.reading.bytes.Goals.{then-count-eq-MOST_BYTES-via-then-count-eq-MOST_BYTES, then-count-eq-MOST_BYTES-via-else-count-eq-MOST_BYTES+then-not-is_digit, then-count-eq-MOST_BYTES-via-else-count-eq-MOST_BYTES+else-not-is_digit+then-not-is_digit-2}
use Rattle.trace_lines.proofs.reading.bytes.Goals.{then-count-eq0-via-then-count-eq0, then-count-eq0-via-else-count-eq0+then-not-is_empty}
use Rattle.trace_lines.proofs.reading.bytes.Goals as goal

pub returns-then-count-eq-MOST_BYTES : goal.returns-then-count-eq-MOST_BYTES
returns-then-count-eq-MOST_BYTES c = elim c.then-count-eq-MOST_BYTES.branch [
  | then-count-eq-MOST_BYTES-via-then-count-eq-MOST_BYTES w ↦
      let all : length (take c.loop-rest.count c.loop-rest.bytes) ≡ c.loop-rest.count = length-take-le c.loop-rest.count c.loop-rest.bytes (omega arith) in
      too_many c.args.word.now _ c.loop-rest.rest.now c.loop-rest.invariant.read (omega arith) (omega arith)
  | then-count-eq-MOST_BYTES-via-else-count-eq-MOST_BYTES+then-not-is_digit w ↦
      no_digit c.args.word.now _ c.loop-rest.rest.now c.loop-rest.invariant.read c.in-len2-up.len_at_least (first_fails _ _ (sym w.is_digit.ensures ∙ w.if-not-is_digit.true))
  | then-count-eq-MOST_BYTES-via-else-count-eq-MOST_BYTES+else-not-is_digit+then-not-is_digit-2 w ↦
      no_digit c.args.word.now _ c.loop-rest.rest.now c.loop-rest.invariant.read c.in-len2-up.len_at_least (second_fails _ _ (sym w.is_digit-else-not-is_digit.ensures ∙ w.if-not-is_digit-2.true))
]

pub loop-rest-preserved : goal.loop-rest-preserved
loop-rest-preserved c = record {
  room = length-set c.loop-rest.bytes c.loop-rest.count c.pair.result ∙ c.loop-rest.invariant.room;
  few = omega arith;
  read = one_pair c.args.word.now c.loop-rest.bytes c.loop-rest.rest.now c.loop-rest.count c.pair.result (omega arith) c.in-len2-up.len_at_least
      (sym c.is_digit.ensures ∙ c.if-not-is_digit.false) (sym c.is_digit-else-not-is_digit.ensures ∙ c.if-not-is_digit-2.false) c.pair.ensures c.loop-rest.invariant.read;
}

pub returns-then-count-eq0 : goal.returns-then-count-eq0
returns-then-count-eq0 c = elim c.then-count-eq0.branch [
  | then-count-eq0-via-then-count-eq0 w ↦
      let all : length (take c.loop-rest.count c.loop-rest.bytes) ≡ c.loop-rest.count = length-take-le c.loop-rest.count c.loop-rest.bytes (omega arith) in
      nothing_whole c.args.word.now _ c.loop-rest.rest.now c.loop-rest.invariant.read c.in_default.len_below (inl (omega arith))
  | then-count-eq0-via-else-count-eq0+then-not-is_empty w ↦
      let left : (length c.loop-rest.rest.now == 0) ≡ false = sym w.is_empty.ensures ∙ w.if-not-is_empty.true in
      nothing_whole c.args.word.now _ c.loop-rest.rest.now c.loop-rest.invariant.read c.in_default.len_below (inr (grind (arith, nat_tests)))
]

pub returns : goal.returns
returns c =
    let all : length (take c.loop-rest.count c.loop-rest.bytes) ≡ c.loop-rest.count = length-take-le c.loop-rest.count c.loop-rest.bytes (omega arith) in
    let ended : (length c.loop-rest.rest.now == 0) ≡ true = sym c.is_empty.ensures ∙ c.if-not-is_empty.false in
    let none : length c.loop-rest.rest.now ≡ 0 = grind (arith, nat_tests) in
    whole c.args.word.now (take c.loop-rest.count c.loop-rest.bytes) c.loop-rest.rest.now c.new.result c.loop-rest.invariant.read none (omega arith) (omega arith) c.new.ensures
