use Rattle.std.proofs.Common.{◌≤◌, ◌*◌, ◌^◌, ◌+◌, sym, ◌∙◌, arith}
use Rattle.bpf_asm.proofs.Values.{too_great, just_so}
use Rattle.bpf_asm.proofs.number.value_of.Goals as goal

pub returns-in_err-checked_mul : goal.returns-in_err-checked_mul
returns-in_err-checked_mul c =
    let over : 2 ^ 64 ≤ c.loop-byte.value * c.args.radix = omega (arith, c.in_err-checked_mul.ensures) in
    c.from_residual.ensures ∙ sym (too_great c.args.radix c.loop-byte.value _ c.loop-byte.byte-index c.args.digits.now c.requires c.loop-byte-test.true c.loop-byte.invariant.whole (omega (arith, over)))

pub returns-in_err-value : goal.returns-in_err-value
returns-in_err-value c =
    let over : 2 ^ 64 ≤ c.in_ok-checked_mul.field-0 + c.digit.result = omega (arith, c.in_err-value.ensures) in
    c.from_residual-in_err-value.ensures ∙ sym (too_great c.args.radix c.loop-byte.value _ c.loop-byte.byte-index c.args.digits.now c.requires c.loop-byte-test.true c.loop-byte.invariant.whole (omega (arith, over, c.in_ok-checked_mul.ensures, c.digit.ensures)))

pub returns : goal.returns
returns c = just_so c.args.radix c.loop-byte.value _ c.loop-byte.byte-index c.args.digits.now c.loop-byte-test.false c.loop-byte.invariant.fits c.loop-byte.invariant.whole
