use Rattle.std.proofs.Common.{◌≤◌, ◌^◌, get_or, arith, lit<}
use Rattle.std.proofs.Math.Nat.{pow-le-pow_right}
use Rattle.std.specs.Char.{is_ascii_digit}
use Rattle.host_journal.proofs.Numbers.{all_at, digit_fits}
use Rattle.host_journal.proofs.names.value_of.Goals as goal

pub overflow_mul-value : goal.overflow_mul-value
overflow_mul-value c =
    let few : c.loop-digit.digit-index ≤ 17 = omega (arith, c.requires.few) in
    let most : 10 ^ c.loop-digit.digit-index ≤ 10 ^ 17 = pow-le-pow_right (lit< tt) few in
    omega (arith, c.loop-digit.invariant.small, most)

pub overflow_add-value : goal.overflow_add-value
overflow_add-value c =
    let few : c.loop-digit.digit-index ≤ 17 = omega (arith, c.requires.few) in
    let most : 10 ^ c.loop-digit.digit-index ≤ 10 ^ 17 = pow-le-pow_right (lit< tt) few in
    let digit = digit_fits (get_or c.args.digits.now c.loop-digit.digit-index 0) (all_at is_ascii_digit c.args.digits.now c.loop-digit.digit-index 0 c.requires.each c.loop-digit-test.true) in
    omega (arith, c.loop-digit.invariant.small, most, digit.1)
