use Rattle.std.proofs.Common.{◌≡◌, ℕ, ◌+◌, ◌≤◌, true, subst, sym, refl, ap, arith}
use Rattle.std.specs.Prelude.{is_some}
use Rattle.stack_domain.specs.Stack.{IsWritten}
use Rattle.bpf_semantics.specs.Frames.{has_written}
use Rattle.check_description.proofs.Reading.{in_frame}
use Rattle.check_helper_calls.proofs.Tracing.{some_same}
use Rattle.check_helper_calls.proofs.arguments.check_written.Goals as goal

pub returns-else-may_be_spilled-clause-bytes : goal.returns-else-may_be_spilled-clause-bytes
returns-else-may_be_spilled-clause-bytes c = λ numbers callers m address bytes is holds counts.
    let inside = c.if-not-lies_in.ensures.inside refl in
    let here = some_same address holds.0 holds.1 in
    let count = some_same bytes counts.0 counts.1 in
    let few = c.most-bytes.ensures.bound counts.0 counts.2 in
    let are = c.is_written.ensures.0 c.if-not-is_written.false in
    let fits : c.args.offsets.most + bytes ≤ 512 = omega (arith, inside, count, few) in
    let found = in_frame numbers callers c.args.description.now m c.args.frame c.args.offsets holds.0 bytes is (c.if-not-lies_in.ensures.live refl) holds.2 fits
    (λ frames covers at from to.
    subst (λ (k : ℕ). IsWritten frames k at) c.from.ensures
    (are frames covers at (omega (arith, from, c.from-least.ensures)) (omega (arith, to, c.from-most.ensures, count, few)))) in
    subst (λ (a : ℕ). has_written 0 m.frames a bytes ≡ true) (sym here) (ap is_some found.are)
