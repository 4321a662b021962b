use Rattle.std.proofs.Common.{ℕ, ◌≡◌, ◌-◌, min, length, arith, ap, ◌∙◌}
use Rattle.call_shape.specs.Calls.{function_of}
use Rattle.call_shape.proofs.SlotFunctions.{function_clamped}
use Rattle.call_shape.proofs.functions.function_at.Goals as goal

pub returns : goal.returns
returns c =
    let program = c.args.program.now in
    let clamped : c.min.result ≡ min c.args.slot (length program - 1) = c.min.ensures ∙ ap (λ (n : ℕ). min c.args.slot (n - 1)) c.len.ensures.slots in
    c.from.ensures ∙ c.requires.each c.min.result (omega (arith, clamped, c.len.ensures.program.in_range.0))
    ∙ ap (function_of program) clamped ∙ function_clamped program c.args.slot (omega (arith, c.len.ensures.program.in_range.0))
