use Rattle.std.proofs.Common.{◌≡◌, subst, sym, ◌∙◌, arith}
use Rattle.bpf_semantics.specs.Reached.{Safe}
use Rattle.verifier.proofs.Within.{safe_within}
use Rattle.verifier.proofs.verification.accept.Goals as goal

pub new-requires : goal.new-requires
new-requires g c =
    let shape = c.args.shape.now in
    let known = c.program.ensures in
    let same : c.in_ok-program.program ≡ shape = c.in_ok-program.ensures ∙ known.value in
    let safe : Safe shape c.args.limits.now = c.in_ok-visits.ensures.safe in
    rw same (record {
      is_program = known.program;
      safe = subst (Safe shape) (sym c.in_ok-limits.ensures) safe;
      within = safe_within c.args.limits.now shape c.in_ok-budget.budget known.program known.lawful safe c.in_ok-budget.ensures.longest;
      few_instructions = c.in_ok-budget.ensures.within;
      some_frames = c.frames.ensures.some;
      few_frames = c.frames.ensures.shallow;
      some_visits = omega (arith, c.in_ok-visits.ensures.visits.some);
      few_visits = omega (arith, c.in_ok-visits.ensures.short);
    })
