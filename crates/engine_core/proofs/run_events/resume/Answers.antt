use Rattle.std.proofs.Common.{◌≡◌, ℕ, true, refl, ap, sym, subst, ◌∙◌, rules}
use Rattle.engine_runs.specs.RunsState.{RunsState}
use Rattle.engine_runs.specs.RunPlaces.{HasRunAt}
use Rattle.world.specs.Lookups.{run_of}
use Rattle.world.proofs.Lists.Found.{found_key}
use Rattle.world.proofs.Steps.Moves.{run_key}
use Rattle.engine_core.proofs.Parking.{found_out, with_out_run}
use Rattle.engine_core.proofs.Performing.{resumes_it, resumes_nothing}
use Rattle.engine_core.proofs.run_events.resume.Goals as goal

-- no run of that number is parked

pub returns-in_default-clause-performs : goal.returns-in_default-clause-performs
returns-in_default-clause-performs c = λ transport. rw (c.refused.ensures) (resumes_nothing c.args.setting.now transport c.args.runs.now c.args.run (search rules))

-- a run that goes on, which stands where it stood while its right was made anew

pub returns-clause-performs : goal.returns-clause-performs
returns-clause-performs c = λ transport.
    let there = c.in-Some.ensures.place in
    let again = c.in_ok-again.ensures.again there.0 there.3 in
    let stands = subst (λ (r : RunsState). HasRunAt r.runs.list c.in-Some.place there.0) (sym c.run_at.ensures.same) there.3 in
    let after : c.set_out.new.self ≡ with_out_run there.0 true c.args.runs.now = subst (λ (r : RunsState). c.set_out.new.self ≡ with_out_run there.0 true r) c.run_at.ensures.same (c.set_out.ensures there.0 stands) in
    let named = again.number ∙ found_key run_key c.args.run c.args.runs.now.runs.list there.0 there.1 in
    resumes_it c.args.setting.now transport c.args.runs.now c.set_out.new.self c.args.run there.0 c.in_ok-again.again there.1 there.2 after
    named
    (λ world. record {
      out = record {
        it = _;
        found = ap (λ (n : ℕ). run_of n c.set_out.new.self.runs.list) named ∙ found_out c.args.runs.now c.set_out.new.self c.args.run there.0 there.1 after;
        out = refl;
        program_is = sym again.program;
        machine_is = sym again.machine;
      };
      budget = again.budget;
      limits = again.limits;
    })
