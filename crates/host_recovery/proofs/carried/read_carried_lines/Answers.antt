use Rattle.std.proofs.Common.{◌≡◌, ◌≤◌, ℕ, Ok, ap, subst}
use Rattle.std.proofs.lemmas.Result.{err_from_is_err_and}
use Rattle.host_recovery.specs.Carries.{CameSays, CarryingState}
use Rattle.host_recovery.specs.declared.carried.Came.{Came}
use Rattle.host_recovery.specs.declared.recovering.TheConstants.{MOST_WHOLE}
use Rattle.host_recovery.proofs.CarriedReached.{carries_too_much}
use Rattle.host_recovery.proofs.carried.read_carried_lines.Goals as goal

pub returns-in_err-next_carried-clause-says : goal.returns-in_err-next_carried-clause-says
returns-in_err-next_carried-clause-says g c =
    let p = err_from_is_err_and c.from_residual.result c.from_residual.ensures.1 in
    rw (p.1, p.2) (λ config from carries. c.in_err-next_carried.ensures.says config from (c.loop-carrying.invariant.carries config from carries))

pub returns-in-Other-clause-says : goal.returns-in-Other-clause-says
returns-in-Other-clause-says g c = λ config from carries.
    subst (λ (r : Came). CameSays config from (Ok r) c.next_carried.new.carrying c.next_carried.new.lines (g.S.Source.remaining c.next_carried.new.source)) c.in-Other.is
    (c.in_ok-next_carried.ensures.says config from (c.loop-carrying.invariant.carries config from carries))

pub returns-in-End-clause-says : goal.returns-in-End-clause-says
returns-in-End-clause-says g c = λ config from carries.
    subst (λ (r : Came). CameSays config from (Ok r) c.next_carried.new.carrying c.next_carried.new.lines (g.S.Source.remaining c.next_carried.new.source)) c.in-End.is
    (c.in_ok-next_carried.ensures.says config from (c.loop-carrying.invariant.carries config from carries))

pub returns-clause-says : goal.returns-clause-says
returns-clause-says g c = λ config from carries.
    let whole : c.carrying.inside.whole ≡ c.loop-carrying.carrying.whole = cc (ap (λ (s : CarryingState). s.whole) c.carrying.view_is) in
    carries_too_much config from (g.S.Source.remaining c.loop-carrying.source) c.loop-carrying.lines.ahead c.loop-carrying.carrying (c.loop-carrying.invariant.carries config from carries) MOST_WHOLE
    (subst (λ (n : ℕ). MOST_WHOLE ≤ n) whole c.loop-carrying-test.false)
