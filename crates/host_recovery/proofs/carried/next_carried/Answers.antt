use Rattle.std.proofs.Common.{◌≡◌, ◌++◌, ap, refl}
use Rattle.host_recovery.specs.Carries.{CarryingState}
use Rattle.host_recovery.proofs.CarriedReached.{carries_long, carries_more, tells_carried}
use Rattle.host_recovery.proofs.Reached.{some_text}
use Rattle.host_recovery.proofs.carried.next_carried.Goals as goal

pub returns-in-Torn-clause-other : goal.returns-in-Torn-clause-other
returns-in-Torn-clause-other g c = λ is. absurd (c.end_here.ensures.other is)

pub returns-in-Long-clause-says : goal.returns-in-Long-clause-says
returns-in-Long-clause-says g c = λ config from carries.
    let its = c.in-Long.ensures in
    let more = carries_more config from (g.S.Source.remaining c.args.source.now) c.args.lines.now.ahead c.args.carrying.now carries (g.S.Source.remaining c.next.new.source) its.0 (its.2 ++ its.3) its.1 its.4 in
    let count : c.carrying.inside.count ≡ c.args.carrying.now.count = cc (ap (λ (s : CarryingState). s.count) c.carrying.view_is) in
    tells_carried config from c.carrying.inside.count c.args.carrying.now.count c.broken.result count c.broken.ensures
    (carries_long config from (g.S.Source.remaining c.next.new.source) c.args.carrying.now (its.2 ++ its.3) its.2 its.3 more refl its.5 its.6)

pub returns-in-Failed-clause-says : goal.returns-in-Failed-clause-says
returns-in-Failed-clause-says g c = λ config from carries. some_text from
