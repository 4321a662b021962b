use Rattle.std.proofs.Common.{rules, ◌≡◌, List, ◌∷◌, ◌++◌, Bool, map, ap, sym, subst, ◌∙◌}
use Rattle.world_calls.specs.declared.record.Record.{Record}
use Rattle.replay.specs.Replaying.{FollowsIf}
use Rattle.replay.proofs.Replayed.{all_lead, stops_here}
use Rattle.replay.proofs.replaying.followed.Goals as goal

pub returns-then-not-branch : goal.returns-then-not-branch
returns-then-not-branch g c =
    let i = c.loop-record.invariant in
    let steps : c.loop-record.record-iterator ≡ c.in-Some.record.now ∷ c.next.new.self = search rules in
    let yielded = map (λ told. told.now) c.loop-record.yielded in
    stops_here c.args.engine.now.setup c.loop-record.engine c.follows.new.engine yielded c.next.new.self c.args.records.now.items c.in-Some.record.now c.loop-record.count i.0 i.1 i.2
    (ap (λ (rest : List Record). yielded ++ rest) (sym steps) ∙ i.3)
    (subst (λ (b : Bool). FollowsIf b c.loop-record.engine c.in-Some.record.now c.follows.new.engine) c.if-not-branch.true c.in_ok-follows.ensures.follows)

pub returns : goal.returns
returns g c =
    let i = c.loop-record.invariant in
    let yielded = map (λ told. told.now) c.loop-record.yielded in
    all_lead c.args.engine.now.setup c.loop-record.engine yielded c.args.records.now.items c.loop-record.count i.0 i.1 i.2
    (ap (λ (rest : List Record). yielded ++ rest) (sym c.in-None.ensures.steps.0) ∙ i.3)
