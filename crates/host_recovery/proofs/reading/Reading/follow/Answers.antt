use Rattle.std.proofs.Common.{◌≡◌, Some, is_some, ap, refl, subst}
use Rattle.engine_core.specs.ByNumber.{NumberedState}
use Rattle.replay.specs.declared.fault.ReplayFault.TheVariants.{Behind}
use Rattle.replay.specs.Replaying.{FollowsIf}
use Rattle.host_recovery.specs.Reads.{ReadingState}
use Rattle.host_recovery.proofs.Leading.{none_of, some_still, stops_so}
use Rattle.host_recovery.proofs.reading.Reading.follow.Goals as goal

pub returns-then-is_some-clause-follows : goal.returns-then-is_some-clause-follows
returns-then-is_some-clause-follows c = λ config carried records counts leads.
    let same = ap (λ (r : ReadingState). is_some r.fault) c.self.view_is in
    some_still config c.args.self.now.version carried records c.args.entry.now c.args.self.now.fault c.args.self.now.engine c.args.self.now.engine (cc (same, c.is_some.ensures, c.if-is_some.true)) leads

pub returns-clause-follows : goal.returns-clause-follows
returns-clause-follows c = λ config carried records counts leads.
    let same = ap (λ (r : ReadingState). is_some r.fault) c.self.view_is in
    let lines = ap (λ (r : ReadingState). r.carried) c.self.view_is in
    let count = ap (λ (r : ReadingState). r.count) c.self.view_is in
    let engine : c.self.inside.engine ≡ c.args.self.now.engine = cc (ap (λ (r : ReadingState). r.engine) c.self.view_is) in
    let cannot = subst (λ (e : NumberedState). FollowsIf c.in_ok-follows.field-0 e c.args.entry.now c.follows.new.engine) engine c.in_ok-follows.ensures.follows in
    stops_so config c.args.self.now.version carried records c.args.self.now.fault c.args.self.now.engine c.follows.new.engine (none_of c.args.self.now.fault (cc (same, c.is_some.ensures, c.if-is_some.false))) leads
    c.args.entry.now c.in_ok-follows.field-0 c.self.inside.carried c.self.inside.count c.if-branch.false cannot (cc (lines, counts.0)) (cc (count, counts.1)) (Some (Behind c.self.inside.carried c.self.inside.count)) refl
