use Rattle.std.proofs.Common.{◌≡◌, ◌∙◌, true, false, Some, is_some, ap, refl, sym}
use Rattle.engine_core.specs.ByNumber.{NumberedState, sums_behind}
use Rattle.replay.specs.declared.fault.ReplayFault.TheVariants.{Behind}
use Rattle.host_recovery.specs.Reads.{ReadingState}
use Rattle.host_recovery.proofs.Leading.{no_sums_so, none_of, some_at_end, sums_so}
use Rattle.host_recovery.proofs.reading.Reading.check.Goals as goal

pub returns-then-is_some-clause-follows : goal.returns-then-is_some-clause-follows
returns-then-is_some-clause-follows c = λ config carried records counts leads.
    let same = ap (λ (r : ReadingState). is_some r.fault) c.self.view_is in
    some_at_end config c.args.self.now.version carried records c.args.totals c.args.self.now.fault c.args.self.now.engine c.args.self.now.engine (cc (same, c.is_some.ensures, c.if-is_some.true)) leads

pub returns-then-is_same-clause-follows : goal.returns-then-is_same-clause-follows
returns-then-is_same-clause-follows c = λ config carried records counts leads.
    let same = ap (λ (r : ReadingState). is_some r.fault) c.self.view_is in
    let count = ap (λ (r : ReadingState). r.count) c.self.view_is in
    let engine = ap (λ (r : ReadingState). r.engine) c.self.view_is in
    let is : c.args.totals ≡ sums_behind c.args.self.now.count c.args.self.now.engine = cc (c.is_same.ensures.0 c.if-is_same.true, c.totals.ensures, count, engine) in
    sums_so config c.args.self.now.version carried records c.args.self.now.fault c.args.self.now.engine c.args.self.now.engine (none_of c.args.self.now.fault (cc (same, c.is_some.ensures, c.if-is_some.false))) leads
    c.args.totals c.args.self.now.count counts.1 is

pub returns-clause-follows : goal.returns-clause-follows
returns-clause-follows c = λ config carried records counts leads.
    let same = ap (λ (r : ReadingState). is_some r.fault) c.self.view_is in
    let lines : c.self.inside.carried ≡ c.args.self.now.carried = cc (ap (λ (r : ReadingState). r.carried) c.self.view_is) in
    let count : c.self.inside.count ≡ c.args.self.now.count = cc (ap (λ (r : ReadingState). r.count) c.self.view_is) in
    let engine : c.self.inside.engine ≡ c.args.self.now.engine = cc (ap (λ (r : ReadingState). r.engine) c.self.view_is) in
    no_sums_so config c.args.self.now.version carried records c.args.self.now.fault c.args.self.now.engine c.args.self.now.engine (none_of c.args.self.now.fault (cc (same, c.is_some.ensures, c.if-is_some.false))) leads
    c.args.totals c.self.inside.carried c.self.inside.count (lines ∙ counts.0) (count ∙ counts.1)
    (λ is.
    let made : c.totals.result ≡ c.args.totals = c.totals.ensures ∙ (ap (λ (e : NumberedState). sums_behind c.self.inside.count e) engine ∙ is) in
    let bad : false ≡ true = sym c.if-is_same.false ∙ c.is_same.ensures.1 made in
    cc)
    (Some (Behind c.self.inside.carried c.self.inside.count)) refl
