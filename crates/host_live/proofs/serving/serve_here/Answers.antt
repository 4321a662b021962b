use Rattle.std.proofs.Common.{◌≡◌, ◌∙◌, ℕ, Bool, true, refl, subst, sym}
use Rattle.trace.specs.Sinks.{HasFailed}
use Rattle.engine_core.specs.ByNumber.{NumberedState}
use Rattle.host_metrics.specs.Counted.{MetricsState}
use Rattle.host_live.specs.Growth.{GrowsBy, PrintedState, resumed_printed}
use Rattle.host_live.specs.Served.{IsGoneOn, IsGoneOnInPart, IsPrintedBehind}
use Rattle.host_live.proofs.Finishing.{next_point}
use Rattle.host_live.proofs.Growing.{failed_meanwhile}
use Rattle.host_live.specs.Metering.{CountsTo, IsCounted, MayCount}
use Rattle.host_live.specs.declared.reports.Moment.TheVariants.{End}
use Rattle.host_live.proofs.Metering.{counts_to}
use Rattle.host_live.proofs.Told.{closes_same, continues_closed, continues_part, continues_turns_closed, continues_turns_part, none_failed}
use Rattle.host_live.proofs.serving.serve_here.Goals as goal

pub returns-in-Ok-clause-told : goal.returns-in-Ok-clause-told
returns-in-Ok-clause-told g c = λ records behind are.
    let same : c.new-host.result.engine ≡ resumed_printed c.args.count c.args.engine c.replace-counted.result = c.new-host.ensures ∙ c.resumed-engine.ensures in
    let it = c.in-Ok.ensures.grown c.requires.stands.0 c.requires.stands.1 in
    continues_closed c.args.manner c.args.engine c.args.count c.replace-counted.result c.serve_resumed.new.host.engine (g.S.Outlet.bytes c.args.out.now) (g.S.Outlet.bytes c.serve_resumed.new.out) (g.S.Outlet.failures c.args.out.now) (g.S.Outlet.failures c.serve_resumed.new.out) it.more (subst (λ (e : PrintedState). GrowsBy it.more e (g.S.Outlet.bytes c.args.out.now) (g.S.Outlet.failures c.args.out.now) c.serve_resumed.new.host.engine (g.S.Outlet.bytes c.serve_resumed.new.out) (g.S.Outlet.failures c.serve_resumed.new.out)) same it.by) records behind c.close.result (g.S.Outlet.bytes c.close.new.out) are c.in-Ok.ensures.all c.in-Ok.ensures.whole (closes_same c.args.manner c.serve_resumed.new.host.engine c.hand_over.new.self.engine (g.S.Outlet.bytes c.serve_resumed.new.out) c.close.result (g.S.Outlet.bytes c.close.new.out) c.hand_over.ensures.engine c.hand_over.ensures.printed c.close.ensures.closed)

pub returns-in-Ok-clause-turned : goal.returns-in-Ok-clause-turned
returns-in-Ok-clause-turned g c = λ point records is behind are.
    let same : c.new-host.result.engine ≡ resumed_printed c.args.count c.args.engine c.replace-counted.result = c.new-host.ensures ∙ c.resumed-engine.ensures in
    let it = c.in-Ok.ensures.grown point is in
    let counted : IsCounted c.args.engine c.replace-counted.result it.more c.serve_resumed.new.host.engine.engine c.serve_resumed.new.host.engine.metrics =
    subst (λ (e : PrintedState). IsCounted e.engine e.metrics it.more c.serve_resumed.new.host.engine.engine c.serve_resumed.new.host.engine.metrics) same it.by.counted in
    continues_turns_closed c.args.manner c.args.engine c.args.count c.replace-counted.result c.serve_resumed.new.host.engine (g.S.Outlet.bytes c.args.out.now) (g.S.Outlet.bytes c.serve_resumed.new.out) (g.S.Outlet.failures c.args.out.now) (g.S.Outlet.failures c.serve_resumed.new.out) it.more (subst (λ (e : PrintedState). GrowsBy it.more e (g.S.Outlet.bytes c.args.out.now) (g.S.Outlet.failures c.args.out.now) c.serve_resumed.new.host.engine (g.S.Outlet.bytes c.serve_resumed.new.out) (g.S.Outlet.failures c.serve_resumed.new.out)) same it.by) records behind
    g.N.Reports.may_refuse point (g.I.Input.came c.serve_resumed.new.input) c.serve_resumed.new.lines (g.N.Reports.has_decided c.serve_resumed.new.reports) (CountsTo c.args.engine c.args.metrics.now (g.N.Reports.has_counted c.serve_resumed.new.reports End) c.hand_over.new.metrics) (g.S.Outlet.answers c.args.out.now) (g.S.Outlet.answers c.close.new.out) it.others (c.close.ensures.answers ∙ it.are_answers)
    (counts_to c.args.engine c.serve_resumed.new.host.engine.engine c.args.metrics.now c.replace-counted.result c.serve_resumed.new.host.engine.metrics c.hand_over.new.metrics (g.N.Reports.has_counted c.serve_resumed.new.reports End) it.more c.replace-counted.ensures.value c.hand_over.ensures.handed counted c.serve_resumed.ensures.reported)
    c.close.result c.in-Ok.is_followed (g.S.Outlet.bytes c.close.new.out) c.close.ensures.followed are c.in-Ok.ensures.all c.in-Ok.ensures.whole (closes_same c.args.manner c.serve_resumed.new.host.engine c.hand_over.new.self.engine (g.S.Outlet.bytes c.serve_resumed.new.out) c.close.result (g.S.Outlet.bytes c.close.new.out) c.hand_over.ensures.engine c.hand_over.ensures.printed c.close.ensures.closed)
    (subst (λ (e : PrintedState). IsGoneOn c.args.manner g.N.Reports.may_refuse e.engine (IsPrintedBehind e.printed (g.S.Outlet.bytes c.args.out.now)) point (g.I.Input.came c.serve_resumed.new.input) c.serve_resumed.new.lines (g.N.Reports.has_decided c.serve_resumed.new.reports) c.in-Ok.is_followed it.more it.others) same it.these)

pub returns-in-Ok-clause-unwritten : goal.returns-in-Ok-clause-unwritten
returns-in-Ok-clause-unwritten g c = λ is.
    let it = c.in-Ok.ensures.grown c.requires.stands.0 c.requires.stands.1 in
    let failed : HasFailed (g.S.Outlet.failures c.serve_resumed.new.out) (g.S.Outlet.failures c.close.new.out) = (rw is at c.close.ensures.failed).1 in
    subst (λ (n : ℕ). HasFailed n (g.S.Outlet.failures c.close.new.out)) (none_failed it.more c.new-host.result.engine c.serve_resumed.new.host.engine _ _ _ _ c.in-Ok.ensures.whole it.by) failed

pub returns-in-Ok-clause-stands : goal.returns-in-Ok-clause-stands
returns-in-Ok-clause-stands g c = λ is.
    let it = c.in-Ok.ensures.grown c.requires.stands.0 c.requires.stands.1 in
    let followed : c.in-Ok.is_followed ≡ true = sym (rw is at c.close.ensures.followed) in
    next_point c.args.manner g.N.Reports.may_refuse _ _ c.requires.stands.0 _ _ _ it.more it.others (subst (λ (b : Bool). IsGoneOn c.args.manner g.N.Reports.may_refuse c.new-host.result.engine.engine (IsPrintedBehind c.new-host.result.engine.printed (g.S.Outlet.bytes c.args.out.now)) c.requires.stands.0 (g.I.Input.came c.serve_resumed.new.input) c.serve_resumed.new.lines (g.N.Reports.has_decided c.serve_resumed.new.reports) b it.more it.others) followed it.these)

pub returns-in-Err-clause-told : goal.returns-in-Err-clause-told
returns-in-Err-clause-told g c = λ records behind are.
    let same : c.new-host.result.engine ≡ resumed_printed c.args.count c.args.engine c.replace-counted.result = c.new-host.ensures ∙ c.resumed-engine.ensures in
    let it = c.in-Err.ensures.grown c.requires.stands.0 c.requires.stands.1 in
    continues_part c.args.manner c.args.engine c.args.count c.replace-counted.result c.serve_resumed.new.host.engine (g.S.Outlet.bytes c.args.out.now) (g.S.Outlet.bytes c.serve_resumed.new.out) (g.S.Outlet.failures c.args.out.now) (g.S.Outlet.failures c.serve_resumed.new.out) it.more (subst (λ (e : PrintedState). GrowsBy it.more e (g.S.Outlet.bytes c.args.out.now) (g.S.Outlet.failures c.args.out.now) c.serve_resumed.new.host.engine (g.S.Outlet.bytes c.serve_resumed.new.out) (g.S.Outlet.failures c.serve_resumed.new.out)) same it.by) records behind Bool c.in-Err.fault

pub returns-in-Err-clause-turned : goal.returns-in-Err-clause-turned
returns-in-Err-clause-turned g c = λ point records is behind are.
    let same : c.new-host.result.engine ≡ resumed_printed c.args.count c.args.engine c.replace-counted.result = c.new-host.ensures ∙ c.resumed-engine.ensures in
    let it = c.in-Err.ensures.grown point is in
    let counted : IsCounted c.args.engine c.replace-counted.result it.more c.serve_resumed.new.host.engine.engine c.serve_resumed.new.host.engine.metrics =
    subst (λ (e : PrintedState). IsCounted e.engine e.metrics it.more c.serve_resumed.new.host.engine.engine c.serve_resumed.new.host.engine.metrics) same it.by.counted in
    continues_turns_part c.args.manner c.args.engine c.args.count c.replace-counted.result c.serve_resumed.new.host.engine (g.S.Outlet.bytes c.args.out.now) (g.S.Outlet.bytes c.serve_resumed.new.out) (g.S.Outlet.failures c.args.out.now) (g.S.Outlet.failures c.serve_resumed.new.out) it.more (subst (λ (e : PrintedState). GrowsBy it.more e (g.S.Outlet.bytes c.args.out.now) (g.S.Outlet.failures c.args.out.now) c.serve_resumed.new.host.engine (g.S.Outlet.bytes c.serve_resumed.new.out) (g.S.Outlet.failures c.serve_resumed.new.out)) same it.by) records behind
    g.N.Reports.may_refuse point (g.I.Input.came c.serve_resumed.new.input) c.serve_resumed.new.lines (g.N.Reports.has_decided c.serve_resumed.new.reports) (CountsTo c.args.engine c.args.metrics.now (g.N.Reports.has_counted c.serve_resumed.new.reports End) c.hand_over-in-Err.new.metrics) (g.S.Outlet.answers c.args.out.now) (g.S.Outlet.answers c.serve_resumed.new.out) it.others it.are_answers
    (counts_to c.args.engine c.serve_resumed.new.host.engine.engine c.args.metrics.now c.replace-counted.result c.serve_resumed.new.host.engine.metrics c.hand_over-in-Err.new.metrics (g.N.Reports.has_counted c.serve_resumed.new.reports End) it.more c.replace-counted.ensures.value c.hand_over-in-Err.ensures.handed counted c.serve_resumed.ensures.reported) c.in-Err.fault
    (subst (λ (e : PrintedState). IsGoneOnInPart c.args.manner g.N.Reports.may_refuse e.engine (IsPrintedBehind e.printed (g.S.Outlet.bytes c.args.out.now)) point (g.I.Input.came c.serve_resumed.new.input) it.more it.others) same it.these)

pub returns-in-Err-clause-unwritten : goal.returns-in-Err-clause-unwritten
returns-in-Err-clause-unwritten g c = λ is.
    let same : c.new-host.result.engine ≡ resumed_printed c.args.count c.args.engine c.replace-counted.result = c.new-host.ensures ∙ c.resumed-engine.ensures in
    let it = c.in-Err.ensures.grown c.requires.stands.0 c.requires.stands.1 in
    failed_meanwhile it.more (resumed_printed c.args.count c.args.engine c.replace-counted.result) c.serve_resumed.new.host.engine (g.S.Outlet.bytes c.args.out.now) (g.S.Outlet.bytes c.serve_resumed.new.out) (g.S.Outlet.failures c.args.out.now) (g.S.Outlet.failures c.serve_resumed.new.out) refl (c.serve_resumed.ensures.unwritten (c.in-Err.is ∙ is)) (subst (λ (e : PrintedState). GrowsBy it.more e (g.S.Outlet.bytes c.args.out.now) (g.S.Outlet.failures c.args.out.now) c.serve_resumed.new.host.engine (g.S.Outlet.bytes c.serve_resumed.new.out) (g.S.Outlet.failures c.serve_resumed.new.out)) same it.by)

pub serve_resumed-requires-clause-counts : goal.serve_resumed-requires-clause-counts
serve_resumed-requires-clause-counts g c =
    let same : c.new-host.result.engine ≡ resumed_printed c.args.count c.args.engine c.replace-counted.result = c.new-host.ensures ∙ c.resumed-engine.ensures in
    subst (λ (e : PrintedState). MayCount g.N.Reports.may_count e.engine e.metrics) (sym same)
    (subst (λ (m : MetricsState). MayCount g.N.Reports.may_count c.args.engine m) (sym c.replace-counted.ensures.value) c.requires.counts)
