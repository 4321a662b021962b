use Rattle.std.proofs.Common.{◌+◌, true, false, refl, sym, subst, ◌∙◌, arith}
use Rattle.workers.specs.declared.worker.Kept.TheVariants.{Completion, Run}
use Rattle.workers.specs.Serving.{HasServed, IsReady, WorkerState}
use Rattle.workers.proofs.Turns.{drives, finds_none, leaves_completion, leaves_run, none_started, one_started, passes, stays}
use Rattle.workers.proofs.driving.serve_next.Goals as goal

pub returns-then-worker-eq-MOST_STARTED-clause-served : goal.returns-then-worker-eq-MOST_STARTED-clause-served
returns-then-worker-eq-MOST_STARTED-clause-served g c = stays g.B.Origin.setup c.args.inbox.now c.args.worker.now c.requires

pub returns-in_default-clause-served : goal.returns-in_default-clause-served
returns-in_default-clause-served g c =
    let old : WorkerState = record { caller = c.worker.inside.caller; pass = c.worker.inside.pass; kept = c.worker.inside.kept; out_of_memory = c.worker.inside.out_of_memory; started = c.worker.inside.started; ended = c.worker.inside.ended } in
    let ready : IsReady c.args.inbox.now old = subst (IsReady c.args.inbox.now) (sym c.worker.view_is) c.requires in
    subst (λ (w : WorkerState). HasServed g.B.Origin.setup w (record { caller = c.worker.inside.caller; pass = c.take.new.pass; kept = c.worker.inside.kept; out_of_memory = c.worker.inside.out_of_memory; started = c.worker.inside.started; ended = c.worker.inside.ended })) c.worker.view_is
    (finds_none g.B.Origin.setup c.args.inbox.now old c.take.new.pass ready c.in_default.ensures.taken.0)

pub returns-in-Ok-clause-served : goal.returns-in-Ok-clause-served
returns-in-Ok-clause-served g c =
    let old : WorkerState = record { caller = c.worker.inside.caller; pass = c.worker.inside.pass; kept = c.worker.inside.kept; out_of_memory = c.worker.inside.out_of_memory; started = c.worker.inside.started; ended = c.worker.inside.ended } in
    let ready : IsReady c.args.inbox.now old = subst (IsReady c.args.inbox.now) (sym c.worker.view_is) c.requires in
    subst (λ (w : WorkerState). HasServed g.B.Origin.setup w (record { caller = c.drive.new.caller; pass = c.take.new.pass; kept = c.worker.inside.kept; out_of_memory = c.worker.inside.out_of_memory; started = c.worker.inside.started + 1; ended = c.worker.inside.ended + 1 })) c.worker.view_is
    (drives g.B.Origin.setup c.args.inbox.now old c.call.new.caller c.take.new.pass _ _ c.in-Success.ensures ready c.in-Some.ensures.same c.in-Some.ensures.taken c.in-Some-started_by.run'.number refl (one_started c.in-Success.given c.in-Some-started_by.run' c.in-Some-started_by.ensures.started) c.drive.new.caller (omega (arith, c.if-worker-eq-MOST_STARTED.false, ready.started)) c.in-Ok.ensures.ended)

pub returns-in-Err-clause-served : goal.returns-in-Err-clause-served
returns-in-Err-clause-served g c =
    let old : WorkerState = record { caller = c.worker.inside.caller; pass = c.worker.inside.pass; kept = c.worker.inside.kept; out_of_memory = c.worker.inside.out_of_memory; started = c.worker.inside.started; ended = c.worker.inside.ended } in
    let ready : IsReady c.args.inbox.now old = subst (IsReady c.args.inbox.now) (sym c.worker.view_is) c.requires in
    rw c.keep.ensures
    (subst (λ (w : WorkerState). HasServed g.B.Origin.setup w (record { caller = c.drive.new.caller; pass = c.take.new.pass; kept = Run c.in-Err.field-0.run; out_of_memory = c.is_for_memory.result; started = c.worker.inside.started + 1; ended = c.worker.inside.ended })) c.worker.view_is
    (leaves_run g.B.Origin.setup c.args.inbox.now old c.call.new.caller c.take.new.pass _ _ c.in-Success.ensures ready c.in-Some.ensures.same c.in-Some.ensures.taken c.in-Some-started_by.run'.number refl (one_started c.in-Success.given c.in-Some-started_by.run' c.in-Some-started_by.ensures.started) c.drive.new.caller (omega (arith, c.if-worker-eq-MOST_STARTED.false, ready.started)) c.in-Some-started_by.run' c.in-Err.field-0.run c.in-Err.field-0.why c.is_for_memory.result c.is_for_memory.ensures refl c.in-Err.ensures.kept))

pub returns-in_default-started_by-clause-served : goal.returns-in_default-started_by-clause-served
returns-in_default-started_by-clause-served g c =
    let old : WorkerState = record { caller = c.worker.inside.caller; pass = c.worker.inside.pass; kept = c.worker.inside.kept; out_of_memory = c.worker.inside.out_of_memory; started = c.worker.inside.started; ended = c.worker.inside.ended } in
    let ready : IsReady c.args.inbox.now old = subst (IsReady c.args.inbox.now) (sym c.worker.view_is) c.requires in
    subst (λ (w : WorkerState). HasServed g.B.Origin.setup w (record { caller = c.call.new.caller; pass = c.take.new.pass; kept = c.worker.inside.kept; out_of_memory = c.worker.inside.out_of_memory; started = c.worker.inside.started; ended = c.worker.inside.ended })) c.worker.view_is
    (passes g.B.Origin.setup c.args.inbox.now old c.call.new.caller c.take.new.pass _ _ c.in-Success.ensures ready c.in-Some.ensures.same c.in-Some.ensures.taken refl (none_started c.in-Success.given c.in_default-started_by.ensures.none))

pub returns-then-is_passed_over-clause-served : goal.returns-then-is_passed_over-clause-served
returns-then-is_passed_over-clause-served g c =
    let old : WorkerState = record { caller = c.worker.inside.caller; pass = c.worker.inside.pass; kept = c.worker.inside.kept; out_of_memory = c.worker.inside.out_of_memory; started = c.worker.inside.started; ended = c.worker.inside.ended } in
    let ready : IsReady c.args.inbox.now old = subst (IsReady c.args.inbox.now) (sym c.worker.view_is) c.requires in
    subst (λ (w : WorkerState). HasServed g.B.Origin.setup w (record { caller = c.call.new.caller; pass = c.take.new.pass; kept = c.worker.inside.kept; out_of_memory = c.worker.inside.out_of_memory; started = c.worker.inside.started; ended = c.worker.inside.ended })) c.worker.view_is
    (passes g.B.Origin.setup c.args.inbox.now old c.call.new.caller c.take.new.pass _ _ c.in-Refused.ensures ready c.in-Some.ensures.same c.in-Some.ensures.taken (sym c.is_passed_over.ensures ∙ c.if-is_passed_over.true) (λ it. refl))

pub returns-else-is_passed_over-clause-served : goal.returns-else-is_passed_over-clause-served
returns-else-is_passed_over-clause-served g c =
    let old : WorkerState = record { caller = c.worker.inside.caller; pass = c.worker.inside.pass; kept = c.worker.inside.kept; out_of_memory = c.worker.inside.out_of_memory; started = c.worker.inside.started; ended = c.worker.inside.ended } in
    let ready : IsReady c.args.inbox.now old = subst (IsReady c.args.inbox.now) (sym c.worker.view_is) c.requires in
    rw c.keep-in-Refused.ensures
    (subst (λ (w : WorkerState). HasServed g.B.Origin.setup w (record { caller = c.call.new.caller; pass = c.take.new.pass; kept = Completion c.in-Some.completion; out_of_memory = false; started = c.worker.inside.started; ended = c.worker.inside.ended })) c.worker.view_is
    (leaves_completion g.B.Origin.setup c.args.inbox.now old c.call.new.caller c.take.new.pass _ _ c.in-Refused.ensures ready c.in-Some.ensures.same c.in-Some.ensures.taken false (sym c.is_passed_over.ensures ∙ c.if-is_passed_over.false) (sym c.is_passed_over.ensures ∙ c.if-is_passed_over.false) refl (λ it. refl)))

pub returns-in-OutOfMemory-clause-served : goal.returns-in-OutOfMemory-clause-served
returns-in-OutOfMemory-clause-served g c =
    let old : WorkerState = record { caller = c.worker.inside.caller; pass = c.worker.inside.pass; kept = c.worker.inside.kept; out_of_memory = c.worker.inside.out_of_memory; started = c.worker.inside.started; ended = c.worker.inside.ended } in
    let ready : IsReady c.args.inbox.now old = subst (IsReady c.args.inbox.now) (sym c.worker.view_is) c.requires in
    rw c.keep-in-OutOfMemory.ensures
    (subst (λ (w : WorkerState). HasServed g.B.Origin.setup w (record { caller = c.call.new.caller; pass = c.take.new.pass; kept = Completion c.in-Some.completion; out_of_memory = true; started = c.worker.inside.started; ended = c.worker.inside.ended })) c.worker.view_is
    (leaves_completion g.B.Origin.setup c.args.inbox.now old c.call.new.caller c.take.new.pass _ _ c.in-OutOfMemory.ensures ready c.in-Some.ensures.same c.in-Some.ensures.taken true refl tt refl (λ it. refl)))
